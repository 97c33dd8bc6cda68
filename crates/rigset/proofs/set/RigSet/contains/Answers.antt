use Rattle.std.proofs.Common.{sym, ◌∙◌, arith, rules}
use Rattle.std.proofs.lemmas.Bool.{le-ltb}
use Rattle.rigset.proofs.Digits.{has_past}
use Rattle.rigset.proofs.Operations.{digit_has}
use Rattle.rigset.proofs.set.RigSet.contains.Goals as goal

pub returns-then-rig-lt-RIGS_MAX : goal.returns-then-rig-lt-RIGS_MAX
returns-then-rig-lt-RIGS_MAX c =
    record { answer = digit_has c.args.self.word c.args.rig; within = λ _. c.if-rig-lt-RIGS_MAX.true }

pub returns-else-rig-lt-RIGS_MAX : goal.returns-else-rig-lt-RIGS_MAX
returns-else-rig-lt-RIGS_MAX c =
    let out = has_past 64 c.args.self.word c.args.rig (omega arith) (omega arith) in
    record { answer = le-ltb c.args.rig 64 (omega arith) ∙ sym out; within = search rules }
