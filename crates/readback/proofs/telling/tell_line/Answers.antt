use Rattle.std.proofs.Common.{arith, rules}
use Rattle.script.specs.Format.{meaning}
use Rattle.script.proofs.ReadBack.{accepted_writes}
use Rattle.script.specs.declared.writing.WriteRefusal.{WriteRefusal}
use Rattle.readback.proofs.telling.tell_line.Goals as goal

pub unwrap-n-requires : goal.unwrap-n-requires
unwrap-n-requires c =
    let w = λ (e : WriteRefusal). accepted_writes c.args.line.now (meaning c.in-Ok.command) 81 e c.in-Ok.ensures.judged (omega arith) in
    search (rules, w)
