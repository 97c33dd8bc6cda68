use Rattle.std.proofs.Common.{sym, arith}
use Rattle.std.proofs.lemmas.Bool.Decides.{nat_tests}
use Rattle.rigset.proofs.Operations.{insert_new, insert_past, insert_old}
use Rattle.rigset.proofs.set.RigSet.insert.Goals as goal
use Rattle.rigset.proofs.set.RigSet.insert.Goals.{then-rig-ge-RIGS_MAX-via-then-rig-ge-RIGS_MAX, then-rig-ge-RIGS_MAX-via-else-rig-ge-RIGS_MAX+then-contains}

pub returns-then-rig-ge-RIGS_MAX : goal.returns-then-rig-ge-RIGS_MAX
returns-then-rig-ge-RIGS_MAX c =
    let m = c.args.self.now.word in
    let rig = c.args.rig in
    elim c.then-rig-ge-RIGS_MAX.branch [
      | then-rig-ge-RIGS_MAX-via-then-rig-ge-RIGS_MAX w ↦ record { set = insert_past m rig (omega arith); answer = grind (arith, nat_tests) }
      | then-rig-ge-RIGS_MAX-via-else-rig-ge-RIGS_MAX+then-contains w ↦
          let in_set = sym w.if-contains.ensures.answer in
          record { set = insert_old m rig in_set; answer = grind (arith, nat_tests) }
    ]

pub returns : goal.returns
returns c =
    let out = sym c.if-contains.ensures.answer in
    record { set = insert_new c.args.self.now.word c.args.rig (omega arith); answer = grind (arith, nat_tests) }
