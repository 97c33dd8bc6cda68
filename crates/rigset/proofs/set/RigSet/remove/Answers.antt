use Rattle.std.proofs.Common.{◌<◌, sym, arith, rules}
use Rattle.rigset.proofs.Operations.{remove_old, remove_none}
use Rattle.rigset.proofs.set.RigSet.remove.Goals as goal

pub returns-then-not-contains : goal.returns-then-not-contains
returns-then-not-contains c =
    let out = c.if-not-contains.ensures.answer in
    record { set = remove_none c.args.self.now.word c.args.rig (sym out); answer = out }

pub returns : goal.returns
returns c =
    let rig : c.args.rig < 64 = search rules in
    record {
      set = remove_old c.args.self.now.word c.args.rig (omega arith) rig;
      answer = c.if-not-contains.ensures.answer;
    }
