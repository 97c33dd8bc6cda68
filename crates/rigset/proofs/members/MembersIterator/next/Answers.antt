use Rattle.std.proofs.Common.{arith, rules}
use Rattle.rigset.proofs.Counts.{size_without}
use Rattle.rigset.proofs.members.MembersIterator.next.Goals as goal
use Rattle.std.proofs.iter.Next.{firm}

pub returns : goal.returns
returns c =
    let low = c.in_ok-rig.ensures in
    let left = c.remove.ensures.set in
    let fewer =
    size_without c.args.self.now.rest.word c.remove.new.self.word c.in_ok-rig.rig low.within
    low.member left in
    record { steps = (low, left); goes = firm ((tt, tt, omega arith)) (λ h. search rules) }
