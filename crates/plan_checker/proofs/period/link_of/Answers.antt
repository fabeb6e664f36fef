use Rattle.std.proofs.Common.{refl}
use Rattle.plan_checker.proofs.OwnWalks.{linked_at}
use Rattle.plan_checker.proofs.period.link_of.Goals as goal

pub returns-in-Some-get : goal.returns-in-Some-get
returns-in-Some-get c =
    linked_at c.args.slots.now c.in-Some.links.now _ c.args.at c.in-Some-get.next.now (rw c.in-Some.is at c.requires.linked) c.requires.within refl
    (c.in-Some-get.ensures.lookup.3.1 0)
