use Rattle.explained_jobs.proofs.NextFronts.{nothing_said}
use Rattle.explained_jobs.proofs.next_fronts.judged_front.Goals as goal

pub returns-in-None : goal.returns-in-None
returns-in-None c =
    nothing_said c.args.old.now c.args.new.now c.args.texts.now c.in_ok-front.front.items c.deref.result.now c.args.plan.now c.in_ok-front_fault.field-0
    c.in_ok-front.ensures c.deref.ensures.value c.in-None.is c.in_ok-front_fault.ensures
