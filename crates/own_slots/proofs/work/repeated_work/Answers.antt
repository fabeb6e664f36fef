use Rattle.own_slots.proofs.work.repeated_work.Goals as goal
use Rattle.own_slots.proofs.WorkLemmas.{work_law}

pub returns : goal.returns
returns c = work_law
