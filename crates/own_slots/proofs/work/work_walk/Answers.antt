use Rattle.own_slots.proofs.work.work_walk.Goals as goal
use Rattle.own_slots.proofs.WorkLemmas.{work_walk_law}

pub returns : goal.returns
returns c = work_walk_law
