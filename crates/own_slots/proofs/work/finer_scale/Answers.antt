use Rattle.own_slots.proofs.work.finer_scale.Goals as goal
use Rattle.own_slots.proofs.WorkLemmas.{work_scale_law}

pub returns : goal.returns
returns c = work_scale_law
