use Rattle.own_slots.proofs.switch.switch_work.Goals as goal
use Rattle.own_slots.proofs.WorkLemmas.{switch_work_law}

pub returns : goal.returns
returns c = switch_work_law
