use Rattle.laws_run.proofs.WorkedSwitch.{worked_switch_run}
use Rattle.laws_run.proofs.laws.worked_switch.Goals as goal

pub returns : goal.returns
returns c = worked_switch_run c.accepted_switch.ensures
