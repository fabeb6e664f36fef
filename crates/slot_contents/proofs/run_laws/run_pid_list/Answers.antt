use Rattle.slot_contents.proofs.Runs.{run_pid_list}
use Rattle.slot_contents.proofs.run_laws.run_pid_list.Goals as goal

pub returns : goal.returns
returns c = run_pid_list
