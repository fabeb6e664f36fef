use Rattle.laws_pipe.proofs.AiredJobs.{refuses_none}
use Rattle.laws_pipe.proofs.air_laws.none_refused.Goals as goal

pub returns : goal.returns
returns c = refuses_none
