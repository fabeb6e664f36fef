use Rattle.laws_pipe.proofs.AiredJobs.{airs_what_mux_writes}
use Rattle.laws_pipe.proofs.air_laws.same_output.Goals as goal

pub returns : goal.returns
returns c = airs_what_mux_writes
