use Rattle.mux_core.proofs.DecodedRuns.{decoded}
use Rattle.mux_core.proofs.PutTogether.{put_law}
use Rattle.mux_core.proofs.laws.decoded.Goals as goal

pub returns-clause-put : goal.returns-clause-put
returns-clause-put c = put_law

pub returns-clause-decoded : goal.returns-clause-decoded
returns-clause-decoded c = decoded
