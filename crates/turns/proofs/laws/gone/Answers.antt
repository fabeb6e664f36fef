use Rattle.turns.proofs.GoneStreams.{gone_stream_law}
use Rattle.turns.proofs.PidsOver.{gone_law}
use Rattle.turns.proofs.laws.gone.Goals as goal

pub returns-clause-pid : goal.returns-clause-pid
returns-clause-pid c = gone_law

pub returns-clause-stream : goal.returns-clause-stream
returns-clause-stream c = gone_stream_law
