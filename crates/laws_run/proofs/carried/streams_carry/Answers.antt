use Rattle.laws_run.proofs.TablesAndStreams.{streams_carry}
use Rattle.laws_run.proofs.carried.streams_carry.Goals as goal

pub returns : goal.returns
returns c = streams_carry
