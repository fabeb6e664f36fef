use Rattle.laws_run.proofs.TablesAndStreams.{streams_come_back}
use Rattle.laws_run.proofs.carried.streams_come_back.Goals as goal

pub returns : goal.returns
returns c = streams_come_back
