use Rattle.tsair_cli.proofs.frame_laws.writers_are_read.Goals as goal
use Rattle.tsair_cli.proofs.Writers.{writers_are_read}

pub returns : goal.returns
returns c = writers_are_read
