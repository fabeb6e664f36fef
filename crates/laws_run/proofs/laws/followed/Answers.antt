use Rattle.laws_run.proofs.FollowedTables.{followed}
use Rattle.laws_run.proofs.laws.followed.Goals as goal

pub returns : goal.returns
returns c = followed
