use Rattle.stream_choice.proofs.laws.shares_serve.Goals as goal
use Rattle.stream_choice.proofs.ShareProof.{share_law}

pub returns : goal.returns
returns c = share_law
