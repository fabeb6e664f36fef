use Rattle.description.proofs.Networks.{network_law}
use Rattle.description.proofs.laws.networks.Goals as goal

pub returns : goal.returns
returns c = network_law
