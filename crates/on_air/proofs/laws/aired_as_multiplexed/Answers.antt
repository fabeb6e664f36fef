use Rattle.on_air.proofs.AsMultiplexed.{aired_as_multiplexed}
use Rattle.on_air.proofs.laws.aired_as_multiplexed.Goals as goal

pub returns : goal.returns
returns c = aired_as_multiplexed
