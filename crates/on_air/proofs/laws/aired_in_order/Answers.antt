use Rattle.on_air.proofs.InOrder.{aired_in_order}
use Rattle.on_air.proofs.laws.aired_in_order.Goals as goal

pub returns : goal.returns
returns c = aired_in_order
