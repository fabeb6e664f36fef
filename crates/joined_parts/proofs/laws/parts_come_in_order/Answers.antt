use Rattle.joined_parts.proofs.PartOrder.{in_order}
use Rattle.joined_parts.proofs.laws.parts_come_in_order.Goals as goal

pub returns : goal.returns
returns c = in_order
