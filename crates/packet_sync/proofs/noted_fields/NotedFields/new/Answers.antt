use Rattle.packet_sync.proofs.FieldMasks.{masks_of_none}
use Rattle.packet_sync.proofs.noted_fields.NotedFields.new.Goals as goal

pub invariant_of-result : goal.invariant_of-result
invariant_of-result g c = masks_of_none c.new-2.result.items c.new.result.items c.new-2.ensures.items c.new.ensures.items
