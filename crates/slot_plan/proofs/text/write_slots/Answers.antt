use Rattle.std.proofs.Common.{length}
use Rattle.slot_plan.specs.Text.{slot_word}
use Rattle.slot_plan.proofs.NumberedLists.{written_more}
use Rattle.slot_plan.proofs.text.write_slots.Goals as goal

pub loop-index-preserved : goal.loop-index-preserved
loop-index-preserved g c =
    written_more (slot_word (length c.args.slots.now)) c.args.slots.now c.loop-index.index _ _ _ _ c.loop-index-test.true c.in_ok-write_slot.ensures
    c.loop-index.invariant
