use Rattle.std.proofs.Common.{◌≡◌, ◌∙◌, ◌++◌, ◌∷◌, [], Some, None, rules}
use Rattle.slot_plan.specs.Text.{slot_ending}
use Rattle.slot_plan.specs.Readers.{slot_at}
use Rattle.slot_plan.proofs.ReaderSteps.{slot_more, slot_none, is_none_read, is_some_read}
use Rattle.slot_plan.proofs.reader.slots_at.Goals as goal

pub returns-in_default : goal.returns-in_default
returns-in_default g c =
    let none : slot_at (slot_ending c.args.period c.loop-index.index) c.loop-index.rest.now ≡ None
    = is_none_read _ _ _ (rw c.slot_ending.ensures at c.slot_at.ensures) c.in_default.is in
    c.loop-index.invariant ∙ slot_none c.args.period c.loop-index.index c.loop-index.rest.now c.loop-index.slots.items c.loop-index-test.true none

pub loop-index-preserved : goal.loop-index-preserved
loop-index-preserved g c =
    let some : slot_at (slot_ending c.args.period c.loop-index.index) c.loop-index.rest.now ≡ Some (c.in-Some.slot, c.in-Some.after.now)
    = is_some_read _ _ _ _ (rw c.slot_ending.ensures at c.slot_at.ensures) c.in-Some.is in
    let pushed : c.push.new.self.items ≡ c.loop-index.slots.items ++ c.in-Some.slot ∷ [] = search rules in
    rw pushed (c.loop-index.invariant ∙ slot_more c.args.period c.loop-index.index c.loop-index.rest.now c.in-Some.after.now c.loop-index.slots.items
    c.in-Some.slot c.loop-index-test.true some)
