use Rattle.view_page.specs.Values.{with_greatest}
use Rattle.view_page.proofs.values.Values.take_drift.Goals as goal

pub returns : goal.returns
returns c = λ kept a. c.take_offset.ensures (with_greatest kept c.args.clock.now) (c.note_drift.ensures kept a)
