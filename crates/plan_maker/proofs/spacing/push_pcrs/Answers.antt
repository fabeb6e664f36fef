use Rattle.std.proofs.Common.{◌≡◌, ◌<◌, ◌≤◌, length, get_or}
use Rattle.plan_maker.specs.Spacings.{spaced_clock}
use Rattle.plan_maker.proofs.GrowingLists.{parts_pushed, all_parts_pushed}
use Rattle.plan_maker.proofs.spacing.push_pcrs.Goals as goal

pub loop-i-preserved : goal.loop-i-preserved
loop-i-preserved g c =
    let d = c.args.description.now in
    let x = c.program-item.result in
    let i = c.loop-i.i in
    let at : x ≡ get_or d.programs i x = rw c.programs-program-items.ensures.value at c.program-item.is in
    let below : i < length d.programs = rw c.programs-program-items.ensures.value at c.loop-i-test.true in
    rw c.in_ok-push_clock.ensures (parts_pushed (spaced_clock d) d.programs _ c.loop-i.items.items i x below at c.loop-i.invariant)

pub returns : goal.returns
returns g c =
    let d = c.args.description.now in
    let over : length d.programs ≤ c.loop-i.i = rw c.programs-program-items.ensures.value at c.loop-i-test.false in
    all_parts_pushed (spaced_clock d) d.programs _ c.loop-i.items.items c.loop-i.i over c.loop-i.invariant
