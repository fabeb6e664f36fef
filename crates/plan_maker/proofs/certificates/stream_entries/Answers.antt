use Rattle.std.proofs.Common.{◌≡◌, ◌<◌, ◌≤◌, [], length, get_or}
use Rattle.slot_plan.specs.Planned.{is_small_stream}
use Rattle.plan_maker.specs.Certificates.{stream_entry_of}
use Rattle.plan_maker.proofs.GrowingLists.{pushed, all_pushed, still_all}
use Rattle.plan_maker.proofs.certificates.stream_entries.Goals as goal

pub loop-i-preserved : goal.loop-i-preserved
loop-i-preserved g c =
    let d = c.args.description.now in
    let i = c.loop-i.i in
    let x = c.stream-item.result in
    let at : x ≡ get_or d.streams i x = rw c.streams-stream-items.ensures.value at c.stream-item.is in
    let below : i < length d.streams = rw c.streams-stream-items.ensures.value at c.loop-i-test.true in
    record {
      entries = rw (c.in_ok-push.ensures.items, c.stream_entry.ensures.entry)
          (pushed (stream_entry_of d c.args.slots.now) d.streams [] c.loop-i.entries.items i x below at c.loop-i.invariant.entries);
      small = rw c.in_ok-push.ensures.items
          (still_all is_small_stream c.loop-i.entries.items c.stream_entry.result c.loop-i.invariant.small c.stream_entry.ensures.small);
    }

pub returns-clause-entries : goal.returns-clause-entries
returns-clause-entries g c =
    let d = c.args.description.now in
    let over : length d.streams ≤ c.loop-i.i = rw c.streams-stream-items.ensures.value at c.loop-i-test.false in
    all_pushed (stream_entry_of d c.args.slots.now) d.streams [] c.loop-i.entries.items c.loop-i.i over c.loop-i.invariant.entries
