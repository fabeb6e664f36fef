use Rattle.std.proofs.Common.{List}
use Rattle.unit_timing.specs.Buffers.{tb_size}
use Rattle.slot_plan.specs.declared.slot.Item.TheVariants.{Stream}
use Rattle.slot_plan.specs.declared.condition.Condition.TheVariants.{TransportBuffer}
use Rattle.slot_plan.specs.Items.{marks}
use Rattle.slot_plan.specs.Claims.{stream_claim}
use Rattle.slot_plan.specs.Entries.{Entry}
use Rattle.slot_plan.specs.Conditions.{buffer_entries, stream_emptied_entries}
use Rattle.plan_checker.proofs.FailingSearch.{then_next}
use Rattle.plan_checker.proofs.buffers.stream_buffer.Goals as goal

pub returns : goal.returns
returns g c =
    let s = c.args.stream.now in
    let d = c.args.plans.now.description.now in
    let p = c.args.plans.now.plan.now in
    let rooms : List Entry = buffer_entries TransportBuffer c.args.i d.rate s.rx tb_size (stream_claim p c.args.i).start (stream_claim p c.args.i).peak
    (marks (Stream c.args.i) p.slots) in
    then_next _ _ _ rooms (stream_emptied_entries d p c.args.i s s.multiplexing) c.stream_overflow.ensures c.stream_emptied.ensures
