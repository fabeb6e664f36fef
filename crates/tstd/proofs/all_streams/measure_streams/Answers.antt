use Rattle.std.proofs.Common.{◌≡◌, ◌∙◌, ◌+◌, ◌<◌, ◌≤◌, ◌∷◌, [], drop, arith, sym, length, get_or}
use Rattle.std.proofs.lemmas.Bool.{and_parts}
use Rattle.std.proofs.lemmas.List.{length-append}
use Rattle.pes_packet.specs.Units.{units_of}
use Rattle.tstd.specs.Carried.{carries}
use Rattle.tstd.specs.PidPackets.{packets_from}
use Rattle.tstd.specs.Refusals.{all_carried}
use Rattle.tstd.proofs.StreamsInTurn.{streams_next, carried_next, late_step, late_done, late_same, full_same, enough}
use Rattle.tstd.proofs.all_streams.measure_streams.Goals as goal

pub measure_stream-requires-clause-carried : goal.measure_stream-requires-clause-carried
measure_stream-requires-clause-carried g c =
    let d = c.args.description.now in
    let u = c.stream-item.result in
    let i = c.loop-number.number in
    let at : u ≡ get_or d.streams i u = rw c.streams-stream-items.ensures.value at c.stream-item.is in
    let below : i < length d.streams = rw c.streams-stream-items.ensures.value at c.loop-number-test.true in
    let both = sym (carried_next d c.args.units.now c.args.bytes.now d.streams u i below at) ∙ c.loop-number.invariant.carried in
    let parts = and_parts (carries u.pid u.stream_id d.base0 (units_of i c.args.units.now) c.args.bytes.now)
    (all_carried d c.args.units.now c.args.bytes.now (i + 1) (drop (i + 1) d.streams)) both in
    rw c.base0.ensures.value
    (enough u.pid u.stream_id d.base0 (units_of i c.args.units.now) c.args.bytes.now c.as_chunks.result.0.now c.as_chunks.ensures.front parts.0)

pub loop-number-preserved : goal.loop-number-preserved
loop-number-preserved g c =
    let inv = c.loop-number.invariant in
    let d = c.args.description.now in
    let u = c.stream-item.result in
    let i = c.loop-number.number in
    let v = c.in_ok-fullness.fullness in
    let units = c.args.units.now in
    let bytes = c.args.bytes.now in
    let chunks = c.as_chunks.result.0.now in
    let at : u ≡ get_or d.streams i u = rw c.streams-stream-items.ensures.value at c.stream-item.is in
    let below : i < length d.streams = rw c.streams-stream-items.ensures.value at c.loop-number-test.true in
    let both = sym (carried_next d units bytes d.streams u i below at) ∙ inv.carried in
    let rate = c.bits_per_second-rate.ensures.value ∙ c.rate.ensures in
    let is = full_same d.rate c.bits_per_second-rate.result d.base0 c.base0.result u (units_of i units) (packets_from u.pid 0 chunks) v rate
    c.base0.ensures.value c.in_ok-fullness.ensures.fullness in
    let first = c.in_ok-fullness.ensures.late ∙ late_same d.rate c.bits_per_second-rate.result d.base0 c.base0.result (length chunks) u (units_of i units) bytes
    chunks
    rate c.base0.ensures.value c.as_chunks.ensures.front_len c.as_chunks.ensures.front in
    record {
      count = rw c.in_ok-push.ensures.items (length-append c.loop-number.streams.items (v ∷ []) ∙ omega (arith, inv.count));
      each = λ number s f there full. streams_next d.rate d.base0 units bytes chunks d.streams c.loop-number.streams.items v u i
          c.as_chunks.ensures.front inv.count at is inv.each number s f there (rw c.in_ok-push.ensures.items at full);
      carried = (and_parts (carries u.pid u.stream_id d.base0 (units_of i units) bytes) (all_carried d units bytes (i + 1) (drop (i + 1) d.streams)) both).1;
      late = rw c.first_of-late.ensures (late_step d units bytes d.streams u i c.loop-number.late c.in_ok-fullness.first below at first ∙ inv.late);
    }

pub returns-clause-late : goal.returns-clause-late
returns-clause-late g c =
    let d = c.args.description.now in
    let over : length d.streams ≤ c.loop-number.number = rw c.streams-stream-items.ensures.value at c.loop-number-test.false in
    sym (late_done d c.args.units.now c.args.bytes.now d.streams c.loop-number.number c.loop-number.late over) ∙ c.loop-number.invariant.late
