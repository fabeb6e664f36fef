use Rattle.std.proofs.Common.{◌≡◌, ◌∙◌, ◌<◌, ◌≤◌, true, false, Some, refl, ap, sym, subst, length, get_or}
use Rattle.std.proofs.lemmas.List.Elements.{All-get_or}
use Rattle.description_parts.specs.Ranges.{IsStream}
use Rattle.pes_packet.specs.Units.{units_of}
use Rattle.tstd.specs.Carried.{carries}
use Rattle.tstd.proofs.StreamsInTurn.{carried_next, carried_end, carries_same, declared_fit, gets}
use Rattle.tstd.proofs.all_streams.all_carried.Goals as goal

pub carries-requires : goal.carries-requires
carries-requires g c =
    let d = c.args.description.now in
    let u = c.stream-item.result in
    let i = c.loop-number.number in
    let at : u ≡ get_or d.streams i u = rw c.streams-stream-items.ensures.value at c.stream-item.is in
    let below : i < length d.streams = rw c.streams-stream-items.ensures.value at c.loop-number-test.true in
    let stream : IsStream u = subst IsStream (sym at) (All-get_or IsStream d.streams i u below c.streams-stream-items.ensures.ranges.streams) in
    declared_fit d i u c.args.units.now (gets d.streams i u below ∙ ap Some (sym at)) stream c.requires

pub loop-number-preserved : goal.loop-number-preserved
loop-number-preserved g c =
    let d = c.args.description.now in
    let u = c.stream-item.result in
    let i = c.loop-number.number in
    let at : u ≡ get_or d.streams i u = rw c.streams-stream-items.ensures.value at c.stream-item.is in
    let below : i < length d.streams = rw c.streams-stream-items.ensures.value at c.loop-number-test.true in
    let same = carries_same u.pid u.stream_id c.base0.result (units_of i c.args.units.now) c.args.bytes.now c.as_chunks.result.0.now
    c.as_chunks.ensures.front in
    let yes : carries u.pid u.stream_id d.base0 (units_of i c.args.units.now) c.args.bytes.now ≡ true =
    rw c.base0.ensures.value at (sym same ∙ sym c.carries.ensures ∙ c.if-not-carries.false) in
    sym (carried_next d c.args.units.now c.args.bytes.now d.streams u i below at ∙ rw yes refl) ∙ c.loop-number.invariant

pub returns-then-not-carries : goal.returns-then-not-carries
returns-then-not-carries g c =
    let d = c.args.description.now in
    let u = c.stream-item.result in
    let i = c.loop-number.number in
    let at : u ≡ get_or d.streams i u = rw c.streams-stream-items.ensures.value at c.stream-item.is in
    let below : i < length d.streams = rw c.streams-stream-items.ensures.value at c.loop-number-test.true in
    let same = carries_same u.pid u.stream_id c.base0.result (units_of i c.args.units.now) c.args.bytes.now c.as_chunks.result.0.now
    c.as_chunks.ensures.front in
    let no : carries u.pid u.stream_id d.base0 (units_of i c.args.units.now) c.args.bytes.now ≡ false =
    rw c.base0.ensures.value at (sym same ∙ sym c.carries.ensures ∙ c.if-not-carries.true) in
    sym (carried_next d c.args.units.now c.args.bytes.now d.streams u i below at ∙ rw no refl) ∙ c.loop-number.invariant

pub returns : goal.returns
returns g c =
    let d = c.args.description.now in
    let over : length d.streams ≤ c.loop-number.number = rw c.streams-stream-items.ensures.value at c.loop-number-test.false in
    sym (carried_end d c.args.units.now c.args.bytes.now d.streams c.loop-number.number over) ∙ c.loop-number.invariant
