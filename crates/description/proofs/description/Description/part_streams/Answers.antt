use Rattle.std.proofs.Common.{◌<◌, ◌≤◌, ◌+◌, ◌-◌, ◌++◌, ◌∙◌, List, ap, arith, length, sum_by, slice_range, sym}
use Rattle.dvb_tables.specs.TransportStreams.{TransportStreamView, transport_streams_bytes}
use Rattle.description_parts.specs.Tables.{network_stream_length, network_streams}
use Rattle.description.proofs.LoopLengths.{no_transport_stream_bytes}
use Rattle.description.proofs.NetworkFacts.{bytes_more, none_between, room_for, viewed, views_more}
use Rattle.description.proofs.description.Description.part_streams.Goals as goal

pub loop-place-init : goal.loop-place-init
loop-place-init c =
    let none = none_between (network_streams c.args.self.now c.args.network.now) c.args.begin in
    record {
      streams = c.new-entries.ensures ∙ sym (ap viewed none);
      length = ap (λ (ts : List TransportStreamView). length (transport_streams_bytes ts)) c.new-entries.ensures ∙ no_transport_stream_bytes
          ∙ sym (ap (sum_by network_stream_length) none);
    }

pub push_stream_at-requires : goal.push_stream_at-requires
push_stream_at-requires c =
    let i = c.loop-place.invariant in
    let ss = network_streams c.args.self.now c.args.network.now in
    let low : c.args.begin ≤ c.loop-place.place = omega arith in
    let high : c.loop-place.place < c.args.end = omega arith in
    let room = room_for ss c.args.begin c.loop-place.place c.args.end low high in
    omega (arith, c.requires.room, i.length, room)

pub loop-place-preserved : goal.loop-place-preserved
loop-place-preserved c =
    let i = c.loop-place.invariant in
    let ss = network_streams c.args.self.now c.args.network.now in
    let low : c.args.begin ≤ c.loop-place.place = omega arith in
    let pushed = c.push_stream_at.ensures.length in
    record {
      streams = c.push_stream_at.ensures.value
          ∙ ap (λ (ts : List TransportStreamView). ts ++ viewed (slice_range ss c.loop-place.place (c.loop-place.place + 1))) i.streams
          ∙ sym (views_more ss c.args.begin c.loop-place.place low);
      length = omega (arith, pushed, i.length, bytes_more ss c.args.begin c.loop-place.place (c.loop-place.place + 1) low (omega arith));
    }
