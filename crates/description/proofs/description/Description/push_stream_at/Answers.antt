use Rattle.std.proofs.Common.{◌≡◌, ◌+◌, ◌++◌, ◌∙◌, List, None, Some, ap, arith, length, option_map, slice_get, slice_range, sum_by, sym, append-nil}
use Rattle.dvb_tables.specs.TransportStreams.{TransportStreamView, transport_stream_loop_of, transport_stream_view}
use Rattle.description_parts.specs.Described.{network_stream_view}
use Rattle.description_parts.specs.Tables.{network_stream_length, network_streams}
use Rattle.description_parts.specs.declared.network_stream.NetworkStream.{NetworkStream}
use Rattle.description.proofs.NetworkFacts.{bytes_here, none_here, viewed, views_here}
use Rattle.description.proofs.description.Description.push_stream_at.Goals as goal

pub returns-in-None-clause-value : goal.returns-in-None-clause-value
returns-in-None-clause-value c =
    let ss = network_streams c.args.self.now c.args.network.now in
    let none : option_map network_stream_view (slice_get ss c.args.place) ≡ None =
    sym c.network_stream.ensures ∙ ap (option_map transport_stream_view) c.in-None.is in
    sym (ap (λ (xs : List NetworkStream). transport_stream_loop_of c.args.entries.now ++ viewed xs) (none_here ss c.args.place none)
    ∙ append-nil (transport_stream_loop_of c.args.entries.now))

pub returns-in-None-clause-length : goal.returns-in-None-clause-length
returns-in-None-clause-length c =
    let ss = network_streams c.args.self.now c.args.network.now in
    let none : option_map network_stream_view (slice_get ss c.args.place) ≡ None =
    sym c.network_stream.ensures ∙ ap (option_map transport_stream_view) c.in-None.is in
    let zero : sum_by network_stream_length (slice_range ss c.args.place (c.args.place + 1)) ≡ 0 =
    ap (sum_by network_stream_length) (none_here ss c.args.place none) in
    omega (arith, zero)

pub push_stream-requires : goal.push_stream-requires
push_stream-requires c =
    let ss = network_streams c.args.self.now c.args.network.now in
    let is : option_map network_stream_view (slice_get ss c.args.place) ≡ Some (transport_stream_view c.in-Some.stream) =
    sym c.network_stream.ensures ∙ ap (option_map transport_stream_view) c.in-Some.is in
    omega (arith, c.requires, bytes_here ss c.args.place (transport_stream_view c.in-Some.stream) is)

pub returns-in-Some-clause-value : goal.returns-in-Some-clause-value
returns-in-Some-clause-value c =
    let ss = network_streams c.args.self.now c.args.network.now in
    let is : option_map network_stream_view (slice_get ss c.args.place) ≡ Some (transport_stream_view c.in-Some.stream) =
    sym c.network_stream.ensures ∙ ap (option_map transport_stream_view) c.in-Some.is in
    c.push_stream.ensures.value
    ∙ sym (ap (λ (vs : List TransportStreamView). transport_stream_loop_of c.args.entries.now ++ vs)
    (views_here ss c.args.place (transport_stream_view c.in-Some.stream) is))

pub returns-in-Some-clause-length : goal.returns-in-Some-clause-length
returns-in-Some-clause-length c =
    let ss = network_streams c.args.self.now c.args.network.now in
    let is : option_map network_stream_view (slice_get ss c.args.place) ≡ Some (transport_stream_view c.in-Some.stream) =
    sym c.network_stream.ensures ∙ ap (option_map transport_stream_view) c.in-Some.is in
    let pushed = c.push_stream.ensures.length in
    omega (arith, pushed, bytes_here ss c.args.place (transport_stream_view c.in-Some.stream) is)
