use Rattle.std.proofs.Common.{arith, rules, length, ◌≡◌, ◌+◌, ◌++◌, [], ◌∷◌}
use Rattle.dvb_tables.specs.TransportStreams.{transport_stream_loop_of, transport_stream_view, transport_streams_bytes}
use Rattle.description.proofs.LoopLengths.{encoded_length, transport_streams_bytes-push}
use Rattle.description.proofs.network_information.push_stream.Goals as goal

pub unreachable-requires : goal.unreachable-requires
unreachable-requires c =
    let longer = transport_streams_bytes-push (transport_stream_loop_of c.args.entries.now) (transport_stream_view c.args.entry.now) in
    let room = c.requires in
    grind (arith, longer, room)

pub returns-clause-length : goal.returns-clause-length
returns-clause-length c =
    let value : transport_stream_loop_of c.push.new.self ≡ transport_stream_loop_of c.args.entries.now ++ transport_stream_view c.args.entry.now ∷ [] =
    search rules in
    let longer = transport_streams_bytes-push (transport_stream_loop_of c.args.entries.now) (transport_stream_view c.args.entry.now) in
    encoded_length transport_streams_bytes (transport_stream_loop_of c.push.new.self)
    (transport_stream_loop_of c.args.entries.now ++ transport_stream_view c.args.entry.now ∷ [])
    (length (transport_streams_bytes (transport_stream_loop_of c.args.entries.now)) + 6 + length c.args.entry.now.descriptors.now) value longer
