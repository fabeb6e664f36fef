use Rattle.std.proofs.Common.{◌≡◌, ◌==◌, ◌∙◌, List, ℕ, ap, arith, if◌then◌else◌, length, slice_range, sum_by}
use Rattle.dvb_tables.specs.TransportStreams.{TransportStreamView, transport_streams_bytes, transport_streams_of}
use Rattle.description_parts.specs.Tables.{network_stream_length, network_streams}
use Rattle.description.proofs.SectionBounds.{loop_size}
use Rattle.description.proofs.description.Description.write_nit.Goals as goal

pub write_section-requires-clause-room : goal.write_section-requires-clause-room
write_section-requires-clause-room c =
    let n = c.args.network.now in
    let part = slice_range (network_streams c.args.self.now n) c.args.begin c.args.end in
    let loop : length c.network_loop-network_descriptors.result.now ≡ (if c.args.header.section_number == 0 then length n.network_descriptors else 0) =
    ap (length {A = ℕ}) c.network_loop-network_descriptors.ensures ∙ loop_size (c.args.header.section_number == 0) n in
    let streams : length (transport_streams_bytes (transport_streams_of c.transport_streams.result)) ≡ sum_by network_stream_length part =
    ap (λ (ts : List TransportStreamView). length (transport_streams_bytes ts)) c.transport_streams.ensures ∙ c.part_streams-entries.ensures.length in
    let fits = c.requires.fits in
    omega (arith, loop, streams, fits)
