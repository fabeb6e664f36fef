use Rattle.std.proofs.Common.{arith, rules, length, ◌≡◌, ◌+◌, ◌++◌, [], ◌∷◌}
use Rattle.psi_tables.specs.ProgramMap.{stream_loop_of, streams_bytes}
use Rattle.description_parts.specs.Tables.{es_info_length}
use Rattle.description.specs.SectionBytes.{pmt_stream}
use Rattle.description.proofs.LoopLengths.{streams_bytes-push, stream_descriptors-length, encoded_length}
use Rattle.description.proofs.program_map.push_stream.Goals as goal

pub returns-clause-length : goal.returns-clause-length
returns-clause-length c =
    let value : stream_loop_of c.push.new.self ≡ stream_loop_of c.args.entries.now ++ pmt_stream c.args.stream.now ∷ [] = search rules in
    let longer = streams_bytes-push (stream_loop_of c.args.entries.now) (pmt_stream c.args.stream.now) in
    let long = stream_descriptors-length c.args.stream.now c.requires.ranges in
    let is : length (streams_bytes (stream_loop_of c.args.entries.now ++ pmt_stream c.args.stream.now ∷ []))
    ≡ length (streams_bytes (stream_loop_of c.args.entries.now)) + 5 + es_info_length c.args.stream.now = omega (arith, longer, long) in
    encoded_length streams_bytes (stream_loop_of c.push.new.self) (stream_loop_of c.args.entries.now ++ pmt_stream c.args.stream.now ∷ [])
    (length (streams_bytes (stream_loop_of c.args.entries.now)) + 5 + es_info_length c.args.stream.now) value is
