use Rattle.std.proofs.Common.{rules, length, ◌≡◌, ◌+◌, ◌++◌, [], ◌∷◌}
use Rattle.psi_tables.specs.ProgramMap.{stream_loop_of, streams_bytes}
use Rattle.description.specs.SectionBytes.{table_stream}
use Rattle.description.proofs.LoopLengths.{streams_bytes-push, encoded_length}
use Rattle.description.proofs.program_map.push_entry.Goals as goal

pub returns-clause-length : goal.returns-clause-length
returns-clause-length c =
    let value : stream_loop_of c.push.new.self ≡ stream_loop_of c.args.entries.now ++ table_stream c.args.pid c.args.entry.now ∷ [] = search rules in
    encoded_length streams_bytes (stream_loop_of c.push.new.self) (stream_loop_of c.args.entries.now ++ table_stream c.args.pid c.args.entry.now ∷ [])
    (length (streams_bytes (stream_loop_of c.args.entries.now)) + 5 + length c.args.entry.now.descriptors) value
    (streams_bytes-push (stream_loop_of c.args.entries.now) (table_stream c.args.pid c.args.entry.now))
