use Rattle.std.proofs.Common.{◌≡◌, ◌++◌, drop, string_bytes}
use Rattle.std.specs.List.{flat_map}
use Rattle.job_text.specs.Texts.{network_stream_text}
use Rattle.job_text.proofs.network_stream_part.write_streams.Given as goal

abbrev pub invariant-loop-stream : goal.invariant-loop-stream
invariant-loop-stream g l =
    string_bytes l.text ++ flat_map network_stream_text (drop l.stream-index l.streams)
    ≡ string_bytes l.fn.text ++ flat_map network_stream_text l.streams
