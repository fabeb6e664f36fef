use Rattle.std.proofs.Common.{◌≡◌, ◌++◌, length, string_bytes}
use Rattle.stream_jobs.specs.Texts.{streams_text}
use Rattle.stream_jobs.proofs.description_draft.write_streams.Given as goal

abbrev pub invariant-streams : goal.invariant-streams
invariant-streams l =
    string_bytes l.text ++ streams_text l.streams l.unit_counts l.choices
    ≡ string_bytes l.initial.text ++ streams_text l.initial.streams l.initial.unit_counts l.initial.choices

abbrev pub decreases-streams : goal.decreases-streams
decreases-streams l = length l.streams
