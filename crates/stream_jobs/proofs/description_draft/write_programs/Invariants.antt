use Rattle.std.proofs.Common.{◌≡◌, ◌++◌, length, string_bytes}
use Rattle.stream_jobs.specs.Texts.{programs_text}
use Rattle.stream_jobs.proofs.description_draft.write_programs.Given as goal

abbrev pub invariant-programs : goal.invariant-programs
invariant-programs l =
    string_bytes l.text ++ programs_text l.pcr_limit l.pids l.programs l.services
    ≡ string_bytes l.initial.text ++ programs_text l.initial.pcr_limit l.initial.pids l.initial.programs l.initial.services

abbrev pub decreases-programs : goal.decreases-programs
decreases-programs l = length l.programs
