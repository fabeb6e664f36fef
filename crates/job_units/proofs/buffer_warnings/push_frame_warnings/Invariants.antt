use Rattle.std.proofs.Common.{◌≡◌, ◌++◌, length}
use Rattle.job_units.specs.BufferWarnings.{frame_warnings}
use Rattle.job_units.proofs.buffer_warnings.push_frame_warnings.Given as goal

abbrev pub invariant-streams : goal.invariant-streams
invariant-streams l =
    l.warnings.items ++ frame_warnings l.given l.sum l.streams l.unit_counts l.choices
    ≡ l.initial.warnings.items ++ frame_warnings l.given l.sum l.initial.streams l.initial.unit_counts l.initial.choices

abbrev pub decreases-streams : goal.decreases-streams
decreases-streams l = length l.streams
