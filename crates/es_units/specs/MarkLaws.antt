-- What the laws of this crate say.
use Rattle.std.specs.Prelude.{◌≡◌, ℕ, List, [], Some}
use Rattle.demux.specs.Laws.{found_of}
use Rattle.pid_findings.specs.Views.{FindingView}
use Rattle.es_units.specs.Marking.{MarkingView, all_marked, is_aligned, no_marking, type_of}

-- if no mark is asked for, nothing changes
abbrev pub NothingIsMarked : Type 0
NothingIsMarked = (findings : List FindingView) → all_marked no_marking findings ≡ findings

-- the findings of a PID are marked by the marks that are asked for on that PID alone
abbrev pub MarkedByThePid : Type 0
MarkedByThePid = (one other : MarkingView) (pid : ℕ) (findings : List FindingView) → type_of pid one.access ≡ type_of pid other.access →
    is_aligned one.aligned (Some pid) ≡ is_aligned other.aligned (Some pid) →
    found_of pid (all_marked one findings) ≡ found_of pid (all_marked other findings)
