-- The stream_type of a PID, entry by entry
use Rattle.std.proofs.Common.{◌≡◌, ◌≤◌, ◌<◌, ℕ, ◌+◌, ◌==◌, true, false, List, length, drop, get_or, Some, None, refl, add-one}
use Rattle.std.proofs.Math.Seq.{drop-cons}
use Rattle.std.proofs.lemmas.List.{drop_all}
use Rattle.es_units.specs.Marking.{type_of}
use Rattle.es_units.specs.declared.marking.TypedPid.{TypedPid}

pub type_other : (pid i : ℕ) (ts : List TypedPid) (none : TypedPid) → i < length ts → ((get_or ts i none).pid == pid) ≡ false →
    type_of pid (drop i ts) ≡ type_of pid (drop (i + 1) ts)
unfolding type_of
type_other pid i ts none below other = rw (drop-cons ts i none below, add-one i, other) refl

pub type_here : (pid i : ℕ) (ts : List TypedPid) (none : TypedPid) → i < length ts → ((get_or ts i none).pid == pid) ≡ true →
    type_of pid (drop i ts) ≡ Some (get_or ts i none).stream_type
unfolding type_of
type_here pid i ts none below own = rw (drop-cons ts i none below, own) refl

pub type_end : (pid i : ℕ) (ts : List TypedPid) → length ts ≤ i → type_of pid (drop i ts) ≡ None
unfolding type_of
type_end pid i ts over = rw (drop_all i ts over) refl
