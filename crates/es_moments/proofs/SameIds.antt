-- Units with the same stream_id
use Rattle.std.proofs.Common.{◌≡◌, ◌≤◌, ◌<◌, ℕ, ◌+◌, ◌==◌, true, false, Some, None, List, length, drop, get_or, refl, sym, add-one}
use Rattle.std.proofs.Math.Seq.{drop-cons}
use Rattle.std.proofs.lemmas.List.{drop_all}
use Rattle.es_moments.specs.StreamIds.{first_other_at}
use Rattle.es_moments.specs.WireUnits.{CarriedUnit}

pub same_at : (id i : ℕ) (us : List CarriedUnit) (u : CarriedUnit) → i < length us → u ≡ get_or us i u → (u.stream_id == id) ≡ true →
    first_other_at id i (drop i us) ≡ first_other_at id (i + 1) (drop (i + 1) us)
unfolding first_other_at
same_at id i us u below at same = rw (drop-cons us i u below, sym at, same, add-one i) refl

pub other_at : (id i : ℕ) (us : List CarriedUnit) (u : CarriedUnit) → i < length us → u ≡ get_or us i u → (u.stream_id == id) ≡ false →
    first_other_at id i (drop i us) ≡ Some i
unfolding first_other_at
other_at id i us u below at other = rw (drop-cons us i u below, sym at, other) refl

pub ids_end : (id i : ℕ) (us : List CarriedUnit) → length us ≤ i → first_other_at id i (drop i us) ≡ None
unfolding first_other_at
ids_end id i us over = rw (drop_all i us over) refl
