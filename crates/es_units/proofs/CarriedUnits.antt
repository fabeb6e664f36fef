-- Units from findings, finding by finding.
use Rattle.std.proofs.Common.{◌≡◌, ◌≤◌, ◌<◌, ℕ, ◌+◌, ◌||◌, Bool, false, Option, None, unwrap_or, List, [], ◌∷◌, length, map, drop, get_or, refl, sym, inl, inr}
use Rattle.std.proofs.Common.{add-one}
use Rattle.std.specs.List.{list_any}
use Rattle.std.specs.Option.{option_or}
use Rattle.std.proofs.Math.Seq.{drop-cons}
use Rattle.std.proofs.lemmas.Bool.{cases_Bool}
use Rattle.std.proofs.lemmas.List.{drop_all}
use Rattle.pid_findings.specs.Views.{FindingView}
use Rattle.demux.specs.Laws.{has_pid, found_of}
use Rattle.es_units.specs.CarriedUnits.{RoleView, Ignored, Start, Continuation, Interruption, role_of, more_bytes, continued_by, continuation}
use Rattle.es_units.specs.CarriedUnits.{end_of, is_cut, start_id, first_id, is_part, is_split, units_from, units_in}
use Rattle.es_units.specs.Laws.{FindingsOfThePid}
use Rattle.es_moments.specs.WireUnits.{CarriedUnit}

-- 1. A finding of another PID adds nothing to the units

pub other_pid_ignored : (pid : ℕ) (f : FindingView) → has_pid pid f.pid ≡ false → role_of pid f ≡ Ignored
unfolding role_of
other_pid_ignored pid f other = rw other refl

pub same_continuation : (id pid : ℕ) (fs : List FindingView) → continuation id pid (found_of pid fs) ≡ continuation id pid fs
unfolding continuation continued_by more_bytes
same_continuation id pid [] = refl
same_continuation id pid (f ∷ fs) = elim (cases_Bool (has_pid pid f.pid)) [
  | inl own ↦ rw (own, same_continuation id pid fs) refl
  | inr other ↦ rw (other, other_pid_ignored pid f other, same_continuation id pid fs) refl
]

pub same_cut : (id pid : ℕ) (fs : List FindingView) → is_cut id pid (found_of pid fs) ≡ is_cut id pid fs
unfolding is_cut end_of
same_cut id pid [] = refl
same_cut id pid (f ∷ fs) = elim (cases_Bool (has_pid pid f.pid)) [
  | inl own ↦ rw (own, same_cut id pid fs) refl
  | inr other ↦ rw (other, other_pid_ignored pid f other, same_cut id pid fs) refl
]

pub same_first : (pid : ℕ) (fs : List FindingView) → first_id pid (found_of pid fs) ≡ first_id pid fs
unfolding first_id start_id
same_first pid [] = refl
same_first pid (f ∷ fs) = elim (cases_Bool (has_pid pid f.pid)) [
  | inl own ↦ rw (own, same_first pid fs) refl
  | inr other ↦ rw (other, other_pid_ignored pid f other, same_first pid fs) refl
]

pub same_parts : (first : Option ℕ) (pid : ℕ) (fs : List FindingView) →
    list_any (λ f. is_part first (role_of pid f)) (found_of pid fs) ≡ list_any (λ f. is_part first (role_of pid f)) fs
unfolding is_part
same_parts first pid [] = refl
same_parts first pid (f ∷ fs) = elim (cases_Bool (has_pid pid f.pid)) [
  | inl own ↦ rw (own, same_parts first pid fs) refl
  | inr other ↦ rw (other, other_pid_ignored pid f other, same_parts first pid fs) refl
]

pub same_split : (pid : ℕ) (fs : List FindingView) → is_split pid (found_of pid fs) ≡ is_split pid fs
unfolding is_split
same_split pid fs = rw (same_first pid fs) (same_parts (first_id pid fs) pid fs)

same_from : (split : Bool) (pid : ℕ) (b : RoleView) (fs : List FindingView) (one other : List CarriedUnit) → one ≡ other →
    units_from split pid b (found_of pid fs) one ≡ units_from split pid b fs other
unfolding units_from
same_from split pid Ignored fs one other same = same
same_from split pid (Continuation id body) fs one other same = same
same_from split pid (Interruption unstamped) fs one other same = same
same_from split pid (Start u) fs one other same = rw (same_cut u.stream_id pid fs, same_continuation u.stream_id pid fs, same) refl

ignored : (split : Bool) (pid : ℕ) (fs : List FindingView) (one other : List CarriedUnit) → one ≡ other → one ≡ units_from split pid Ignored fs other
unfolding units_from
ignored split pid fs one other same = same

pub same_in : (split : Bool) (pid : ℕ) (fs : List FindingView) → units_in split pid (found_of pid fs) ≡ units_in split pid fs
unfolding units_in
same_in split pid [] = refl
same_in split pid (f ∷ fs) = elim (cases_Bool (has_pid pid f.pid)) [
  | inl own ↦ rw own (same_from split pid (role_of pid f) fs (units_in split pid (found_of pid fs)) (units_in split pid fs) (same_in split pid fs))
  | inr other ↦ rw (other, other_pid_ignored pid f other)
      (ignored split pid fs (units_in split pid (found_of pid fs)) (units_in split pid fs) (same_in split pid fs))
]

pub same_units : FindingsOfThePid
same_units pid fs = rw (same_split pid fs) (same_in (is_split pid fs) pid fs)

-- 2. A finding, and the findings after it

pub continuation_at : {X : Type 0} (view : X → FindingView) (id pid i : ℕ) (fs : List X) (f : X) → i < length fs → f ≡ get_or fs i f →
    continuation id pid (map view (drop i fs)) ≡ continued_by (more_bytes id (role_of pid (view f))) (continuation id pid (map view (drop (i + 1) fs)))
unfolding continuation
continuation_at view id pid i fs f below at = rw (drop-cons fs i f below, add-one i, sym at) refl

pub continuation_end : {X : Type 0} (view : X → FindingView) (id pid i : ℕ) (fs : List X) → length fs ≤ i → continuation id pid (map view (drop i fs)) ≡ []
unfolding continuation
continuation_end view id pid i fs over = rw (drop_all i fs over) refl

pub cut_at : {X : Type 0} (view : X → FindingView) (id pid i : ℕ) (fs : List X) (f : X) → i < length fs → f ≡ get_or fs i f →
    is_cut id pid (map view (drop i fs)) ≡ unwrap_or (end_of id (role_of pid (view f))) (is_cut id pid (map view (drop (i + 1) fs)))
unfolding is_cut
cut_at view id pid i fs f below at = rw (drop-cons fs i f below, add-one i, sym at) refl

pub cut_end : {X : Type 0} (view : X → FindingView) (id pid i : ℕ) (fs : List X) → length fs ≤ i → is_cut id pid (map view (drop i fs)) ≡ false
unfolding is_cut
cut_end view id pid i fs over = rw (drop_all i fs over) refl

pub first_at : {X : Type 0} (view : X → FindingView) (pid i : ℕ) (fs : List X) (f : X) → i < length fs → f ≡ get_or fs i f →
    first_id pid (map view (drop i fs)) ≡ option_or (start_id (role_of pid (view f))) (first_id pid (map view (drop (i + 1) fs)))
unfolding first_id
first_at view pid i fs f below at = rw (drop-cons fs i f below, add-one i, sym at) refl

pub first_end : {X : Type 0} (view : X → FindingView) (pid i : ℕ) (fs : List X) → length fs ≤ i → first_id pid (map view (drop i fs)) ≡ None
unfolding first_id
first_end view pid i fs over = rw (drop_all i fs over) refl

pub parts_at : {X : Type 0} (view : X → FindingView) (first : Option ℕ) (pid i : ℕ) (fs : List X) (f : X) → i < length fs → f ≡ get_or fs i f →
    list_any (λ x. is_part first (role_of pid x)) (map view (drop i fs)) ≡
    (is_part first (role_of pid (view f)) || list_any (λ x. is_part first (role_of pid x)) (map view (drop (i + 1) fs)))
parts_at view first pid i fs f below at = rw (drop-cons fs i f below, add-one i, sym at) refl
