-- The warnings about left-out bytes, finding by finding.
use Rattle.std.proofs.Common.{◌≡◌, ◌≤◌, ◌<◌, ℕ, suc, ◌+◌, ◌++◌, ◌==◌, ◌&&◌, Bool, true, false, ◌||◌, Option, None, List, [], ◌∷◌, length, map, drop, get_or}
use Rattle.std.proofs.Common.{◌∙◌, refl, sym, ap, ap₂, arith, add-one, inl, inr}
use Rattle.std.proofs.Math.Seq.{drop-cons}
use Rattle.std.proofs.lemmas.List.{append_assoc, drop_all, length-append}
use Rattle.std.proofs.lemmas.Bool.{cases_Bool}
use Rattle.pes_packet.specs.HeaderMarks.{header_marks}
use Rattle.pes_packet.specs.declared.marks.Marks.{Marks}
use Rattle.pes_packet.specs.declared.time_stamps.Stamps.{Stamps}
use Rattle.pes_packet.specs.declared.time_stamps.Stamps.TheVariants.{Absent, Pts, PtsDts}
use Rattle.demux.specs.Laws.{found_of, has_pid}
use Rattle.pid_findings.specs.Views.{WhatView, IsDuplicate, BreaksCounter, IsScrambled, IsTruncated, IsSection, IsBadSection, IsPes, IsBadPes, IsBadPacket}
use Rattle.pid_findings.specs.Views.{IsErrored}
use Rattle.pid_findings.specs.Views.{IsStray}
use Rattle.pid_findings.specs.Views.{FindingView}
use Rattle.es_units.specs.CarriedUnits.{role_of, role_of_what, pes_role, is_access_point, is_unstamped, is_cut, continuation, first_packet}
use Rattle.es_units.specs.UnitWarnings.{current_after, first_cause, pes_cause, cause_of_what, is_empty, id_of, cause_of, warning_list, warnings_from}
use Rattle.es_units.specs.declared.unit_warning.UnitWarning.{UnitWarning}
use Rattle.es_units.specs.UnitSteps.{is_start_cut, has_cut}
use Rattle.es_units.specs.declared.unit_warning.UnitWarningCause.{UnitWarningCause}
use Rattle.es_units.proofs.CarriedUnits.{same_continuation, same_cut}
use Rattle.es_units.proofs.PidPlaces.{ComesTo, same_past}
use Rattle.es_units.proofs.UnitSteps.{and_false, or_none, cut_with, cut_start}
use Rattle.es_units.proofs.QueueAcceptance.{not_none}

pub left_at : {X : Type 0} (view : X → FindingView) (split : Bool) (pid count i : ℕ) (current on : Option ℕ) (fs later : List X) (f : X)
    (before after : List UnitWarning) → i < length fs →
    f ≡ get_or fs i f → later ≡ drop (i + 1) fs →
    after ≡ before ++ warning_list (first_packet (view f).packet (view f).begun) (cause_of split pid count current (view f) (map view later)) →
    on ≡ current_after current (role_of pid (view f)) →
    before ++ warnings_from split pid count current (map view (drop i fs)) ≡ after ++ warnings_from split pid count on (map view (drop (i + 1) fs))
unfolding warnings_from
left_at view split pid count i current on fs later f before after below at is made leading =
    let here = warning_list (first_packet (view f).packet (view f).begun) (cause_of split pid count current (view f) (map view (drop (suc i) fs))) in
    let rest = warnings_from split pid count (current_after current (role_of pid (view f))) (map view (drop (suc i) fs)) in
    let made' : after ≡ before
    ++ warning_list (first_packet (view f).packet (view f).begun) (cause_of split pid count current (view f) (map view (drop (i + 1) fs))) =
    rw is at made in
    rw (drop-cons fs i f below, made', leading, add-one i, sym at) (sym (append_assoc before here rest))

pub left_end : {X : Type 0} (view : X → FindingView) (split : Bool) (pid count i : ℕ) (current : Option ℕ) (fs : List X) → length fs ≤ i →
    warnings_from split pid count current (map view (drop i fs)) ≡ []
unfolding warnings_from
left_end view split pid count i current fs over = rw (drop_all i fs over) refl

-- Whether more bytes follow matters only for a PES packet without bytes.
twice : (a b : Bool) → (a && (a && b)) ≡ (a && b)
twice true b = refl
twice false b = refl

alone_of_pes : (current : Option ℕ) (lost alone unended : Bool) (id : ℕ) (stamps : Stamps) (size : ℕ) →
    pes_cause current lost ((size == 0) && alone) unended id stamps size ≡ pes_cause current lost alone unended id stamps size
unfolding pes_cause first_cause
alone_of_pes current lost alone unended id Absent size = refl
alone_of_pes current lost alone unended id (Pts pts) size = rw (twice (size == 0) alone) refl
alone_of_pes current lost alone unended id (PtsDts pts dts) size = rw (twice (size == 0) alone) refl

pub alone_if_empty : (count packet : ℕ) (current : Option ℕ) (lost alone : Bool) (what : WhatView) →
    cause_of_what count packet current lost (is_empty what && alone) what ≡ cause_of_what count packet current lost alone what
unfolding cause_of_what is_empty pes_cause first_cause
alone_if_empty count packet current lost alone IsDuplicate = refl
alone_if_empty count packet current lost alone (BreaksCounter expected found) = refl
alone_if_empty count packet current lost alone IsScrambled = refl
alone_if_empty count packet current lost alone (IsTruncated bytes) = refl
alone_if_empty count packet current lost alone (IsSection bytes) = refl
alone_if_empty count packet current lost alone (IsBadSection error) = refl
alone_if_empty count packet current lost alone (IsBadPes error) = refl
alone_if_empty count packet current lost alone (IsBadPacket error) = refl
alone_if_empty count packet current lost alone IsErrored = refl
alone_if_empty count packet current lost alone (IsStray size) = refl
alone_if_empty count packet current lost alone (IsPes header unended body) = alone_of_pes current lost alone unended header.id header.stamps (length body)

-- Before the first finding
pub left_start : {X : Type 0} (view : X → FindingView) (split : Bool) (pid count : ℕ) (fs : List X) (none : List UnitWarning) → none ≡ [] →
    warnings_from split pid count None (map view fs) ≡ none ++ warnings_from split pid count None (map view (drop 0 fs))
left_start view split pid count fs none is = rw is refl

pub none_before : {X : Type 0} (view : X → FindingView) (pid : ℕ) (fs : List X) →
    has_cut pid (map view fs) ≡ (false || cut_with pid None (map view (drop 0 fs)))
none_before view pid fs = cut_start view pid fs None refl

-- If no unit is cut, warnings do not depend on whether units have several PES packets.
by_stamps : (a b : Bool) (pid : ℕ) (current : Option ℕ) (alone unended : Bool) (id first : ℕ) (marks : Marks) (stamps : Stamps) (body : List ℕ)
    (fs : List FindingView) →
    is_start_cut pid (pes_role first id marks stamps body) fs ≡ false →
    pes_cause current (a && is_cut id pid fs) alone unended id stamps (length body) ≡ pes_cause current (b && is_cut id pid fs) alone unended id stamps
    (length body)
unfolding pes_cause pes_role is_start_cut
by_stamps a b pid current alone unended id first marks Absent body fs whole = refl
by_stamps a b pid current alone unended id first marks (Pts pts) body fs whole = rw (whole, and_false a, and_false b) refl
by_stamps a b pid current alone unended id first marks (PtsDts pts dts) body fs whole = rw (whole, and_false a, and_false b) refl

by_what : (a b : Bool) (pid count packet : ℕ) (current : Option ℕ) (alone : Bool) (first : ℕ) (unstamped access : Bool) (what : WhatView)
    (fs : List FindingView) →
    is_start_cut pid (role_of_what first unstamped access what) fs ≡ false →
    cause_of_what count packet current (a && is_cut (id_of what) pid fs) alone what ≡ cause_of_what count packet current (b && is_cut (id_of what) pid fs) alone
    what
unfolding cause_of_what role_of_what id_of
by_what a b pid count packet current alone first unstamped access IsDuplicate fs whole = refl
by_what a b pid count packet current alone first unstamped access (BreaksCounter expected found) fs whole = refl
by_what a b pid count packet current alone first unstamped access IsScrambled fs whole = refl
by_what a b pid count packet current alone first unstamped access (IsTruncated bytes) fs whole = refl
by_what a b pid count packet current alone first unstamped access (IsSection bytes) fs whole = refl
by_what a b pid count packet current alone first unstamped access (IsBadSection error) fs whole = refl
by_what a b pid count packet current alone first unstamped access (IsBadPes error) fs whole = refl
by_what a b pid count packet current alone first unstamped access (IsBadPacket error) fs whole = refl
by_what a b pid count packet current alone first unstamped access IsErrored fs whole = refl
by_what a b pid count packet current alone first unstamped access (IsStray size) fs whole = refl
by_what a b pid count packet current alone first unstamped access (IsPes header unended body) fs whole =
    by_stamps a b pid current alone unended header.id first (header_marks access header) header.stamps body fs whole

same_cause : (a b : Bool) (pid count : ℕ) (current : Option ℕ) (f : FindingView) (fs : List FindingView) (own : Bool) → has_pid pid f.pid ≡ own →
    is_start_cut pid (role_of pid f) fs ≡ false → cause_of a pid count current f fs ≡ cause_of b pid count current f fs
unfolding cause_of role_of
same_cause a b pid count current f fs false is whole = rw is refl
same_cause a b pid count current f fs true is whole =
    let start : is_start_cut pid (role_of_what (first_packet f.packet f.begun) (is_unstamped f.begun) (is_access_point f.begun) f.what) fs ≡ false =
    rw is at whole in
    rw is (by_what a b pid count f.packet current (length (continuation (id_of f.what) pid fs) == 0) (first_packet f.packet f.begun) (is_unstamped f.begun)
    (is_access_point f.begun) f.what fs start)

pub uncut_warnings : (a b : Bool) (pid count : ℕ) (current : Option ℕ) (fs : List FindingView) → has_cut pid fs ≡ false →
    warnings_from a pid count current fs ≡ warnings_from b pid count current fs
unfolding warnings_from has_cut
uncut_warnings a b pid count current [] whole = refl
uncut_warnings a b pid count current (f ∷ fs) whole =
    let two = or_none (is_start_cut pid (role_of pid f) fs) (has_cut pid fs) whole in
    rw (same_cause a b pid count current f fs (has_pid pid f.pid) refl two.0, uncut_warnings a b pid count (current_after current (role_of pid f)) fs two.1)
    refl

-- Bytes after an empty list
pub alone_more : (xs ys : List ℕ) → length xs ≡ 0 → (length (xs ++ ys) == 0) ≡ (length ys == 0)
alone_more [] ys none = refl
alone_more (x ∷ xs) ys none = absurd (let no : ⊥ = omega (arith, none) in no)

pub alone_some : (xs ys : List ℕ) → 0 < length xs → (length (xs ++ ys) == 0) ≡ false
alone_some xs ys some = not_none (length (xs ++ ys)) (omega (arith, length-append xs ys, some))

-- Findings of other PIDs change no cause of a warning.
pub same_cause_of : (split : Bool) (pid count : ℕ) (current : Option ℕ) (f : FindingView) (fs : List FindingView) →
    cause_of split pid count current f (found_of pid fs) ≡ cause_of split pid count current f fs
unfolding cause_of
same_cause_of split pid count current f fs = rw (same_cut (id_of f.what) pid fs, same_continuation (id_of f.what) pid fs) refl

no_warning : (split : Bool) (pid count : ℕ) (current : Option ℕ) (f : FindingView) (fs : List FindingView) → has_pid pid f.pid ≡ false →
    warnings_from split pid count current (f ∷ fs) ≡ warnings_from split pid count current fs
unfolding warnings_from warning_list cause_of role_of current_after
no_warning split pid count current f fs other = rw other refl

same_warnings : (split : Bool) (pid count : ℕ) (current : Option ℕ) (fs : List FindingView) →
    warnings_from split pid count current (found_of pid fs) ≡ warnings_from split pid count current fs
unfolding warnings_from
same_warnings split pid count current [] = refl
same_warnings split pid count current (f ∷ fs) = elim (cases_Bool (has_pid pid f.pid)) [
  | inl own ↦ rw own (ap₂ (λ (cause : Option UnitWarningCause) (ws : List UnitWarning). warning_list (first_packet f.packet f.begun) cause ++ ws)
      (same_cause_of split pid count current f fs) (same_warnings split pid count (current_after current (role_of pid f)) fs))
  | inr other ↦ rw other (same_warnings split pid count current fs ∙ sym (no_warning split pid count current f fs other))
]

pub warnings_past_others : {X : Type 0} (view : X → FindingView) (split : Bool) (pid count : ℕ) (current : Option ℕ) (from at : ℕ) (fs : List X)
    (before : List UnitWarning) → ComesTo view pid from at fs →
    before ++ warnings_from split pid count current (map view (drop from fs)) ≡ before ++ warnings_from split pid count current (map view (drop at fs))
warnings_past_others view split pid count current from at fs before comes =
    ap (λ (ws : List UnitWarning). before ++ ws)
    (same_past view (warnings_from split pid count current) pid from at fs (same_warnings split pid count current) comes)
