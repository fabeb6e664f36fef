-- Bytes that are in no unit are reported.
use Rattle.std.proofs.Common.{◌≡◌, ◌∙◌, ℕ, ◌++◌, ◌==◌, ◌&&◌, ◌||◌, Bool, true, false, if◌then◌else◌, Option, Some, None, List, [], ◌∷◌, length, flat_map}
use Rattle.std.proofs.Common.{nat_le, refl, sym, ap}
use Rattle.std.specs.List.{list_any}
use Rattle.std.proofs.lemmas.Bool.{eqb-true}
use Rattle.std.proofs.lemmas.List.{append_assoc, nil_from_length}
use Rattle.std.proofs.lemmas.List.Folds.{list_any-append}
use Rattle.pes_packet.specs.HeaderMarks.{header_marks}
use Rattle.pes_packet.specs.declared.marks.Marks.{Marks}
use Rattle.pes_packet.specs.declared.time_stamps.Stamps.{Stamps}
use Rattle.pes_packet.specs.declared.time_stamps.Stamps.TheVariants.{Absent, Pts, PtsDts}
use Rattle.pid_findings.specs.Views.{WhatView, IsDuplicate, BreaksCounter, IsScrambled, IsTruncated, IsSection, IsBadSection, IsPes, IsBadPes, IsBadPacket}
use Rattle.pid_findings.specs.Views.{IsErrored}
use Rattle.pid_findings.specs.Views.{IsStray}
use Rattle.pid_findings.specs.Views.{FindingView}
use Rattle.demux.specs.Laws.{has_pid}
use Rattle.es_units.specs.CarriedUnits.{RoleView, Ignored, Start, Continuation, pes_role, role_of_what, is_access_point, is_unstamped}
use Rattle.es_units.specs.CarriedUnits.{first_packet, role_of, more_bytes, continued_by, continuation, is_cut, is_split, with_more, units_from, units_in}
use Rattle.es_units.specs.Damage.{is_left_out}
use Rattle.es_units.specs.Laws.{NothingIsLost, body_of, bodies, leaves_out}
use Rattle.es_units.specs.UnitWarnings.{current_after, unstamped_cause, first_cause, pes_cause, cause_of_what, id_of, cause_of, warning_list, warnings_from}
use Rattle.es_units.specs.declared.unit_warning.UnitWarningCause.{UnitWarningCause}
use Rattle.es_units.specs.declared.unit_warning.UnitWarningCause.TheVariants as causes
use Rattle.es_moments.specs.WireUnits.{CarriedUnit, unit_with}

-- 1. Bytes in units, and bytes outside units

-- The bytes of units
abbrev bytes_of : List CarriedUnit → List ℕ
bytes_of us = flat_map (λ u. u.unit.bytes) us

-- No warning reports bytes that are left out.
abbrev IsQuiet : ℕ → Option UnitWarningCause → Type 0
IsQuiet packet cause = list_any leaves_out (warning_list packet cause) ≡ false

-- The bytes that continue the current unit, if any
rest_of : Option ℕ → ℕ → List FindingView → List ℕ
rest_of None pid fs = []
rest_of (Some id) pid fs = continuation id pid fs

-- The bytes that continue the current unit, from a role on
rest_from : Option ℕ → RoleView → ℕ → List FindingView → List ℕ
rest_from None b pid fs = []
rest_from (Some id) b pid fs = continued_by (more_bytes id b) (continuation id pid fs)

-- A warning about left-out bytes is not quiet.
reported : (place : ℕ) (cause : UnitWarningCause) → IsQuiet place (Some cause) → is_left_out cause ≡ true → ⊥
unfolding warning_list leaves_out
reported place cause quiet out = absurd (let no : true ≡ false = rw out at quiet in cc)

truncated : (place at count size : ℕ) (end : Bool) → IsQuiet place (Some (if end then causes.TruncatedByEnd size else causes.Truncated size)) → ⊥
truncated place at count size true quiet = reported place (causes.TruncatedByEnd size) quiet refl
truncated place at count size false quiet = reported place (causes.Truncated size) quiet refl

-- 2. A role, and the findings after it

abbrev Goes : Bool → ℕ → Option ℕ → RoleView → List FindingView → Type 0
Goes split pid current b fs =
    body_of b ++ bodies pid fs ≡ rest_from current b pid fs ++ bytes_of (units_from split pid b fs (units_in split pid fs))

abbrev Follows : Bool → ℕ → Option ℕ → RoleView → List FindingView → Type 0
Follows split pid current b fs = bodies pid fs ≡ rest_of (current_after current b) pid fs ++ bytes_of (units_in split pid fs)

by_ignored : (split : Bool) (pid : ℕ) (current : Option ℕ) (fs : List FindingView) → Follows split pid current Ignored fs → Goes split pid current Ignored fs
unfolding rest_of rest_from current_after body_of more_bytes continued_by units_from
by_ignored split pid None fs next = next
by_ignored split pid (Some id) fs next = next

-- A unit in front of later units
one_before : (u : CarriedUnit) (later : List CarriedUnit) (b : Bool) → (length u.unit.bytes == 0) ≡ b → bytes_of (if b then later else u ∷ later) ≡ u.unit.bytes
    ++ bytes_of later
one_before u later true is = rw (nil_from_length u.unit.bytes (eqb-true (length u.unit.bytes) 0 is)) refl
one_before u later false is = refl

none_goes_on : (current : Option ℕ) (u : CarriedUnit) (pid : ℕ) (fs : List FindingView) → rest_from current (Start u) pid fs ≡ []
unfolding rest_from more_bytes continued_by
none_goes_on None u pid fs = refl
none_goes_on (Some id) u pid fs = refl

by_start : (split : Bool) (pid : ℕ) (current : Option ℕ) (u : CarriedUnit) (fs : List FindingView) → (split && is_cut u.stream_id pid fs) ≡ false →
    Follows split pid current (Start u) fs → Goes split pid current (Start u) fs
unfolding rest_of current_after body_of units_from
by_start split pid current u fs whole next =
    let more = continuation u.stream_id pid fs in
    let none : rest_from current (Start u) pid fs ≡ [] = none_goes_on current u pid fs in
    rw (none, whole)
    (ap (λ (bs : List ℕ). u.unit.bytes ++ bs) next ∙ sym (append_assoc u.unit.bytes more (bytes_of (units_in split pid fs)))
    ∙ sym (one_before (with_more u more) (units_in split pid fs) (length (with_more u more).unit.bytes == 0) refl))

by_part : (split : Bool) (pid id : ℕ) (body : List ℕ) (fs : List FindingView) → bodies pid fs ≡ continuation id pid fs ++ bytes_of (units_in split pid fs) →
    body ++ bodies pid fs ≡ (body ++ continuation id pid fs) ++ bytes_of (units_in split pid fs)
by_part split pid id body fs next =
    ap (λ (bs : List ℕ). body ++ bs) next ∙ sym (append_assoc body (continuation id pid fs) (bytes_of (units_in split pid fs)))

-- A PES packet with the stream_id of the current unit, or with another stream_id
by_same : (split : Bool) (pid place size id now : ℕ) (body : List ℕ) (unended same : Bool) (fs : List FindingView) → (id == now) ≡ same →
    IsQuiet place (if same then (if unended then Some causes.OpenEnded else None) else Some (causes.OtherStreamId id size)) →
    Follows split pid (Some now) (Continuation id body) fs → Goes split pid (Some now) (Continuation id body) fs
unfolding warning_list leaves_out rest_of rest_from current_after body_of more_bytes continued_by units_from
by_same split pid place size id now body unended false fs is quiet next = absurd cc
by_same split pid place size id now body unended true fs is quiet next =
    let there : bodies pid fs ≡ continuation now pid fs ++ bytes_of (units_in split pid fs) = rw is at next in
    rw is (by_part split pid now body fs there)

by_unstamped : (split : Bool) (pid place size id : ℕ) (current : Option ℕ) (body : List ℕ) (unended : Bool) (fs : List FindingView) →
    IsQuiet place (unstamped_cause current id unended size) → Follows split pid current (Continuation id body) fs →
    Goes split pid current (Continuation id body) fs
unfolding unstamped_cause
by_unstamped split pid place size id None body unended fs quiet next = absurd (reported place (causes.NoUnitBefore size) quiet refl)
by_unstamped split pid place size id (Some now) body unended fs quiet next = by_same split pid place size id now body unended (id == now) fs refl quiet next

by_absent : (split : Bool) (pid place size id : ℕ) (current : Option ℕ) (body : List ℕ) (unended padding : Bool) (fs : List FindingView) →
    IsQuiet place (if padding then None else unstamped_cause current id unended size) →
    Follows split pid current (if padding then Ignored else Continuation id body) fs →
    Goes split pid current (if padding then Ignored else Continuation id body) fs
by_absent split pid place size id current body unended true fs quiet next = by_ignored split pid current fs next
by_absent split pid place size id current body unended false fs quiet next = by_unstamped split pid place size id current body unended fs quiet next

by_first : (split : Bool) (pid place size : ℕ) (current : Option ℕ) (u : CarriedUnit) (alone unended lost : Bool) (fs : List FindingView) →
    (split && is_cut u.stream_id pid fs) ≡ lost →
    IsQuiet place (first_cause lost alone unended size) → Follows split pid current (Start u) fs → Goes split pid current (Start u) fs
unfolding first_cause
by_first split pid place size current u alone unended true fs is quiet next = absurd (reported place causes.PartLost quiet refl)
by_first split pid place size current u alone unended false fs is quiet next = by_start split pid current u fs is next

by_pes : (split : Bool) (pid packet place id : ℕ) (current : Option ℕ) (body : List ℕ) (unended : Bool) (marks : Marks) (stamps : Stamps)
    (fs : List FindingView) →
    IsQuiet place (pes_cause current (split && is_cut id pid fs) (length (continuation id pid fs) == 0) unended id stamps (length body)) →
    Follows split pid current (pes_role packet id marks stamps body) fs → Goes split pid current (pes_role packet id marks stamps body) fs
unfolding pes_cause pes_role
by_pes split pid packet place id current body unended marks Absent fs quiet next =
    by_absent split pid place (length body) id current body unended (id == 0xBE) fs quiet next
by_pes split pid packet place id current body unended marks (Pts pts) fs quiet next =
    by_first split pid place (length body) current (unit_with packet id pts pts marks body) (length (continuation id pid fs) == 0) unended
    (split && is_cut id pid fs) fs refl quiet next
by_pes split pid packet place id current body unended marks (PtsDts pts dts) fs quiet next =
    by_first split pid place (length body) current (unit_with packet id dts pts marks body) (length (continuation id pid fs) == 0) unended
    (split && is_cut id pid fs) fs refl quiet next

by_what : (split : Bool) (pid count packet at place : ℕ) (current : Option ℕ) (unstamped access : Bool) (what : WhatView) (fs : List FindingView) →
    IsQuiet place (cause_of_what count at current (split && is_cut (id_of what) pid fs) (length (continuation (id_of what) pid fs) == 0) what) →
    Follows split pid current (role_of_what packet unstamped access what) fs → Goes split pid current (role_of_what packet unstamped access what) fs
unfolding cause_of_what role_of_what id_of
by_what split pid count packet at place current unstamped access IsDuplicate fs quiet next = by_ignored split pid current fs next
by_what split pid count packet at place current unstamped access (IsBadPacket error) fs quiet next = by_ignored split pid current fs next
by_what split pid count packet at place current unstamped access IsErrored fs quiet next = by_ignored split pid current fs next
by_what split pid count packet at place current unstamped access (IsStray size) fs quiet next = absurd (reported place causes.Stray quiet refl)
by_what split pid count packet at place current unstamped access (BreaksCounter expected found) fs quiet next =
    absurd (reported place (causes.Counter expected found) quiet refl)
by_what split pid count packet at place current unstamped access IsScrambled fs quiet next = absurd (reported place causes.Scrambled quiet refl)
by_what split pid count packet at place current unstamped access (IsTruncated bytes) fs quiet next =
    absurd (truncated place at count (length bytes) (nat_le count at) quiet)
by_what split pid count packet at place current unstamped access (IsSection bytes) fs quiet next = absurd (reported place causes.Section quiet refl)
by_what split pid count packet at place current unstamped access (IsBadSection error) fs quiet next =
    absurd (reported place (causes.BadSection error) quiet refl)
by_what split pid count packet at place current unstamped access (IsBadPes error) fs quiet next = absurd (reported place (causes.BadPes error) quiet refl)
by_what split pid count packet at place current unstamped access (IsPes header unended body) fs quiet next =
    by_pes split pid packet place header.id current body unended (header_marks access header) header.stamps fs quiet next

-- A finding of this PID or of another PID
by_finding : (split : Bool) (pid count packet at place : ℕ) (current : Option ℕ) (unstamped access own : Bool) (what : WhatView) (fs : List FindingView) →
    IsQuiet place
    (if own then cause_of_what count at current (split && is_cut (id_of what) pid fs) (length (continuation (id_of what) pid fs) == 0) what else None) →
    Follows split pid current (if own then role_of_what packet unstamped access what else Ignored) fs →
    Goes split pid current (if own then role_of_what packet unstamped access what else Ignored) fs
by_finding split pid count packet at place current unstamped access true what fs quiet next =
    by_what split pid count packet at place current unstamped access what fs quiet next
by_finding split pid count packet at place current unstamped access false what fs quiet next = by_ignored split pid current fs next

-- 3. All findings

or_none : (a b : Bool) → (a || b) ≡ false → (a ≡ false) × (b ≡ false)
or_none false false is = (refl, refl)
or_none true b is = absurd cc
or_none false true is = absurd cc

none_left : (split : Bool) (pid id : ℕ) → bodies pid [] ≡ rest_of (Some id) pid [] ++ bytes_of (units_in split pid [])
unfolding rest_of continuation units_in
none_left split pid id = refl

none_at : (split : Bool) (pid : ℕ) → bodies pid [] ≡ rest_of None pid [] ++ bytes_of (units_in split pid [])
unfolding rest_of units_in
none_at split pid = refl

here : (split : Bool) (pid count : ℕ) (current : Option ℕ) (f : FindingView) (fs : List FindingView) →
    IsQuiet (first_packet f.packet f.begun) (cause_of split pid count current f fs) →
    Follows split pid current (role_of pid f) fs → Goes split pid current (role_of pid f) fs
unfolding cause_of role_of
here split pid count current f fs quiet next =
    by_finding split pid count (first_packet f.packet f.begun) f.packet (first_packet f.packet f.begun) current (is_unstamped f.begun) (is_access_point f.begun)
    (has_pid pid f.pid) f.what fs quiet next

joined : (split : Bool) (pid : ℕ) (current : Option ℕ) (f : FindingView) (fs : List FindingView) → Goes split pid current (role_of pid f) fs →
    bodies pid (f ∷ fs) ≡ rest_of current pid (f ∷ fs) ++ bytes_of (units_in split pid (f ∷ fs))
unfolding rest_of rest_from continuation units_in
joined split pid None f fs goes = goes
joined split pid (Some id) f fs goes = goes

each_kept : (split : Bool) (pid count : ℕ) (current : Option ℕ) (fs : List FindingView) →
    list_any leaves_out (warnings_from split pid count current fs) ≡ false →
    bodies pid fs ≡ rest_of current pid fs ++ bytes_of (units_in split pid fs)
unfolding warnings_from units_in
each_kept split pid count None [] quiet = none_at split pid
each_kept split pid count (Some id) [] quiet = none_left split pid id
each_kept split pid count current (f ∷ fs) quiet =
    let place = first_packet f.packet f.begun in
    let later = warnings_from split pid count (current_after current (role_of pid f)) fs in
    let two = or_none (list_any leaves_out (warning_list place (cause_of split pid count current f fs))) (list_any leaves_out later)
    (sym (list_any-append leaves_out (warning_list place (cause_of split pid count current f fs)) later) ∙ quiet) in
    joined split pid current f fs (here split pid count current f fs two.0 (each_kept split pid count (current_after current (role_of pid f)) fs two.1))

pub nothing_lost : NothingIsLost
unfolding rest_of
nothing_lost pid count fs quiet = each_kept (is_split pid fs) pid count None fs quiet
