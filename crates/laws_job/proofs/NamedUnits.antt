-- The lines of a PID's findings, and the unit that a PES packet begins
use Rattle.std.proofs.Common.{◌≡◌, ◌∙◌, inl, inr, suc, ℕ, ◌==◌, ◌&&◌, Bool, true, false, if◌then◌else◌, Option, Some, None, List, [], ◌∷◌, ◌++◌, length}
use Rattle.std.proofs.Common.{Contains, refl, subst, arith}
use Rattle.std.proofs.lemmas.Bool.{ne_eqb}
use Rattle.std.proofs.lemmas.List.Elements.{Contains-append_left, Contains-append_right}
use Rattle.pes_packet.specs.HeaderMarks.{header_marks}
use Rattle.pes_packet.specs.declared.marks.Marks.{Marks}
use Rattle.pes_packet.specs.declared.time_stamps.Stamps.{Stamps}
use Rattle.pes_packet.specs.declared.time_stamps.Stamps.TheVariants.{Absent, Pts, PtsDts}
use Rattle.pid_findings.specs.Views.{WhatView, IsDuplicate, BreaksCounter, IsScrambled, IsTruncated, IsSection, IsBadSection, IsPes, IsBadPes, IsBadPacket}
use Rattle.pid_findings.specs.Views.{IsErrored}
use Rattle.pid_findings.specs.Views.{IsStray}
use Rattle.pid_findings.specs.Views.{FindingView}
use Rattle.demux.specs.Laws.{has_pid}
use Rattle.es_moments.specs.WireUnits.{CarriedUnit, unit_with}
use Rattle.es_units.specs.CarriedUnits.{RoleView, Ignored, Start, Continuation, Interruption, pes_role, role_of_what, is_access_point, is_unstamped}
use Rattle.es_units.specs.CarriedUnits.{first_packet, role_of, continuation, is_cut, is_split, with_more, whole_unit, units_from, units_in}
use Rattle.es_units.specs.UnitWarnings.{current_after, first_cause, pes_cause, cause_of_what, id_of, cause_of}
use Rattle.es_units.specs.UnitWarnings.{warning_list, warnings_from}
use Rattle.es_units.specs.declared.unit_warning.UnitWarningCause.{UnitWarningCause}
use Rattle.es_units.specs.declared.unit_warning.UnitWarningCause.TheVariants as causes
use Rattle.es_units.specs.declared.unit_warning.UnitWarning.{UnitWarning}
use Rattle.laws_job.specs.LeftOut.{HasLine, IsCarriedOrNamed}

-- 1. Lines

-- The stream_id of the unit that a PES packet without a PTS continues after these findings
unfoldable pub id_after : ℕ → Option ℕ → List FindingView → Option ℕ
id_after pid current [] = current
id_after pid current (f ∷ fs) = id_after pid (current_after current (role_of pid f)) fs

abbrev line_at : ℕ → UnitWarningCause → UnitWarning
line_at packet cause = record { packet = packet; cause = cause }

one_line : (packet : ℕ) (cause : UnitWarningCause) (o : Option UnitWarningCause) → o ≡ Some cause → Contains (warning_list packet o) (line_at packet cause)
unfolding warning_list
one_line packet cause o is = rw is (0, omega arith, refl)

-- The line of a finding is among the lines of all findings.
line_in : (split : Bool) (pid count : ℕ) (current : Option ℕ) (before : List FindingView) (f : FindingView) (later : List FindingView)
    (cause : UnitWarningCause) → cause_of split pid count (id_after pid current before) f later ≡ Some cause →
    Contains (warnings_from split pid count current (before ++ f ∷ later)) (line_at (first_packet f.packet f.begun) cause)
unfolding warnings_from id_after
line_in split pid count current [] f later cause is =
    Contains-append_left (warning_list (first_packet f.packet f.begun) (cause_of split pid count current f later))
    (warnings_from split pid count (current_after current (role_of pid f)) later) (line_at (first_packet f.packet f.begun) cause)
    (one_line (first_packet f.packet f.begun) cause (cause_of split pid count current f later) is)
line_in split pid count current (b ∷ bs) f later cause is =
    let next = current_after current (role_of pid b) in
    let fs = bs ++ f ∷ later in
    Contains-append_right (warning_list (first_packet b.packet b.begun) (cause_of split pid count current b fs))
    (warnings_from split pid count next fs) (line_at (first_packet f.packet f.begun) cause)
    (line_in split pid count next bs f later cause is)

pub has_line : (pid count : ℕ) (before : List FindingView) (f : FindingView) (later : List FindingView) (cause : UnitWarningCause) →
    cause_of (is_split pid (before ++ f ∷ later)) pid count (id_after pid None before) f later ≡ Some cause →
    HasLine pid count (before ++ f ∷ later) (first_packet f.packet f.begun) cause
has_line pid count before f later cause is = line_in (is_split pid (before ++ f ∷ later)) pid count None before f later cause is

-- 2. Units

past_some : (b : Bool) (w : CarriedUnit) (later : List CarriedUnit) (u : CarriedUnit) → Contains later u → Contains (if b then later else w ∷ later) u
past_some true w later u at = at
past_some false w later u at = Contains-append_right (w ∷ []) later u at

past_whole : (lost : Bool) (w : CarriedUnit) (later : List CarriedUnit) (u : CarriedUnit) → Contains later u → Contains (whole_unit lost w later) u
past_whole true w later u at = at
past_whole false w later u at = past_some (length w.unit.bytes == 0) w later u at

past_role : (split : Bool) (pid : ℕ) (r : RoleView) (fs : List FindingView) (later : List CarriedUnit) (u : CarriedUnit) → Contains later u →
    Contains (units_from split pid r fs later) u
unfolding units_from
past_role split pid Ignored fs later u at = at
past_role split pid (Continuation id body) fs later u at = at
past_role split pid (Interruption unstamped) fs later u at = at
past_role split pid (Start w) fs later u at =
    past_whole (split && is_cut w.stream_id pid fs) (with_more w (continuation w.stream_id pid fs)) later u at

whole_here : (lost : Bool) (w : CarriedUnit) (later : List CarriedUnit) → lost ≡ false → (length w.unit.bytes == 0) ≡ false →
    Contains (whole_unit lost w later) w
whole_here lost w later kept some = rw (kept, some) (0, omega arith, refl)

unit_in : (split : Bool) (pid : ℕ) (before : List FindingView) (f : FindingView) (rest : List FindingView) (u : CarriedUnit) → role_of pid f ≡ Start u →
    (split && is_cut u.stream_id pid rest) ≡ false → (length (u.unit.bytes ++ continuation u.stream_id pid rest) == 0) ≡ false →
    Contains (units_in split pid (before ++ f ∷ rest)) (with_more u (continuation u.stream_id pid rest))
unfolding units_in units_from
unit_in split pid [] f rest u begins kept some =
    rw begins (whole_here (split && is_cut u.stream_id pid rest) (with_more u (continuation u.stream_id pid rest)) (units_in split pid rest) kept some)
unit_in split pid (b ∷ bs) f rest u begins kept some =
    let fs = bs ++ f ∷ rest in
    past_role split pid (role_of pid b) fs (units_in split pid fs) (with_more u (continuation u.stream_id pid rest))
    (unit_in split pid bs f rest u begins kept some)

-- 3. The first PES packet of a unit

record IsFirst (split : Bool) (pid place : ℕ) (cause : Option UnitWarningCause) (u : CarriedUnit) (rest : List FindingView) : Type 0 where
  unended : Bool
  place_is : place ≡ u.packet
  cause_is : cause ≡ first_cause (split && is_cut u.stream_id pid rest) (length (continuation u.stream_id pid rest) == 0) unended (length u.unit.bytes)

none_starts : (padding : Bool) (id : ℕ) (body : List ℕ) (u : CarriedUnit) → (if padding then Ignored else Continuation id body) ≡ Start u → ⊥
none_starts true id body u is = absurd (cc)
none_starts false id body u is = absurd (cc)

first_pes : (split : Bool) (pid place id : ℕ) (current : Option ℕ) (body : List ℕ) (unended : Bool) (marks : Marks) (stamps : Stamps)
    (rest : List FindingView) (u : CarriedUnit) → pes_role place id marks stamps body ≡ Start u →
    IsFirst split pid place (pes_cause current (split && is_cut id pid rest) (length (continuation id pid rest) == 0) unended id stamps (length body)) u rest
unfolding pes_role pes_cause
first_pes split pid place id current body unended marks Absent rest u is = absurd (none_starts (id == 0xBE) id body u is)
first_pes split pid place id current body unended marks (Pts pts) rest u is =
    let same : unit_with place id pts pts marks body ≡ u = cc in
    subst (λ (v : CarriedUnit). IsFirst split pid place
    (first_cause (split && is_cut id pid rest) (length (continuation id pid rest) == 0) unended (length body)) v rest) same
    (record { unended = unended; place_is = refl; cause_is = refl })
first_pes split pid place id current body unended marks (PtsDts pts dts) rest u is =
    let same : unit_with place id dts pts marks body ≡ u = cc in
    subst (λ (v : CarriedUnit). IsFirst split pid place
    (first_cause (split && is_cut id pid rest) (length (continuation id pid rest) == 0) unended (length body)) v rest) same
    (record { unended = unended; place_is = refl; cause_is = refl })

first_what : (split : Bool) (pid count place at : ℕ) (current : Option ℕ) (unstamped access : Bool) (what : WhatView) (rest : List FindingView)
    (u : CarriedUnit) → role_of_what place unstamped access what ≡ Start u →
    IsFirst split pid place
    (cause_of_what count at current (split && is_cut (id_of what) pid rest) (length (continuation (id_of what) pid rest) == 0) what) u rest
unfolding role_of_what cause_of_what id_of
first_what split pid count place at current unstamped access IsDuplicate rest u is = absurd (cc)
first_what split pid count place at current unstamped access (BreaksCounter expected found) rest u is = absurd (cc)
first_what split pid count place at current unstamped access IsScrambled rest u is = absurd (cc)
first_what split pid count place at current unstamped access (IsTruncated bytes) rest u is = absurd (cc)
first_what split pid count place at current unstamped access (IsSection bytes) rest u is = absurd (cc)
first_what split pid count place at current unstamped access (IsBadSection error) rest u is = absurd (cc)
first_what split pid count place at current unstamped access (IsBadPes error) rest u is = absurd (cc)
first_what split pid count place at current unstamped access (IsBadPacket error) rest u is = absurd (cc)
first_what split pid count place at current unstamped access IsErrored rest u is = absurd (cc)
first_what split pid count place at current unstamped access (IsStray size) rest u is = absurd (cc)
first_what split pid count place at current unstamped access (IsPes header unended body) rest u is =
    first_pes split pid place header.id current body unended (header_marks access header) header.stamps rest u is

first_on : (split : Bool) (pid count place at : ℕ) (current : Option ℕ) (unstamped access own : Bool) (what : WhatView) (rest : List FindingView)
    (u : CarriedUnit) → (if own then role_of_what place unstamped access what else Ignored) ≡ Start u →
    IsFirst split pid place
    (if own then cause_of_what count at current (split && is_cut (id_of what) pid rest) (length (continuation (id_of what) pid rest) == 0) what else None)
    u rest
first_on split pid count place at current unstamped access true what rest u is =
    first_what split pid count place at current unstamped access what rest u is
first_on split pid count place at current unstamped access false what rest u is = absurd (cc)

is_first : (split : Bool) (pid count : ℕ) (current : Option ℕ) (f : FindingView) (rest : List FindingView) (u : CarriedUnit) → role_of pid f ≡ Start u →
    IsFirst split pid (first_packet f.packet f.begun) (cause_of split pid count current f rest) u rest
unfolding cause_of role_of
is_first split pid count current f rest u begins =
    first_on split pid count (first_packet f.packet f.begun) f.packet current (is_unstamped f.begun) (is_access_point f.begun) (has_pid pid f.pid) f.what rest
    u begins

suc_is_not : (n : ℕ) → (suc n == 0) ≡ false
suc_is_not n = ne_eqb (suc n) 0 (λ e. omega (arith, e))

-- Two lists in a row are empty if both lists are.
both_empty : (a b : List ℕ) → (length (a ++ b) == 0) ≡ (length a == 0 && length b == 0)
both_empty [] b = refl
both_empty (x ∷ a) b = rw (suc_is_not (length (a ++ b)), suc_is_not (length a)) refl

-- A unit is carried, or a line names its first packet.
first_named : (pid count : ℕ) (before : List FindingView) (f : FindingView) (rest : List FindingView) (u : CarriedUnit) (cause : UnitWarningCause) →
    first_packet f.packet f.begun ≡ u.packet → cause_of (is_split pid (before ++ f ∷ rest)) pid count (id_after pid None before) f rest ≡ Some cause →
    HasLine pid count (before ++ f ∷ rest) u.packet cause
first_named pid count before f rest u cause place is =
    subst (λ (n : ℕ). HasLine pid count (before ++ f ∷ rest) n cause) place (has_line pid count before f rest cause is)

by_loss : (pid count : ℕ) (before : List FindingView) (f : FindingView) (rest : List FindingView) (u : CarriedUnit) (lost empty : Bool) →
    role_of pid f ≡ Start u →
    IsFirst (is_split pid (before ++ f ∷ rest)) pid (first_packet f.packet f.begun)
    (cause_of (is_split pid (before ++ f ∷ rest)) pid count (id_after pid None before) f rest) u rest →
    (is_split pid (before ++ f ∷ rest) && is_cut u.stream_id pid rest) ≡ lost →
    (length u.unit.bytes == 0 && length (continuation u.stream_id pid rest) == 0) ≡ empty →
    IsCarriedOrNamed pid count (before ++ f ∷ rest) (with_more u (continuation u.stream_id pid rest))
unfolding first_cause
by_loss pid count before f rest u true empty begins is loses has =
    inr (inl (first_named pid count before f rest u causes.PartLost is.place_is (is.cause_is ∙ rw loses refl)))
by_loss pid count before f rest u false true begins is loses has =
    inr (inr (first_named pid count before f rest u causes.EmptyUnit is.place_is (is.cause_is ∙ rw (loses, has) refl)))
by_loss pid count before f rest u false false begins is loses has =
    inl (unit_in (is_split pid (before ++ f ∷ rest)) pid before f rest u begins loses
    (both_empty u.unit.bytes (continuation u.stream_id pid rest) ∙ has))

pub whole_or_named : (pid count : ℕ) (before : List FindingView) (f : FindingView) (rest : List FindingView) (u : CarriedUnit) → role_of pid f ≡ Start u →
    IsCarriedOrNamed pid count (before ++ f ∷ rest) (with_more u (continuation u.stream_id pid rest))
whole_or_named pid count before f rest u begins =
    let split = is_split pid (before ++ f ∷ rest) in
    by_loss pid count before f rest u (split && is_cut u.stream_id pid rest)
    (length u.unit.bytes == 0 && length (continuation u.stream_id pid rest) == 0) begins
    (is_first split pid count (id_after pid None before) f rest u begins) refl refl
