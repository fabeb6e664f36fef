-- Each finding on a PID is a part of a unit, or a line names its packet.
use Rattle.std.proofs.Common.{◌≡◌, ◌∙◌, inl, inr, ℕ, ◌==◌, ◌&&◌, Bool, true, false, if◌then◌else◌, Option, Some, None, List, [], ◌∷◌, ◌++◌, length}
use Rattle.std.proofs.Common.{refl, sym, ap, subst}
use Rattle.std.specs.Prelude.{⊤}
use Rattle.std.proofs.lemmas.Bool.{eqb-true}
use Rattle.std.proofs.lemmas.List.{append_assoc, append-nil}
use Rattle.pes_packet.specs.HeaderMarks.{header_marks}
use Rattle.pes_packet.specs.declared.marks.Marks.{Marks}
use Rattle.pes_packet.specs.declared.reading.PesHeader.{PesHeader}
use Rattle.pes_packet.specs.declared.time_stamps.Stamps.{Stamps}
use Rattle.pes_packet.specs.declared.time_stamps.Stamps.TheVariants.{Absent, Pts, PtsDts}
use Rattle.pid_findings.specs.Views.{WhatView, IsDuplicate, BreaksCounter, IsScrambled, IsTruncated, IsSection, IsBadSection, IsPes, IsBadPes, IsBadPacket}
use Rattle.pid_findings.specs.Views.{IsErrored}
use Rattle.pid_findings.specs.Views.{IsStray}
use Rattle.pid_findings.specs.Views.{FindingView}
use Rattle.demux.specs.Laws.{has_pid}
use Rattle.es_moments.specs.WireUnits.{CarriedUnit, unit_with}
use Rattle.es_units.specs.CarriedUnits.{RoleView, Ignored, Start, Continuation, Interruption, pes_role, role_of_what, is_access_point, is_unstamped}
use Rattle.es_units.specs.CarriedUnits.{first_packet, role_of, more_bytes, continued_by, continuation, is_cut, is_split, with_more}
use Rattle.es_units.specs.UnitWarnings.{current_after, unstamped_cause, pes_cause, truncation_cause, cause_of_what, id_of, cause_of}
use Rattle.es_units.specs.declared.unit_warning.UnitWarningCause.{UnitWarningCause}
use Rattle.es_units.specs.declared.unit_warning.UnitWarningCause.TheVariants as causes
use Rattle.laws_job.specs.LeftOut.{HasLine, IsCarriedOrNamed, IsInUnit, PesAccounted, Accounted, NothingIsSilent}
use Rattle.laws_job.proofs.NamedUnits.{id_after, has_line, whole_or_named}

-- 1. The unit that has not ended yet

record OpenUnit (pid : ℕ) (done : List FindingView) : Type 0 where
  earlier : List FindingView
  first : FindingView
  between : List FindingView
  found : done ≡ earlier ++ first ∷ between
  start : CarriedUnit
  begins : role_of pid first ≡ Start start
  held : List ℕ
  goes : (rest : List FindingView) → continuation start.stream_id pid (between ++ rest) ≡ held ++ continuation start.stream_id pid rest

unfoldable IsOpen : ℕ → Option ℕ → List FindingView → Type 0
IsOpen pid None done = ⊤
IsOpen pid (Some id) done = (o : OpenUnit pid done) × (o.start.stream_id ≡ id)

-- The continuation of a unit begins with the bytes of the next finding.
first_bytes : (id pid : ℕ) (f : FindingView) (rest : List FindingView) (body : List ℕ) → more_bytes id (role_of pid f) ≡ Some body →
    continuation id pid (f ∷ rest) ≡ body ++ continuation id pid rest
unfolding continuation continued_by
first_bytes id pid f rest body is = rw is refl

goes_past : (pid : ℕ) (done : List FindingView) (f : FindingView) (body : List ℕ) (o : OpenUnit pid done) →
    more_bytes o.start.stream_id (role_of pid f) ≡ Some body → (rest : List FindingView) →
    continuation o.start.stream_id pid ((o.between ++ f ∷ []) ++ rest) ≡ o.held ++ (body ++ continuation o.start.stream_id pid rest)
goes_past pid done f body o is rest =
    ap (continuation o.start.stream_id pid) (append_assoc o.between (f ∷ []) rest) ∙ o.goes (f ∷ rest)
    ∙ ap (λ (bs : List ℕ). o.held ++ bs) (first_bytes o.start.stream_id pid f rest body is)

found_past : (pid : ℕ) (done : List FindingView) (f : FindingView) (o : OpenUnit pid done) → done ++ f ∷ [] ≡ o.earlier ++ o.first ∷ (o.between ++ f ∷ [])
found_past pid done f o = ap (λ (fs : List FindingView). fs ++ f ∷ []) o.found ∙ append_assoc o.earlier (o.first ∷ o.between) (f ∷ [])

longer : (pid : ℕ) (done : List FindingView) (f : FindingView) (body : List ℕ) (o : OpenUnit pid done) →
    more_bytes o.start.stream_id (role_of pid f) ≡ Some body → OpenUnit pid (done ++ f ∷ [])
longer pid done f body o is = record {
  earlier = o.earlier;
  first = o.first;
  between = o.between ++ f ∷ [];
  found = found_past pid done f o;
  start = o.start;
  begins = o.begins;
  held = o.held ++ body;
  goes = λ rest. goes_past pid done f body o is rest ∙ sym (append_assoc o.held body (continuation o.start.stream_id pid rest));
}

newly : (pid : ℕ) (done : List FindingView) (f : FindingView) (u : CarriedUnit) → role_of pid f ≡ Start u → OpenUnit pid (done ++ f ∷ [])
newly pid done f u begins = record {
  earlier = done;
  first = f;
  between = [];
  found = refl;
  start = u;
  begins = begins;
  held = [];
  goes = λ rest. refl;
}

same_more : (id other : ℕ) (body : List ℕ) (r : RoleView) → r ≡ Continuation other body → (other == id) ≡ true → more_bytes id r ≡ Some body
unfolding more_bytes
same_more id other body r is same = rw (is, same) refl

none_more : (id : ℕ) (r : RoleView) → r ≡ Ignored → more_bytes id r ≡ Some []
unfolding more_bytes
none_more id r is = rw is refl

by_part : (pid id other : ℕ) (body : List ℕ) (done : List FindingView) (f : FindingView) (same : Bool) → (other == id) ≡ same →
    role_of pid f ≡ Continuation other body → IsOpen pid (Some id) done → IsOpen pid (if same then Some id else None) (done ++ f ∷ [])
unfolding IsOpen longer
by_part pid id other body done f true is role at =
    let o = at.0 in
    (longer pid done f body o (same_more o.start.stream_id other body (role_of pid f) role (ap (λ (n : ℕ). other == n) at.1 ∙ is)), at.1)
by_part pid id other body done f false is role at = tt

by_role : (pid : ℕ) (current : Option ℕ) (done : List FindingView) (f : FindingView) (r : RoleView) → role_of pid f ≡ r → IsOpen pid current done →
    IsOpen pid (current_after current r) (done ++ f ∷ [])
unfolding IsOpen current_after newly longer
by_role pid None done f Ignored is at = tt
by_role pid (Some id) done f Ignored is at = (longer pid done f [] at.0 (none_more at.0.start.stream_id (role_of pid f) is), at.1)
by_role pid None done f (Start u) is at = (newly pid done f u is, refl)
by_role pid (Some id) done f (Start u) is at = (newly pid done f u is, refl)
by_role pid None done f (Continuation other body) is at = tt
by_role pid (Some id) done f (Continuation other body) is at = by_part pid id other body done f (other == id) refl is at
by_role pid None done f (Interruption unstamped) is at = tt
by_role pid (Some id) done f (Interruption unstamped) is at = tt

open_after : (pid : ℕ) (current : Option ℕ) (done fs : List FindingView) → IsOpen pid current done → IsOpen pid (id_after pid current fs) (done ++ fs)
unfolding id_after
open_after pid current done [] at = subst (IsOpen pid current) (sym (append-nil done)) at
open_after pid current done (f ∷ fs) at =
    let next = current_after current (role_of pid f) in
    subst (IsOpen pid (id_after pid next fs)) (append_assoc done (f ∷ []) fs)
    (open_after pid next (done ++ f ∷ []) fs (by_role pid current done f (role_of pid f) refl at))

open_at : (pid : ℕ) (before : List FindingView) → IsOpen pid (id_after pid None before) before
unfolding IsOpen
open_at pid before = open_after pid None [] before tt

-- 2. A PES packet

-- A PES packet with a PTS begins a unit.
begins_unit : (pid count : ℕ) (before : List FindingView) (f : FindingView) (later : List FindingView) (u : CarriedUnit) → role_of pid f ≡ Start u →
    IsInUnit pid before f later u.unit.bytes (IsCarriedOrNamed pid count (before ++ f ∷ later))
begins_unit pid count before f later u begins = record {
  earlier = before;
  first = f;
  between = [];
  found = refl;
  start = u;
  begins = begins;
  ahead = [];
  bytes = refl;
  is_so = whole_or_named pid count before f later u begins;
}

-- A PES packet without a PTS continues the unit before it.
found_all : (pid : ℕ) (before : List FindingView) (f : FindingView) (later : List FindingView) (o : OpenUnit pid before) →
    o.earlier ++ o.first ∷ ((o.between ++ f ∷ []) ++ later) ≡ before ++ f ∷ later
found_all pid before f later o =
    sym (append_assoc o.earlier (o.first ∷ (o.between ++ f ∷ [])) later) ∙ ap (λ (fs : List FindingView). fs ++ later) (sym (found_past pid before f o))
    ∙ append_assoc before (f ∷ []) later

goes_on : (pid count : ℕ) (before : List FindingView) (f : FindingView) (later : List FindingView) (body : List ℕ) (o : OpenUnit pid before) →
    more_bytes o.start.stream_id (role_of pid f) ≡ Some body → IsInUnit pid before f later body (IsCarriedOrNamed pid count (before ++ f ∷ later))
goes_on pid count before f later body o is =
    let id = o.start.stream_id in
    let all = (o.between ++ f ∷ []) ++ later in
    record {
      earlier = o.earlier;
      first = o.first;
      between = o.between ++ f ∷ [];
      found = found_past pid before f o;
      start = o.start;
      begins = o.begins;
      ahead = o.start.unit.bytes ++ o.held;
      bytes = ap (λ (bs : List ℕ). o.start.unit.bytes ++ bs) (goes_past pid before f body o is later)
          ∙ sym (append_assoc o.start.unit.bytes o.held (body ++ continuation id pid later));
      is_so = subst (λ (fs : List FindingView). IsCarriedOrNamed pid count fs (with_more o.start (continuation id pid all))) (found_all pid before f later o)
          (whole_or_named pid count o.earlier o.first all o.start o.begins);
    }

-- The role and the cause of a finding follow from its contents.
role_on : (pid : ℕ) (f : FindingView) (what : WhatView) → has_pid pid f.pid ≡ true → f.what ≡ what →
    role_of pid f ≡ role_of_what (first_packet f.packet f.begun) (is_unstamped f.begun) (is_access_point f.begun) what
unfolding role_of
role_on pid f what own is = rw (own, is) refl

cause_on : (split : Bool) (pid count : ℕ) (current : Option ℕ) (f : FindingView) (later : List FindingView) (what : WhatView) → has_pid pid f.pid ≡ true →
    f.what ≡ what → cause_of split pid count current f later
    ≡ cause_of_what count f.packet current (split && is_cut (id_of what) pid later) (length (continuation (id_of what) pid later) == 0) what
unfolding cause_of
cause_on split pid count current f later what own is = rw (own, is) refl

by_id : (pid count : ℕ) (before : List FindingView) (f : FindingView) (later : List FindingView) (header : PesHeader) (unended : Bool) (body : List ℕ)
    (now : ℕ) (same : Bool) → (header.id == now) ≡ same →
    cause_of (is_split pid (before ++ f ∷ later)) pid count (id_after pid None before) f later ≡ unstamped_cause (Some now) header.id unended (length body) →
    role_of pid f ≡ Continuation header.id body → IsOpen pid (Some now) before →
    PesAccounted pid count before f later header body (IsCarriedOrNamed pid count (before ++ f ∷ later))
unfolding IsOpen unstamped_cause
by_id pid count before f later header unended body now true is cause role at =
    let o = at.0 in
    inr (inl (goes_on pid count before f later body o
    (same_more o.start.stream_id header.id body (role_of pid f) role (ap (λ (n : ℕ). header.id == n) at.1 ∙ is))))
by_id pid count before f later header unended body now false is cause role at =
    inr (inr (inr (has_line pid count before f later (causes.OtherStreamId header.id (length body)) (cause ∙ rw is refl))))

by_current : (pid count : ℕ) (before : List FindingView) (f : FindingView) (later : List FindingView) (header : PesHeader) (unended : Bool) (body : List ℕ)
    (current : Option ℕ) →
    cause_of (is_split pid (before ++ f ∷ later)) pid count (id_after pid None before) f later ≡ unstamped_cause current header.id unended (length body) →
    role_of pid f ≡ Continuation header.id body → IsOpen pid current before →
    PesAccounted pid count before f later header body (IsCarriedOrNamed pid count (before ++ f ∷ later))
unfolding unstamped_cause
by_current pid count before f later header unended body None cause role at =
    inr (inr (inl (has_line pid count before f later (causes.NoUnitBefore (length body)) cause)))
by_current pid count before f later header unended body (Some now) cause role at =
    by_id pid count before f later header unended body now (header.id == now) refl cause role at

by_padding : (pid count : ℕ) (before : List FindingView) (f : FindingView) (later : List FindingView) (header : PesHeader) (unended : Bool) (body : List ℕ)
    (padding : Bool) → (header.id == 0xBE) ≡ padding →
    cause_of (is_split pid (before ++ f ∷ later)) pid count (id_after pid None before) f later
    ≡ (if padding then None else unstamped_cause (id_after pid None before) header.id unended (length body)) →
    role_of pid f ≡ (if padding then Ignored else Continuation header.id body) →
    PesAccounted pid count before f later header body (IsCarriedOrNamed pid count (before ++ f ∷ later))
by_padding pid count before f later header unended body true is cause role = inl (eqb-true header.id 0xBE is)
by_padding pid count before f later header unended body false is cause role =
    by_current pid count before f later header unended body (id_after pid None before) cause role (open_at pid before)

by_stamps : (pid count place : ℕ) (lost alone : Bool) (marks : Marks) (before : List FindingView) (f : FindingView) (later : List FindingView)
    (header : PesHeader) (unended : Bool) (body : List ℕ) (stamps : Stamps) →
    cause_of (is_split pid (before ++ f ∷ later)) pid count (id_after pid None before) f later
    ≡ pes_cause (id_after pid None before) lost alone unended header.id stamps (length body) →
    role_of pid f ≡ pes_role place header.id marks stamps body →
    PesAccounted pid count before f later header body (IsCarriedOrNamed pid count (before ++ f ∷ later))
unfolding pes_cause pes_role
by_stamps pid count place lost alone marks before f later header unended body Absent cause role =
    by_padding pid count before f later header unended body (header.id == 0xBE) refl cause role
by_stamps pid count place lost alone marks before f later header unended body (Pts pts) cause role =
    inr (inl (begins_unit pid count before f later (unit_with place header.id pts pts marks body) role))
by_stamps pid count place lost alone marks before f later header unended body (PtsDts pts dts) cause role =
    inr (inl (begins_unit pid count before f later (unit_with place header.id dts pts marks body) role))

pes_accounted : (pid count : ℕ) (before : List FindingView) (f : FindingView) (later : List FindingView) (header : PesHeader) (unended : Bool)
    (body : List ℕ) → has_pid pid f.pid ≡ true → f.what ≡ IsPes header unended body →
    PesAccounted pid count before f later header body (IsCarriedOrNamed pid count (before ++ f ∷ later))
unfolding role_of_what cause_of_what id_of
pes_accounted pid count before f later header unended body own is =
    let split = is_split pid (before ++ f ∷ later) in
    by_stamps pid count (first_packet f.packet f.begun) (split && is_cut header.id pid later) (length (continuation header.id pid later) == 0)
    (header_marks (is_access_point f.begun) header) before f later header unended body header.stamps
    (cause_on split pid count (id_after pid None before) f later (IsPes header unended body) own is) (role_on pid f (IsPes header unended body) own is)

-- 3. A finding

-- If a finding is a cause by itself, its line is among the lines.
own_line : (pid count : ℕ) (before : List FindingView) (f : FindingView) (later : List FindingView) (what : WhatView) (cause : UnitWarningCause) →
    has_pid pid f.pid ≡ true → f.what ≡ what →
    ((current : Option ℕ) (lost alone : Bool) → cause_of_what count f.packet current lost alone what ≡ Some cause) →
    HasLine pid count (before ++ f ∷ later) (first_packet f.packet f.begun) cause
own_line pid count before f later what cause own is gives =
    let split = is_split pid (before ++ f ∷ later) in
    let current = id_after pid None before in
    has_line pid count before f later cause (cause_on split pid count current f later what own is
    ∙ gives current (split && is_cut (id_of what) pid later) (length (continuation (id_of what) pid later) == 0))

by_what : (pid count : ℕ) (before : List FindingView) (f : FindingView) (later : List FindingView) (what : WhatView) → has_pid pid f.pid ≡ true →
    f.what ≡ what → Accounted pid count before f later what
unfolding Accounted cause_of_what
by_what pid count before f later IsDuplicate own is = tt
by_what pid count before f later (IsBadPacket error) own is = tt
by_what pid count before f later IsErrored own is = tt
by_what pid count before f later (IsStray size) own is =
    own_line pid count before f later (IsStray size) causes.Stray own is (λ current lost alone. refl)
by_what pid count before f later (BreaksCounter expected found) own is =
    own_line pid count before f later (BreaksCounter expected found) (causes.Counter expected found) own is (λ current lost alone. refl)
by_what pid count before f later IsScrambled own is =
    own_line pid count before f later IsScrambled causes.Scrambled own is (λ current lost alone. refl)
by_what pid count before f later (IsTruncated bytes) own is =
    own_line pid count before f later (IsTruncated bytes) (truncation_cause count f.packet (length bytes)) own is (λ current lost alone. refl)
by_what pid count before f later (IsSection bytes) own is =
    own_line pid count before f later (IsSection bytes) causes.Section own is (λ current lost alone. refl)
by_what pid count before f later (IsBadSection error) own is =
    own_line pid count before f later (IsBadSection error) (causes.BadSection error) own is (λ current lost alone. refl)
by_what pid count before f later (IsBadPes error) own is =
    own_line pid count before f later (IsBadPes error) (causes.BadPes error) own is (λ current lost alone. refl)
by_what pid count before f later (IsPes header unended body) own is = pes_accounted pid count before f later header unended body own is

pub none_silent : NothingIsSilent
none_silent pid count before f later own = by_what pid count before f later f.what own refl
