-- PES_private_data of found units has 16 bytes.
use Rattle.std.proofs.Common.{◌≡◌, ◌==◌, ℕ, ◌&&◌, Bool, true, false, cond, if◌then◌else◌, List, [], ◌∷◌, ◌++◌, length, map, slice_get, Option, Some, None, All, sym, subst}
use Rattle.std.proofs.lemmas.List.Elements.{All-nil, All-cons, All-head, All-tail}
use Rattle.pes_packet.specs.AccessUnits.{AccessUnit}
use Rattle.pes_packet.specs.HeaderMarks.{header_marks}
use Rattle.pes_packet.specs.Laws.{HasSixteen}
use Rattle.pes_packet.specs.Units.{units_of}
use Rattle.pes_packet.specs.declared.marks.Marks.{Marks}
use Rattle.pes_packet.specs.declared.time_stamps.Stamps.{Stamps}
use Rattle.pes_packet.specs.declared.time_stamps.Stamps.TheVariants.{Absent, Pts, PtsDts}
use Rattle.pes_packet.proofs.Sixteen.{marks_have_sixteen}
use Rattle.description_parts.specs.Described.{Described, DescribedStream}
use Rattle.demux.specs.Laws.{has_pid}
use Rattle.pid_findings.specs.Views.{FindingView, WhatView, IsDuplicate, BreaksCounter, IsScrambled, IsTruncated, IsSection, IsBadSection, IsPes, IsBadPes}
use Rattle.pid_findings.specs.Views.{IsBadPacket, IsErrored, IsStray}
use Rattle.es_moments.specs.ApartUnits.{apart_dts, apart_units}
use Rattle.es_units.specs.CarriedUnits.{RoleView, carried_units, Ignored, Start, Continuation, Interruption, continuation, first_packet}
use Rattle.es_units.specs.CarriedUnits.{is_access_point, is_cut, is_split, is_unstamped, pes_role, role_of, role_of_what, units_from, units_in}
use Rattle.es_units.specs.CarriedUnits.{with_more}
use Rattle.es_moments.specs.MadeDts.{made_dts, made_units, pts_of, with_dts}
use Rattle.es_moments.specs.RisingDts.{dts_are_made, rising_units}
use Rattle.es_moments.specs.Stamps.{dts_at, moved, unit_at}
use Rattle.job_programs.specs.FoundUnits.{AreFound, source_of}
use Rattle.stream_jobs.specs.Jobs.{AreUnits}
use Rattle.job_inputs.specs.JoinedInputs.{AreUnitsIn, findings_in}
use Rattle.job_inputs.specs.declared.joined_inputs.Origin.{Origin}
use Rattle.laws_job.proofs.AcceptedUnits.{somewhere}
use Rattle.es_moments.specs.WireUnits.{CarriedUnit, unit_with}

-- If a unit has PES_private_data, it has 16 bytes.
abbrev pub Sixteen : AccessUnit → Type 0
Sixteen u = HasSixteen u.marks

-- 1. The unit that a finding starts

abbrev Starts : RoleView → Type 0
Starts Ignored = Unit {0}
Starts (Start u) = Sixteen u.unit
Starts (Continuation id body) = Unit {0}
Starts (Interruption unstamped) = Unit {0}

by_padding : (b : Bool) (id : ℕ) (body : List ℕ) → Starts (cond b Ignored (Continuation id body))
by_padding true id body = tt
by_padding false id body = tt

pes_starts : (packet id : ℕ) (marks : Marks) (stamps : Stamps) (body : List ℕ) → HasSixteen marks → Starts (pes_role packet id marks stamps body)
unfolding pes_role
pes_starts packet id marks Absent body h = by_padding (id == 0xBE) id body
pes_starts packet id marks (Pts pts) body h = h
pes_starts packet id marks (PtsDts pts dts) body h = h

what_starts : (packet : ℕ) (unstamped access : Bool) (what : WhatView) → Starts (role_of_what packet unstamped access what)
unfolding role_of_what
what_starts packet unstamped access IsDuplicate = tt
what_starts packet unstamped access (BreaksCounter expected found) = tt
what_starts packet unstamped access IsScrambled = tt
what_starts packet unstamped access (IsTruncated bytes) = tt
what_starts packet unstamped access (IsSection bytes) = tt
what_starts packet unstamped access (IsBadSection error) = tt
what_starts packet unstamped access (IsPes header unended body) =
    pes_starts packet header.id (header_marks access header) header.stamps body (marks_have_sixteen access header)
what_starts packet unstamped access (IsBadPes error) = tt
what_starts packet unstamped access (IsBadPacket error) = tt
what_starts packet unstamped access IsErrored = tt
what_starts packet unstamped access (IsStray size) = tt

if_own : (b : Bool) (role : RoleView) → Starts role → Starts (cond b role Ignored)
if_own true role h = h
if_own false role h = tt

finding_starts : (pid : ℕ) (f : FindingView) → Starts (role_of pid f)
unfolding role_of
finding_starts pid f =
    if_own (has_pid pid f.pid) (role_of_what (first_packet f.packet f.begun) (is_unstamped f.begun) (is_access_point f.begun) f.what)
    (what_starts (first_packet f.packet f.begun) (is_unstamped f.begun) (is_access_point f.begun) f.what)

-- 2. The units of a PID

abbrev Carried : CarriedUnit → Type 0
Carried c = Sixteen c.unit

if_whole : (lost empty : Bool) (u : CarriedUnit) (later : List CarriedUnit) → Carried u → All Carried later →
    All Carried (cond lost later (cond empty later (u ∷ later)))
if_whole true empty u later h all = all
if_whole false true u later h all = all
if_whole false false u later h all = All-cons Carried u later h all

start_units : (split : Bool) (pid : ℕ) (role : RoleView) (fs : List FindingView) (later : List CarriedUnit) → Starts role → All Carried later →
    All Carried (units_from split pid role fs later)
unfolding units_from
start_units split pid Ignored fs later h all = all
start_units split pid (Start u) fs later h all =
    if_whole (split && is_cut u.stream_id pid fs) (length (with_more u (continuation u.stream_id pid fs)).unit.bytes == 0)
    (with_more u (continuation u.stream_id pid fs)) later h all
start_units split pid (Continuation id body) fs later h all = all
start_units split pid (Interruption unstamped) fs later h all = all

all_units : (split : Bool) (pid : ℕ) (fs : List FindingView) → All Carried (units_in split pid fs)
unfolding units_in
all_units split pid [] = All-nil Carried
all_units split pid (f ∷ fs) = start_units split pid (role_of pid f) fs (units_in split pid fs) (finding_starts pid f) (all_units split pid fs)

with_made : (ds : List ℕ) (us : List CarriedUnit) → All Carried us → All Carried (with_dts ds us)
unfolding with_dts
with_made [] us all = All-nil Carried
with_made (d ∷ ds) [] all = All-nil Carried
with_made (d ∷ ds) (u ∷ us) all =
    All-cons Carried (unit_with u.packet u.stream_id d u.unit.pts u.unit.marks u.unit.bytes) (with_dts ds us) (All-head Carried u us all)
    (with_made ds us (All-tail Carried u us all))

either_source : (made : Bool) (us : List CarriedUnit) → All Carried us → All Carried (if made then made_units us else apart_units us)
either_source true us all = with_made (made_dts (pts_of us)) us all
either_source false us all = with_made (apart_dts 0 us) us all

sources : (made : Bool) (pid : ℕ) (fs : List FindingView) → All Carried (source_of made pid fs)
unfolding source_of rising_units
sources false pid fs = either_source (dts_are_made (carried_units pid fs)) (carried_units pid fs) (all_units (is_split pid fs) pid fs)
sources true pid fs = with_made (made_dts (pts_of (carried_units pid fs))) (carried_units pid fs) (all_units (is_split pid fs) pid fs)

-- 3. The units at moments of a run

units_only : (cs : List CarriedUnit) → All Carried cs → All Sixteen (map (λ c. c.unit) cs)
units_only [] all = All-nil Sixteen
units_only (c ∷ cs) all = All-cons Sixteen c.unit (map (λ x. x.unit) cs) (All-head Carried c cs all) (units_only cs (All-tail Carried c cs all))

all_moved : (base : ℕ) (before : Option ℕ) (us : List AccessUnit) → All Sixteen us → All Sixteen (moved base before us)
unfolding moved unit_at
all_moved base before [] all = All-nil Sixteen
all_moved base before (u ∷ us) all =
    All-cons Sixteen (unit_at base before u) (moved base (Some (dts_at base before u.dts)) us) (All-head Sixteen u us all)
    (all_moved base (Some (dts_at base before u.dts)) us (All-tail Sixteen u us all))

found_sixteen : (made : Bool) (findings : List FindingView) (pid : ℕ) (us : List AccessUnit) → AreFound made findings pid us → All Sixteen us
found_sixteen made findings pid us found =
    subst (All Sixteen) (sym found.moved.are)
    (all_moved found.base None (map (λ w. w.unit) (source_of made pid findings)) (units_only (source_of made pid findings) (sources made pid findings)))

-- PES_private_data of the units of a job has 16 bytes, with one input and with several.
pub units_sixteen : (made : Bool) (findings : List FindingView) (d : Described) (units : List (ℕ × AccessUnit)) → AreUnits made findings d units →
    (k : ℕ) (s : DescribedStream) → slice_get d.streams k ≡ Some s → All Sixteen (units_of k units)
units_sixteen made findings d units are k s is = found_sixteen made findings s.pid (units_of k units) (are.streams k s is).found

pub units_sixteen_in : (made : Bool) (inputs : List (List FindingView)) (origins : List Origin) (d : Described) (units : List (ℕ × AccessUnit)) →
    AreUnitsIn made inputs origins d units → (k : ℕ) (s : DescribedStream) → slice_get d.streams k ≡ Some s → All Sixteen (units_of k units)
units_sixteen_in made inputs origins d units are k s is =
    let one = somewhere made inputs origins d units are k s is in
    found_sixteen made (findings_in inputs one.origin.input) one.origin.pid (units_of k units) one.is.found
