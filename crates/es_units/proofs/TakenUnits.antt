-- Units whose bodies are moved out of findings.
use Rattle.std.proofs.Common.{◌≡◌, ◌<◌, ◌∙◌, ◌++◌, ◌==◌, ℕ, suc, Bool, true, false, if◌then◌else◌, Some, List, [], ◌∷◌, length, map, take, drop, set, get_or}
use Rattle.std.proofs.Common.{refl, sym, ap}
use Rattle.std.proofs.Math.Seq.{drop-cons}
use Rattle.std.proofs.lemmas.List.{map-set, set_split, take-append-drop, length-map, get_or-map}
use Rattle.std.proofs.lemmas.List.Elements.{filter-append}
use Rattle.pes_packet.specs.HeaderMarks.{header_marks}
use Rattle.pes_packet.specs.declared.marks.Marks.{Marks}
use Rattle.pes_packet.specs.declared.time_stamps.Stamps.{Stamps}
use Rattle.pes_packet.specs.declared.time_stamps.Stamps.TheVariants.{Absent, Pts, PtsDts}
use Rattle.demux.specs.Laws.{has_pid, found_of}
use Rattle.pid_findings.specs.Views.{WhatView, IsDuplicate, BreaksCounter, IsScrambled, IsTruncated, IsSection, IsBadSection, IsPes, IsBadPes, IsBadPacket}
use Rattle.pid_findings.specs.Views.{IsErrored}
use Rattle.pid_findings.specs.Views.{IsStray}
use Rattle.pid_findings.specs.Views.{FindingView}
use Rattle.es_units.specs.CarriedUnits.{RoleView, Ignored, Start, Continuation, pes_role, role_of_what, role_of, is_access_point}
use Rattle.es_units.specs.CarriedUnits.{is_unstamped, first_packet, carried_units}
use Rattle.es_units.specs.TakenUnits.{body_of, OthersStay}
use Rattle.es_units.proofs.CarriedUnits.{same_units}
use Rattle.es_moments.specs.WireUnits.{CarriedUnit, unit_with}

-- 1. The body of a PES packet that starts a unit

with_body : CarriedUnit → List ℕ → CarriedUnit
with_body u bytes = unit_with u.packet u.stream_id u.unit.dts u.unit.pts u.unit.marks bytes

-- A role with this body, if it starts a unit
in_role : RoleView → List ℕ → RoleView
in_role (Start u) bytes = Start (with_body u bytes)
in_role r bytes = r

absent : (b : Bool) (id : ℕ) (body : List ℕ) → (let r : RoleView = if b then Ignored else Continuation id body in in_role r body ≡ r)
unfolding in_role
absent true id body = refl
absent false id body = refl

in_pes : (packet id : ℕ) (marks : Marks) (stamps : Stamps) (body : List ℕ) →
    in_role (pes_role packet id marks stamps body) body ≡ pes_role packet id marks stamps body
unfolding in_role pes_role with_body
in_pes packet id marks Absent body = absent (id == 0xBE) id body
in_pes packet id marks (Pts pts) body = refl
in_pes packet id marks (PtsDts pts dts) body = refl

in_what : (packet : ℕ) (unstamped access : Bool) (what : WhatView) →
    in_role (role_of_what packet unstamped access what) (body_of what) ≡ role_of_what packet unstamped access what
unfolding in_role role_of_what body_of
in_what packet unstamped access IsDuplicate = refl
in_what packet unstamped access (BreaksCounter expected found) = refl
in_what packet unstamped access IsScrambled = refl
in_what packet unstamped access (IsTruncated bytes) = refl
in_what packet unstamped access (IsSection bytes) = refl
in_what packet unstamped access (IsBadSection error) = refl
in_what packet unstamped access (IsPes header unended body) = in_pes packet header.id (header_marks access header) header.stamps body
in_what packet unstamped access (IsBadPes error) = refl
in_what packet unstamped access (IsBadPacket error) = refl
in_what packet unstamped access IsErrored = refl
in_what packet unstamped access (IsStray size) = refl

in_own : (own : Bool) (r : RoleView) (bytes : List ℕ) → in_role r bytes ≡ r → (let t : RoleView = if own then r else Ignored in in_role t bytes ≡ t)
unfolding in_role
in_own true r bytes is = is
in_own false r bytes is = refl

in_finding : (pid : ℕ) (f : FindingView) → in_role (role_of pid f) (body_of f.what) ≡ role_of pid f
unfolding role_of
in_finding pid f = in_own (has_pid pid f.pid) (role_of_what (first_packet f.packet f.begun) (is_unstamped f.begun) (is_access_point f.begun) f.what)
    (body_of f.what)
    (in_what (first_packet f.packet f.begun) (is_unstamped f.begun) (is_access_point f.begun) f.what)

pub start_body : (pid : ℕ) (f : FindingView) (packet id dts pts : ℕ) (marks : Marks) (bytes : List ℕ) →
    Start (unit_with packet id dts pts marks bytes) ≡ role_of pid f →
    role_of pid f ≡ Start (unit_with packet id dts pts marks (body_of f.what))
unfolding in_role with_body
start_body pid f packet id dts pts marks bytes is =
    sym (in_finding pid f) ∙ ap (λ (r : RoleView). in_role r (body_of f.what)) (sym is)

-- 2. Findings of other PIDs

pub stay_same : (pid : ℕ) (fs gs : List FindingView) → gs ≡ fs → OthersStay pid fs gs
stay_same pid fs gs is other apart = ap (found_of other) is

none_found : (pid other : ℕ) (f : FindingView) → (pid == other) ≡ false → f.pid ≡ Some pid → found_of other (f ∷ []) ≡ []
none_found pid other f apart is = rw (is, apart) refl

-- A finding of this PID changes no finding of another PID.
pub stay_moved : (pid : ℕ) (f g : FindingView) → f.pid ≡ Some pid → g.pid ≡ Some pid → OthersStay pid (f ∷ []) (g ∷ [])
stay_moved pid f g is stays other apart = none_found pid other g apart stays ∙ sym (none_found pid other f apart is)

pub stay_then : (pid : ℕ) (fs gs hs : List FindingView) → OthersStay pid fs gs → OthersStay pid gs hs → OthersStay pid fs hs
stay_then pid fs gs hs first next other apart = next other apart ∙ first other apart

of_parts : (other : ℕ) (before : List FindingView) (f : FindingView) (later : List FindingView) →
    found_of other (before ++ f ∷ later) ≡ found_of other before ++ (found_of other (f ∷ []) ++ found_of other later)
of_parts other before f later =
    filter-append (λ (finding : FindingView). has_pid other finding.pid) before (f ∷ later)
    ∙ ap (λ (l : List FindingView). found_of other before ++ l) (filter-append (λ (finding : FindingView). has_pid other finding.pid) (f ∷ []) later)

-- A changed finding of this PID in a list changes no finding of another PID.
stay_set : (pid i : ℕ) (fs : List FindingView) (f g : FindingView) → i < length fs → f ≡ get_or fs i f → OthersStay pid (f ∷ []) (g ∷ []) →
    OthersStay pid fs (set fs i g)
stay_set pid i fs f g below at one other apart =
    ap (found_of other) (set_split fs i g below)
    ∙ of_parts other (take i fs) g (drop (suc i) fs)
    ∙ ap (λ (l : List FindingView). found_of other (take i fs) ++ (l ++ found_of other (drop (suc i) fs))) (one other apart)
    ∙ sym (of_parts other (take i fs) f (drop (suc i) fs))
    ∙ ap (found_of other)
    (let whole : take i fs ++ f ∷ drop (suc i) fs ≡ fs =
    rw at (ap (λ (l : List FindingView). take i fs ++ l) (sym (drop-cons fs i f below)) ∙ take-append-drop i fs) in whole)

pub stay_at : {X : Type 0} (view : X → FindingView) (pid i : ℕ) (all fs gs : List X) (f g : X) → i < length fs → f ≡ get_or fs i f → gs ≡ set fs i g →
    OthersStay pid (map view all) (map view fs) → OthersStay pid (view f ∷ []) (view g ∷ []) → OthersStay pid (map view all) (map view gs)
stay_at view pid i all fs gs f g below at is so_far one =
    let at' : view f ≡ get_or (map view fs) i (view f) = ap view at ∙ sym (get_or-map view fs i f (view f) below) in
    stay_then pid (map view all) (map view fs) (map view gs) so_far
    (let set_as : map view gs ≡ set (map view fs) i (view g) = rw is (map-set view fs i g) in
    rw set_as (stay_set pid i (map view fs) (view f) (view g) (let b : i < length (map view fs) = rw (length-map fs view) below in b) at' one))

-- The units of another PID stay the same.
pub others_carried : (pid other : ℕ) (fs gs : List FindingView) → OthersStay pid fs gs → (pid == other) ≡ false →
    carried_units other gs ≡ carried_units other fs
others_carried pid other fs gs stay apart = sym (same_units other gs) ∙ ap (carried_units other) (stay other apart) ∙ same_units other fs
