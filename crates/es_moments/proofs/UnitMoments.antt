-- The moments of units, one by one
use Rattle.std.proofs.Common.{◌≡◌, ◌≤◌, ◌<◌, ◌∙◌, ℕ, ◌+◌, ◌++◌, Option, Some, None, List, [], ◌∷◌, length, map, drop, get_or, refl, sym, ap, add-one}
use Rattle.std.proofs.Math.Seq.{drop-cons}
use Rattle.std.proofs.lemmas.List.{append_assoc, append-nil, drop_all}
use Rattle.pes_packet.specs.AccessUnits.{AccessUnit}
use Rattle.pes_packet.specs.declared.marks.Marks.{Marks}
use Rattle.es_moments.specs.Stamps.{dts_at, unit_at, moved, unit_fault, fault_or, first_fault}
use Rattle.es_moments.specs.UnitMoments as at
use Rattle.es_moments.specs.UnitMoments.{moment_at, moment_of, units_at}
use Rattle.es_moments.specs.declared.stamps.StampFault.{StampFault}
use Rattle.es_moments.specs.declared.unit_moments.UnitMoment.{UnitMoment}
use Rattle.es_moments.specs.WireUnits.{CarriedUnit}

-- Units as on the wire
abbrev pub wire : List CarriedUnit → List AccessUnit
wire us = map (λ u. u.unit) us

next_wire : (i : ℕ) (us : List CarriedUnit) (u : CarriedUnit) → i < length us → u ≡ get_or us i u → wire (drop i us) ≡ u.unit ∷ wire (drop (i + 1) us)
next_wire i us u below here = rw (drop-cons us i u below, add-one i, sym here) refl

-- 1. The moments of units

pub moments_more : (base : ℕ) (before : Option ℕ) (i : ℕ) (us : List CarriedUnit) (u : CarriedUnit) (all out after : List UnitMoment) (m : UnitMoment) →
    i < length us → u ≡ get_or us i u →
    all ≡ out ++ map moment_of (moved base before (wire (drop i us))) → m ≡ moment_at base before u.unit.dts u.unit.pts → after ≡ out ++ m ∷ [] →
    all ≡ after ++ map moment_of (moved base (Some m.dts) (wire (drop (i + 1) us)))
unfolding moved unit_at
moments_more base before i us u all out after m below here is made pushed =
    rw (pushed, made) (is ∙ ap (λ (l : List AccessUnit). out ++ map moment_of (moved base before l)) (next_wire i us u below here)
    ∙ sym (append_assoc out (moment_at base before u.unit.dts u.unit.pts ∷ [])
    (map moment_of (moved base (Some (dts_at base before u.unit.dts)) (wire (drop (i + 1) us))))))

pub moments_over : (base : ℕ) (before : Option ℕ) (i : ℕ) (us : List CarriedUnit) (all out : List UnitMoment) → length us ≤ i →
    all ≡ out ++ map moment_of (moved base before (wire (drop i us))) → out ≡ all
unfolding moved
moments_over base before i us all out over is =
    let none : wire (drop i us) ≡ [] = rw (drop_all i us over) refl in
    sym (is ∙ ap (λ (l : List AccessUnit). out ++ map moment_of (moved base before l)) none ∙ append-nil out)

pub faults_more : (limit base : ℕ) (before : Option ℕ) (i : ℕ) (us : List CarriedUnit) (u : CarriedUnit) (m : UnitMoment) → i < length us → u ≡ get_or us i u →
    first_fault limit base None 0 (wire us) ≡ first_fault limit base before i (wire (drop i us)) → None ≡ unit_fault limit base before u.unit →
    m ≡ moment_at base before u.unit.dts u.unit.pts →
    first_fault limit base None 0 (wire us) ≡ first_fault limit base (Some m.dts) (i + 1) (wire (drop (i + 1) us))
unfolding first_fault fault_or
faults_more limit base before i us u m below here is none made =
    rw (made) (is ∙ ap (first_fault limit base before i) (next_wire i us u below here)
    ∙ ap (λ (o : Option StampFault). fault_or i o (first_fault limit base (Some (dts_at base before u.unit.dts)) (i + 1) (wire (drop (i + 1) us)))) (sym none))

pub faults_here : (limit base : ℕ) (before : Option ℕ) (i : ℕ) (us : List CarriedUnit) (u : CarriedUnit) (fault : StampFault) → i < length us →
    u ≡ get_or us i u →
    first_fault limit base None 0 (wire us) ≡ first_fault limit base before i (wire (drop i us)) → Some fault ≡ unit_fault limit base before u.unit →
    first_fault limit base None 0 (wire us) ≡ Some (i, fault)
unfolding first_fault fault_or
faults_here limit base before i us u fault below here is some =
    is ∙ ap (first_fault limit base before i) (next_wire i us u below here)
    ∙ ap (λ (o : Option StampFault). fault_or i o (first_fault limit base (Some (dts_at base before u.unit.dts)) (i + 1) (wire (drop (i + 1) us)))) (sym some)

pub faults_over : (limit base : ℕ) (before : Option ℕ) (i : ℕ) (us : List CarriedUnit) → length us ≤ i →
    first_fault limit base None 0 (wire us) ≡ first_fault limit base before i (wire (drop i us)) → first_fault limit base None 0 (wire us) ≡ None
unfolding first_fault
faults_over limit base before i us over is =
    let none : wire (drop i us) ≡ [] = rw (drop_all i us over) refl in
    is ∙ ap (first_fault limit base before i) none

-- 2. Units at moments, one by one

pub at_more : (ms later : List UnitMoment) (m : UnitMoment) (us rest : List CarriedUnit) (u : CarriedUnit) (out : List AccessUnit) (x : AccessUnit) →
    ms ≡ m ∷ later → us ≡ u ∷ rest →
    x ≡ at.unit_at m u → out ++ units_at ms us ≡ (out ++ x ∷ []) ++ units_at later rest
unfolding units_at
at_more ms later m us rest u out x first next made = rw (first, next, made) (sym (append_assoc out (at.unit_at m u ∷ []) (units_at later rest)))

pub at_short : (ms : List UnitMoment) (us : List CarriedUnit) → length ms ≡ 0 → units_at ms us ≡ []
unfolding units_at
at_short [] us none = refl
at_short (m ∷ ms) us none = absurd cc

pub at_end : (ms : List UnitMoment) (us : List CarriedUnit) → us ≡ [] → units_at ms us ≡ []
unfolding units_at
at_end [] us none = refl
at_end (m ∷ ms) us none = rw none refl

pub at_done : (all out rest : List AccessUnit) → all ≡ out ++ rest → rest ≡ [] → out ≡ all
at_done all out rest is none = sym (is ∙ ap (λ (l : List AccessUnit). out ++ l) none ∙ append-nil out)

-- 3. The marks and the bytes stay the same

abbrev pub content : CarriedUnit → Marks × List ℕ
content u = (u.unit.marks, u.unit.bytes)

abbrev pub contents : List CarriedUnit → List (Marks × List ℕ)
contents us = map content us

head_same : (a b : Marks × List ℕ) (more others : List (Marks × List ℕ)) → (let l : List (Marks × List ℕ) = a ∷ more in l) ≡ b ∷ others →
    (a ≡ b) × (more ≡ others)
head_same a b more others is = (cc, cc)

-- Two lists are equal if the marks and the bytes of their first units and the rests of the lists are equal.
same_step : (dts pts : ℕ) (m n : Marks) (a b : List ℕ) (more others : List AccessUnit) → m ≡ n → a ≡ b → more ≡ others →
    ◌≡◌ {A = List AccessUnit} (record { dts = dts; pts = pts; marks = n; bytes = b } ∷ more) (record { dts = dts; pts = pts; marks = m; bytes = a } ∷ others)
same_step dts pts m n a b more others em ea is = rw (em, ea, is) refl

-- Units with the marks and the bytes of moved units, placed at their moments, are the moved units.
pub at_own : (base : ℕ) (before : Option ℕ) (us vs : List CarriedUnit) → contents us ≡ contents vs →
    units_at (map moment_of (moved base before (wire us))) vs ≡ moved base before (wire us)
unfolding units_at moved unit_at
at_own base before [] [] same = refl
at_own base before [] (v ∷ vs) same = absurd cc
at_own base before (u ∷ us) [] same = absurd cc
at_own base before (u ∷ us) (v ∷ vs) same =
    let two = head_same (content u) (content v) (contents us) (contents vs) same in
    let marks : u.unit.marks ≡ v.unit.marks = ap (λ (c : Marks × List ℕ). c.0) two.0 in
    let bytes : u.unit.bytes ≡ v.unit.bytes = ap (λ (c : Marks × List ℕ). c.1) two.0 in
    same_step _ _ u.unit.marks v.unit.marks u.unit.bytes v.unit.bytes _ _ marks bytes (at_own base (Some (dts_at base before u.unit.dts)) us vs two.1)
