-- Each finding on a stream's PID is found again in the bytes of the job, or a line says why not.
use Rattle.std.proofs.Common.{◌≡◌, ◌∙◌, ◌⊎◌, inl, inr, ℕ, zero, suc, ◌+◌, ◌-◌, ◌^◌, Bool, true, List, [], ◌∷◌, ◌++◌, map, Contains}
use Rattle.std.proofs.Common.{ap, subst, refl, arith}
use Rattle.pes_packet.specs.AccessUnits.{AccessUnit}
use Rattle.pes_packet.specs.declared.marks.Marks.{Marks}
use Rattle.pes_packet.specs.declared.reading.PesHeader.{PesHeader}
use Rattle.pid_findings.specs.Views.{WhatView, IsPes, FindingView}
use Rattle.demux.specs.Laws.{has_pid}
use Rattle.es_moments.specs.ApartUnits.{apart_units}
use Rattle.es_moments.specs.WireUnits.{CarriedUnit}
use Rattle.es_moments.proofs.ApartUnits.{apart_keep}
use Rattle.es_units.specs.CarriedUnits.{carried_units, apart_wire_units}
use Rattle.laws_job.specs.Laws.{later_by, FoundAgainLaw}
use Rattle.laws_job.specs.LeftOut.{IsNamedUnit, IsCarriedOrNamed, IsInUnit, PesAccounted, Accounted, NothingIsSilent}
use Rattle.laws_job.specs.JoinedLaws.{JoinedAgainLaw}
use Rattle.laws_job.specs.FoundOrNamed.{IsAgain, units_again, FoundOrNamedLaw, JoinedOrNamedLaw}

-- 1. Units with later stamps

later_bytes : (time : ℕ) (us : List CarriedUnit) → map (λ v. v.bytes) (map (later_by time) (map (λ u. u.unit) us)) ≡ map (λ u. u.unit.bytes) us
later_bytes time [] = refl
later_bytes time (u ∷ us) = ap (λ (bs : List (List ℕ)). u.unit.bytes ∷ bs) (later_bytes time us)

later_marks : (time : ℕ) (us : List CarriedUnit) → map (λ v. v.marks) (map (later_by time) (map (λ u. u.unit) us)) ≡ map (λ u. u.unit.marks) us
later_marks time [] = refl
later_marks time (u ∷ us) = ap (λ (ms : List Marks). u.unit.marks ∷ ms) (later_marks time us)

-- If the found units have the same marks and bytes in the same order, each unit is found again.
each_again : (us : List CarriedUnit) (found : List AccessUnit) (u : CarriedUnit) → map (λ v. v.marks) found ≡ map (λ w. w.unit.marks) us →
    map (λ v. v.bytes) found ≡ map (λ w. w.unit.bytes) us → Contains us u → IsAgain found u
each_again [] found u marks bytes (k, lt, e) = absurd (omega (arith, lt))
each_again (w ∷ us) [] u marks bytes at = absurd (cc)
each_again (w ∷ us) (v ∷ found) u marks bytes (zero, lt, e) =
    let same_marks : v.marks ≡ w.unit.marks = cc in
    let same_bytes : v.bytes ≡ w.unit.bytes = cc in
    record {
      again = v;
      among = (zero, omega arith, refl);
      marks = same_marks ∙ ap (λ (x : CarriedUnit). x.unit.marks) e;
      bytes = same_bytes ∙ ap (λ (x : CarriedUnit). x.unit.bytes) e;
    }
each_again (w ∷ us) (v ∷ found) u marks bytes (suc k, lt, e) =
    let more_marks : map (λ x. x.marks) found ≡ map (λ x. x.unit.marks) us = cc in
    let more_bytes : map (λ x. x.bytes) found ≡ map (λ x. x.unit.bytes) us = cc in
    let there = each_again us found u more_marks more_bytes (k, omega (arith, lt), e) in
    let place = there.among in
    record {
      again = there.again;
      among = (suc place.0, omega (arith, place.1), place.2);
      marks = there.marks;
      bytes = there.bytes;
    }

unit_again : (pid time : ℕ) (findings : List FindingView) (found : List AccessUnit) (u : CarriedUnit) →
    found ≡ map (later_by time) (apart_wire_units pid findings) → Contains (carried_units pid findings) u → IsAgain found u
unit_again pid time findings found u is at =
    let us = carried_units pid findings in
    each_again us found u (ap (map (λ v. v.marks)) is ∙ later_marks time (apart_units us) ∙ (apart_keep us).3)
    (ap (map (λ v. v.bytes)) is ∙ later_bytes time (apart_units us) ∙ (apart_keep us).4) at

-- 2. A PES packet

-- A property of its unit may be replaced by a property that follows from it.
in_unit : (pid : ℕ) (before : List FindingView) (f : FindingView) (later : List FindingView) (body : List ℕ) (IsSo IsThen : CarriedUnit → Type 0) →
    ((u : CarriedUnit) → IsSo u → IsThen u) → IsInUnit pid before f later body IsSo → IsInUnit pid before f later body IsThen
in_unit pid before f later body IsSo IsThen makes is = record {
  earlier = is.earlier;
  first = is.first;
  between = is.between;
  found = is.found;
  start = is.start;
  begins = is.begins;
  ahead = is.ahead;
  bytes = is.bytes;
  is_so = makes _ is.is_so;
}

accounted : (pid count : ℕ) (before : List FindingView) (f : FindingView) (later : List FindingView) (header : PesHeader) (body : List ℕ)
    (IsSo IsThen : CarriedUnit → Type 0) → ((u : CarriedUnit) → IsSo u → IsThen u) → PesAccounted pid count before f later header body IsSo →
    PesAccounted pid count before f later header body IsThen
accounted pid count before f later header body IsSo IsThen makes (inl padding) = inl padding
accounted pid count before f later header body IsSo IsThen makes (inr (inl is)) = inr (inl (in_unit pid before f later body IsSo IsThen makes is))
accounted pid count before f later header body IsSo IsThen makes (inr (inr named)) = inr (inr named)

again_or_named : (pid count time : ℕ) (findings : List FindingView) (found : List AccessUnit) (u : CarriedUnit) →
    found ≡ map (later_by time) (apart_wire_units pid findings) → IsCarriedOrNamed pid count findings u → IsAgain found u ⊎ IsNamedUnit pid count findings u
again_or_named pid count time findings found u is (inl carried) = inl (unit_again pid time findings found u is carried)
again_or_named pid count time findings found u is (inr named) = inr named

-- 3. All PES packets

pes_of : (pid count : ℕ) (before : List FindingView) (f : FindingView) (later : List FindingView) (header : PesHeader) (unended : Bool) (body : List ℕ) →
    Accounted pid count before f later f.what → f.what ≡ IsPes header unended body →
    PesAccounted pid count before f later header body (IsCarriedOrNamed pid count (before ++ f ∷ later))
unfolding Accounted
pes_of pid count before f later header unended body holds is = subst (λ (what : WhatView). Accounted pid count before f later what) is holds

-- If the found units are the units of the PID with later stamps, each PES packet is found or named.
each_named : (pid count time : ℕ) (found : List AccessUnit) (before : List FindingView) (f : FindingView) (later : List FindingView) (header : PesHeader)
    (unended : Bool) (body : List ℕ) → NothingIsSilent → found ≡ map (later_by time) (apart_wire_units pid (before ++ f ∷ later)) →
    has_pid pid f.pid ≡ true → f.what ≡ IsPes header unended body →
    PesAccounted pid count before f later header body (λ u. IsAgain found u ⊎ IsNamedUnit pid count (before ++ f ∷ later) u)
each_named pid count time found before f later header unended body silent again own what =
    let fs = before ++ f ∷ later in
    accounted pid count before f later header body (IsCarriedOrNamed pid count fs) (λ u. IsAgain found u ⊎ IsNamedUnit pid count fs u)
    (λ u. again_or_named pid count time fs found u again)
    (pes_of pid count before f later header unended body (silent pid count before f later own) what)

pub found_or_named : FoundAgainLaw → NothingIsSilent → FoundOrNamedLaw
found_or_named law silent d p before f later units n k s base count header unended body ranges serving are few is moved due own what =
    each_named s.pid count (d.base0 + 2 ^ 33 - base) (units_again d p s units n) before f later header unended body silent
    (law d p (before ++ f ∷ later) units n k s base ranges serving are few is moved due) own what

pub joined_or_named : JoinedAgainLaw → NothingIsSilent → JoinedOrNamedLaw
joined_or_named law silent d p inputs origins pid before f later units n k s base count header unended body ranges serving are few is moved due own what =
    each_named pid count (d.base0 + 2 ^ 33 - base) (units_again d p s units n) before f later header unended body silent
    (law d p inputs origins units n k s (apart_wire_units pid (before ++ f ∷ later)) base ranges serving are few is moved due) own what
