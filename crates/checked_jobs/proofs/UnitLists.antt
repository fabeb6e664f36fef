-- The records of a job, one by one, and while their bytes arrive.
use Rattle.std.proofs.Common.{◌≡◌, ◌+◌, ◌-◌, ℕ, suc, List, [], ◌∷◌, ◌++◌, length, drop, Option, Some, None, Result, Ok, Err, refl, sym, ap, ◌∙◌, subst, arith}
use Rattle.std.proofs.Common.{append_assoc, append-nil, Bool, true, false, not}
use Rattle.std.specs.Prelude.{is_some}
use Rattle.std.proofs.lemmas.List.{length-append, length-drop}
use Rattle.pes_packet.specs.AccessUnits.{AccessUnit}
use Rattle.unit_records.specs.OpenRecords.{IsOpen, TakesBytes, come_of}
use Rattle.unit_records.specs.Records.{after_record, record_at, size_at}
use Rattle.unit_records.proofs.RecordReading.{record_long}
use Rattle.unit_records.specs.declared.reading.UnitFileError.{UnitFileError}
use Rattle.unit_records.specs.declared.reading.UnitFileError.TheVariants.{Cut, Size, Device, Memory}
use Rattle.unit_records.specs.declared.taking.OpenRecord.{OpenRecord}
use Rattle.devices.specs.declared.halt.Halt.{Halt}
use Rattle.checked_jobs.specs.UnitList.{NamesFault, ReadSoFar, IsReadUpTo, TakesRecords, Units, joined, units_from, units_in, units_step, with_first}
use Rattle.checked_jobs.specs.declared.unit_list.RecordFault.{RecordFault}

-- 1. One record after another

joined_none : (after : Units) → joined [] after ≡ after
unfolding joined
joined_none (Ok entries) = refl
joined_none (Err fault) = refl

joined_more : (done : List (ℕ × AccessUnit)) (entry : ℕ × AccessUnit) (after : Units) → joined done (with_first entry after) ≡ joined (done ++ entry ∷ []) after
unfolding joined with_first
joined_more done entry (Ok entries) = ap Ok (sym (append_assoc done (entry ∷ []) entries))
joined_more done entry (Err fault) = refl

pub read_none : (xs : List ℕ) → ReadSoFar xs [] xs
unfolding joined
read_none xs =
    let one : 1 + length xs ≡ suc (length xs) = omega arith in
    record {
      spare = length xs;
      enough = omega arith;
      is = ap (λ (n : ℕ). units_from n 0 xs) one ∙ sym (joined_none (units_from (suc (length xs)) 0 xs));
    }

pub read_more : (xs : List ℕ) (done : List (ℕ × AccessUnit)) (left : List ℕ) (entry : ℕ × AccessUnit) →
    ReadSoFar xs done left → record_at left ≡ Ok (Some entry) → ReadSoFar xs (done ++ entry ∷ []) (after_record left)
unfolding units_from units_step
read_more xs done left entry r e =
    let long = record_long left entry e in
    let shorter = length-drop (21 + size_at left) left in
    let count = length-append done (entry ∷ []) in
    let next : length done + 1 ≡ length (done ++ entry ∷ []) = omega (arith, count) in
    let spare : r.spare ≡ suc (r.spare - 1) = omega (arith, long, r.enough) in
    let rest = units_from r.spare (length done + 1) (after_record left) in
    record {
      spare = r.spare - 1;
      enough = omega (arith, long, shorter, r.enough);
      is = r.is ∙ ap (λ o. joined done (units_step (length done) o rest)) e ∙ joined_more done entry rest
          ∙ ap (λ (n : ℕ). joined (done ++ entry ∷ []) (units_from r.spare n (after_record left))) next
          ∙ ap (λ (n : ℕ). joined (done ++ entry ∷ []) (units_from n (length (done ++ entry ∷ [])) (after_record left))) spare;
    }

pub read_all : (xs : List ℕ) (done : List (ℕ × AccessUnit)) (left : List ℕ) → ReadSoFar xs done left → record_at left ≡ Ok None → Ok done ≡ units_in xs
unfolding units_from units_step joined
read_all xs done left r e =
    let rest = units_from r.spare (length done + 1) (after_record left) in
    ap Ok (sym (append-nil done)) ∙ sym (r.is ∙ ap (λ o. joined done (units_step (length done) o rest)) e)

pub read_stopped : (xs : List ℕ) (done : List (ℕ × AccessUnit)) (left : List ℕ) (fault : UnitFileError) → ReadSoFar xs done left → record_at left ≡ Err fault →
    Err (length done, fault) ≡ units_in xs
unfolding units_from units_step joined
read_stopped xs done left fault r e =
    let rest = units_from r.spare (length done + 1) (after_record left) in
    sym (r.is ∙ ap (λ o. joined done (units_step (length done) o rest)) e)

-- 2. Records whose bytes arrive piece by piece

-- No byte has arrived.
pub none_come : (units : List (ℕ × AccessUnit)) (begun : OpenRecord) (fault : Option RecordFault) → units ≡ [] → IsOpen begun → come_of begun ≡ [] →
    fault ≡ None →
    TakesRecords [] units begun fault
none_come units begun fault u o e f = λ more.
    rw (u, f) (o, subst (ReadSoFar more []) (ap (λ (xs : List ℕ). xs ++ more) (sym e)) (read_none more))

-- There is a faulty record, or there is none.
pub no_fault : (fault : Option RecordFault) (none : Bool) → is_some fault ≡ not none → none ≡ true → fault ≡ None
no_fault None none e t = refl
no_fault (Some f) true e t = absurd cc
no_fault (Some f) false e t = absurd cc

pub fault_stays : (xs left after : List ℕ) (units : List (ℕ × AccessUnit)) (begun : OpenRecord) (fault : Option RecordFault) (none : Bool) →
    is_some fault ≡ not none → none ≡ false →
    IsReadUpTo xs left units begun fault → IsReadUpTo xs after units begun fault
fault_stays xs left after units begun None true e t s = absurd cc
fault_stays xs left after units begun None false e t s = absurd cc
fault_stays xs left after units begun (Some f) none e t s = s

-- A record ends among these bytes.
pub record_ends : (xs bytes more : List ℕ) (units : List (ℕ × AccessUnit)) (old new : OpenRecord) (n : ℕ) (entry : ℕ × AccessUnit)
    (fault : Option RecordFault) → fault ≡ None →
    IsReadUpTo xs (bytes ++ more) units old fault → (IsOpen old → TakesBytes (come_of old) bytes new (Ok (Some (n, entry)))) →
    IsReadUpTo xs (drop n bytes ++ more) (units ++ entry ∷ []) new fault
record_ends xs bytes more units old new n entry (Some f) e s k = absurd cc
record_ends xs bytes more units old new n entry None e s k =
    let t = k s.0 in
    let rest : after_record (come_of old ++ (bytes ++ more)) ≡ come_of new ++ (drop n bytes ++ more) =
    t.1.1.rest_is more ∙ ap (λ (ys : List ℕ). ys ++ (drop n bytes ++ more)) (sym t.1.0) in
    (t.0, subst (ReadSoFar xs (units ++ entry ∷ [])) rest (read_more xs units (come_of old ++ (bytes ++ more)) entry s.1 (t.1.1.record_is more)))

-- All these bytes belong to the open record.
pub record_goes_on : (xs bytes more : List ℕ) (units : List (ℕ × AccessUnit)) (old new : OpenRecord) (fault : Option RecordFault) → fault ≡ None →
    IsReadUpTo xs (bytes ++ more) units old fault → (IsOpen old → TakesBytes (come_of old) bytes new (Ok None)) → IsReadUpTo xs more units new fault
record_goes_on xs bytes more units old new (Some f) e s k = absurd cc
record_goes_on xs bytes more units old new None e s k =
    let t = k s.0 in
    let left : come_of old ++ (bytes ++ more) ≡ come_of new ++ more = sym (append_assoc (come_of old) bytes more)
    ∙ ap (λ (ys : List ℕ). ys ++ more) (sym t.1) in
    (t.0, subst (ReadSoFar xs units) left s.1)

named : (fault : RecordFault) (index : ℕ) (refusal : UnitFileError) {xs : Units} →
    ◌≡◌ {A = Result RecordFault Halt} (Ok fault) (Ok (record { index = index; fault = refusal })) →
    Err (index, refusal) ≡ xs → Err (fault.index, fault.fault) ≡ xs
named fault index refusal n e = (let same : fault ≡ record { index = index; fault = refusal } = cc in ap (λ (f : RecordFault). Err (f.index, f.fault)) same ∙ e)

-- The open record is refused.
pub record_is_none : (xs bytes more : List ℕ) (units : List (ℕ × AccessUnit)) (old new : OpenRecord) (refusal : UnitFileError) (before : Option RecordFault)
    (fault : RecordFault) → before ≡ None →
    IsReadUpTo xs (bytes ++ more) units old before → (IsOpen old → TakesBytes (come_of old) bytes new (Err refusal)) →
    NamesFault (length units) refusal (Ok fault) → Err (fault.index, fault.fault) ≡ units_in xs
record_is_none xs bytes more units old new refusal (Some f) fault b s k n = absurd cc
record_is_none xs bytes more units old new Cut None fault b s k n =
    named fault (length units) Cut n (read_stopped xs units (come_of old ++ (bytes ++ more)) Cut s.1 (k s.0 more))
record_is_none xs bytes more units old new Size None fault b s k n =
    named fault (length units) Size n (read_stopped xs units (come_of old ++ (bytes ++ more)) Size s.1 (k s.0 more))
record_is_none xs bytes more units old new Device None fault b s k n =
    named fault (length units) Device n (read_stopped xs units (come_of old ++ (bytes ++ more)) Device s.1 (k s.0 more))
record_is_none xs bytes more units old new Memory None fault b s k n = absurd cc

-- Bytes that arrive in two steps are joined in order.
pub come_together : (before bytes more : List ℕ) → before ++ (bytes ++ more) ≡ (before ++ bytes) ++ more
come_together before bytes more = sym (append_assoc before bytes more)

-- 3. The end of the records

none_left : record_at [] ≡ Ok None
unfolding record_at
none_left = refl

pub all_came : (bytes : List ℕ) (units : List (ℕ × AccessUnit)) (begun : OpenRecord) → TakesRecords bytes units begun None →
    (IsOpen begun → come_of begun ≡ []) → Ok units ≡ units_in bytes
all_came bytes units begun t e =
    let s = t [] in
    let none : come_of begun ++ [] ≡ [] = append-nil (come_of begun) ∙ e s.0 in
    read_all (bytes ++ []) units [] (subst (ReadSoFar (bytes ++ []) units) none s.1) none_left ∙ ap units_in (append-nil bytes)

pub cut_came : (bytes : List ℕ) (units : List (ℕ × AccessUnit)) (begun : OpenRecord) → TakesRecords bytes units begun None →
    (IsOpen begun → record_at (come_of begun) ≡ Err Cut) →
    Err (length units, Cut) ≡ units_in bytes
cut_came bytes units begun t e =
    let s = t [] in
    read_stopped (bytes ++ []) units (come_of begun ++ []) Cut s.1 (ap record_at (append-nil (come_of begun)) ∙ e s.0) ∙ ap units_in (append-nil bytes)

pub fault_came : (bytes : List ℕ) (units : List (ℕ × AccessUnit)) (begun : OpenRecord) (fault : RecordFault) → TakesRecords bytes units begun (Some fault) →
    Err (fault.index, fault.fault) ≡ units_in bytes
fault_came bytes units begun fault t = t [] ∙ ap units_in (append-nil bytes)
