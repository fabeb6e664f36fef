-- A record whose bytes arrive one after another is the record at the front of all these bytes.
use Rattle.std.proofs.Common.{◌≡◌, ◌==◌, Bool, true, false, not, ℕ, suc, ◌+◌, ◌-◌, ◌/◌, ◌^◌, ◌<◌, ◌≤◌, List, [], ◌∷◌, ◌++◌, length, take, drop, min}
use Rattle.std.proofs.Common.{slice_index, Some, Ok, Err, refl, sym, ap, ap₂, subst, ◌∙◌, arith, append_assoc, take_at, drop_at, take_all, inl, inr}
use Rattle.std.proofs.lemmas.Bool.{cases_lt, eqb-true}
use Rattle.std.proofs.lemmas.List.{append-nil, length-append, length-drop, length-take-le, drop-append-le, drop-drop, take-append-drop, take-append-le}
use Rattle.byteorder.specs.Endian.{big_from, big_number}
use Rattle.byteorder.specs.Numbers.{big_from-take}
use Rattle.pes_packet.specs.AccessUnits.{AccessUnit}
use Rattle.pes_packet.specs.declared.marks.Marks.{Marks}
use Rattle.unit_records.specs.OpenRecords.{EndsRecord, IsOpen, IsPart, NamesSize, StaysRefused, come_of, entry_of}
use Rattle.unit_records.specs.Records.{after_record, body_at, byte_at, bytes_in, marks_in, max_unit_size, record_at, size_at, size_in, unit_at}
use Rattle.unit_records.specs.declared.taking.OpenRecord.{OpenRecord}
use Rattle.unit_records.specs.declared.reading.UnitFileError.{UnitFileError}
use Rattle.unit_records.specs.declared.reading.UnitFileError.TheVariants.{Cut, Size, Device, Memory}
use Rattle.unit_records.proofs.RecordBytes.{record_of}
use Rattle.unit_records.proofs.RecordReading.{record_cut, record_short, record_size}

-- 1. Numbers at the front of bytes

number_front : (n : ℕ) (xs more : List ℕ) → n ≤ length xs → big_number n (xs ++ more) ≡ big_number n xs
number_front n xs more h =
    sym (big_from-take 0 n n (xs ++ more) (omega arith)) ∙ ap (λ (ys : List ℕ). big_from 0 n ys) (take-append-le n xs more h)
    ∙ big_from-take 0 n n xs (omega arith)

number_after : (at n : ℕ) (xs more : List ℕ) → at + n ≤ length xs → big_number n (drop at (xs ++ more)) ≡ big_number n (drop at xs)
number_after at n xs more h =
    let left = length-drop at xs in
    ap (λ (ys : List ℕ). big_number n ys) (drop-append-le at xs more (omega (arith, h))) ∙ number_front n (drop at xs) more (omega (arith, h, left))

pub size_front : (head more : List ℕ) → 5 ≤ length head → size_at (head ++ more) ≡ size_at head
size_front head more h = ap size_in (number_after 1 4 head more (omega (arith, h)))

pub byte_front : (head more : List ℕ) → 5 ≤ length head → byte_at (head ++ more) ≡ byte_at head
byte_front head more h = ap (λ (n : ℕ). n / 2 ^ 24) (number_after 1 4 head more (omega (arith, h)))

pub first_front : (head more : List ℕ) → 0 < length head → slice_index (head ++ more) 0 ≡ slice_index head 0
first_front [] more h = absurd (omega (arith, h))
first_front (x ∷ head) more h = refl

-- 2. A head that is filled up

-- The first n bytes belong to the head: they are the bytes that it lacks, as far as they have arrived
abbrev pub Fills : List ℕ → List ℕ → List ℕ → ℕ → Type 0
Fills head unit bytes n = (length (head ++ take n bytes) ≤ 21) × ((length head < 21 → unit ≡ []) × (n ≡ min (21 - length head) (length bytes)))

pub joined : (head unit bytes more : List ℕ) (n : ℕ) → Fills head unit bytes n →
    (head ++ unit) ++ (bytes ++ more) ≡ (head ++ take n bytes) ++ (unit ++ (drop n bytes ++ more))
joined head unit bytes more n f = elim (cases_lt (length head) 21) [
  | inl short ↦
      let none : unit ≡ [] = f.1.0 short in
      rw none
      (ap (λ (xs : List ℕ). xs ++ (bytes ++ more)) (append-nil head)
      ∙ ap (λ (xs : List ℕ). head ++ (xs ++ more)) (sym (take-append-drop n bytes))
      ∙ ap (λ (xs : List ℕ). head ++ xs) (append_assoc (take n bytes) (drop n bytes) more)
      ∙ sym (append_assoc head (take n bytes) (drop n bytes ++ more)))
  | inr full ↦
      let zero : n ≡ 0 = omega (arith, f.1.1, full) in
      rw zero (append_assoc head unit (bytes ++ more) ∙ ap (λ (xs : List ℕ). xs ++ (unit ++ (bytes ++ more))) (sym (append-nil head)))
]

-- 3. Refusals

pub refused : (head unit bytes : List ℕ) (n : ℕ) (refusal : UnitFileError) → Fills head unit bytes n → NamesSize (head ++ take n bytes) (Err refusal) →
    StaysRefused (head ++ unit) bytes refusal
refused head unit bytes n Cut f s = absurd s
refused head unit bytes n Size f s = λ more.
    let all = (head ++ take n bytes) ++ (unit ++ (drop n bytes ++ more)) in
    let size : size_at all ≡ size_at (head ++ take n bytes) = size_front (head ++ take n bytes) (unit ++ (drop n bytes ++ more)) s.0 in
    let long = length-append (head ++ take n bytes) (unit ++ (drop n bytes ++ more)) in
    ap record_at (joined head unit bytes more n f) ∙ record_size all (omega (arith, long, s.0)) (omega (arith, size, s.1))
refused head unit bytes n Device f s = absurd s
refused head unit bytes n Memory f s = absurd s

-- An input that ends inside a record is cut.
pub cut_inside : (xs : List ℕ) → IsPart xs → 0 < length xs → record_at xs ≡ Err Cut
cut_inside xs p some = elim (cases_lt (length xs) 5) [
  | inl short ↦ record_short xs some short
  | inr long ↦ record_cut xs long (p.size long) p.short
]

-- 4. A unit that is filled up

-- The unit takes m of the bytes after the head
abbrev pub FillsUnit : List ℕ → List ℕ → ℕ → ℕ → ℕ → Type 0
FillsUnit unit bytes n size m = m ≡ min (size - length unit) (length (drop n bytes))

-- The unit of an open record has no more bytes than the record names.
unit_short : (head unit bytes : List ℕ) (n size : ℕ) → IsPart (head ++ unit) → Fills head unit bytes n → size ≡ size_at (head ++ take n bytes) →
    length unit ≤ size
unit_short head unit bytes n size p f s = elim (cases_lt (length head) 21) [
  | inl short ↦
      let none : length unit ≡ 0 = ap length (f.1.0 short) in
      omega (arith, none)
  | inr full ↦
      let zero : n ≡ 0 = omega (arith, f.1.1, full) in
      let same : size ≡ size_at head = s ∙ ap (λ (k : ℕ). size_at (head ++ take k bytes)) zero ∙ ap (λ (xs : List ℕ). size_at xs) (append-nil head) in
      let named : size_at (head ++ unit) ≡ size_at head = size_front head unit (omega (arith, full)) in
      let all = length-append head unit in
      let most = length-append head (take n bytes) in
      omega (arith, p.short, same, named, all, most, f.0)
]

-- If all bytes of the unit have arrived, the unit has the size that the record names.
unit_whole : (head unit bytes : List ℕ) (n m size : ℕ) → IsPart (head ++ unit) → Fills head unit bytes n → FillsUnit unit bytes n size m →
    size ≡ size_at (head ++ take n bytes) → size ≤ length (unit ++ take m (drop n bytes)) → length (unit ++ take m (drop n bytes)) ≡ size
unit_whole head unit bytes n m size p f u s whole =
    let all = length-append unit (take m (drop n bytes)) in
    let part = length-take-le m (drop n bytes) (omega (arith, u)) in
    let before = unit_short head unit bytes n size p f s in
    omega (arith, all, part, before, u, whole)

-- The bytes of the record come first, then the bytes after it.
spread : (head unit bytes more : List ℕ) (n m : ℕ) → Fills head unit bytes n →
    (head ++ unit) ++ (bytes ++ more) ≡ (head ++ take n bytes) ++ ((unit ++ take m (drop n bytes)) ++ (drop (n + m) bytes ++ more))
spread head unit bytes more n m f =
    joined head unit bytes more n f
    ∙ ap (λ (xs : List ℕ). (head ++ take n bytes) ++ (unit ++ (xs ++ more))) (sym (take-append-drop m (drop n bytes)))
    ∙ ap (λ (xs : List ℕ). (head ++ take n bytes) ++ (unit ++ xs)) (append_assoc (take m (drop n bytes)) (drop m (drop n bytes)) more)
    ∙ ap (λ (xs : List ℕ). (head ++ take n bytes) ++ (unit ++ (take m (drop n bytes) ++ (xs ++ more)))) (drop-drop m n bytes)
    ∙ ap (λ (xs : List ℕ). (head ++ take n bytes) ++ xs) (sym (append_assoc unit (take m (drop n bytes)) (drop (n + m) bytes ++ more)))

pub unit_same : (dts pts : ℕ) (marks : Marks) (bytes : List ℕ) (dts2 pts2 : ℕ) (marks2 : Marks) (bytes2 : List ℕ) → dts ≡ dts2 → pts ≡ pts2 → marks ≡ marks2 →
    bytes ≡ bytes2
    → ◌≡◌ {A = AccessUnit} (record { dts = dts; pts = pts; marks = marks; bytes = bytes }) (record { dts = dts2; pts = pts2; marks = marks2; bytes = bytes2 })
unit_same dts pts marks bytes dts2 pts2 marks2 bytes2 d p m b = rw (d, p, m, b) refl

-- A whole head and a unit of the size that it names make a record, whatever follows.
pub whole_front : (head unit rest : List ℕ) → length head ≡ 21 → size_at head ≡ length unit → length unit ≤ max_unit_size →
    (record_at (head ++ (unit ++ rest)) ≡ Ok (Some (entry_of head unit))) × (after_record (head ++ (unit ++ rest)) ≡ rest)
whole_front head unit rest full s max =
    let all = head ++ (unit ++ rest) in
    let size : size_at all ≡ length unit = size_front head (unit ++ rest) (omega (arith, full)) ∙ s in
    let after : drop 21 all ≡ unit ++ rest = drop_at head (unit ++ rest) 21 full in
    let body : body_at all ≡ unit =
    ap (λ (k : ℕ). take k (drop 21 all)) size ∙ ap (take {A = ℕ} (length unit)) after ∙ take_at unit rest (length unit) refl in
    let dts : big_number 8 (drop 5 all) ≡ big_number 8 (drop 5 head) = number_after 5 8 head (unit ++ rest) (omega (arith, full)) in
    let pts : big_number 8 (drop 13 all) ≡ big_number 8 (drop 13 head) = number_after 13 8 head (unit ++ rest) (omega (arith, full)) in
    let byte : byte_at all ≡ byte_at head = byte_front head (unit ++ rest) (omega (arith, full)) in
    let unit_is : unit_at all ≡ (entry_of head unit).1 =
    unit_same _ _ _ _ _ _ _ _ dts pts (ap₂ (λ (b : ℕ) (xs : List ℕ). marks_in b xs) byte body) (ap₂ (λ (b : ℕ) (xs : List ℕ). bytes_in b xs) byte body) in
    let count = length-append head (unit ++ rest) in
    record_of all (slice_index head 0) (entry_of head unit).1 unit rest (first_front head (unit ++ rest) (omega (arith, full))) size unit_is after
    (omega (arith, count, full)) max

pub ends : (head unit bytes : List ℕ) (n m size : ℕ) → IsPart (head ++ unit) → Fills head unit bytes n → FillsUnit unit bytes n size m →
    21 ≤ length (head ++ take n bytes) → size ≡ size_at (head ++ take n bytes) → size ≤ max_unit_size → size ≤ length (unit ++ take m (drop n bytes)) →
    EndsRecord (head ++ unit) bytes (n + m) (entry_of (head ++ take n bytes) (unit ++ take m (drop n bytes)))
ends head unit bytes n m size p f u long s max whole =
    let same = unit_whole head unit bytes n m size p f u s whole in
    let front = λ (more : List ℕ).
    whole_front (head ++ take n bytes) (unit ++ take m (drop n bytes)) (drop (n + m) bytes ++ more) (omega (arith, long, f.0)) (sym s ∙ sym same)
    (omega (arith, same, max)) in
    record {
      record_is = λ more. ap record_at (spread head unit bytes more n m f) ∙ (front more).0;
      rest_is = λ more. ap (λ (xs : List ℕ). after_record xs) (spread head unit bytes more n m f) ∙ (front more).1;
    }

-- If the unit still lacks bytes, all bytes that have arrived belong to the record.
pub goes_on : (head unit bytes : List ℕ) (n m size : ℕ) → IsPart (head ++ unit) → Fills head unit bytes n → FillsUnit unit bytes n size m →
    21 ≤ length (head ++ take n bytes) → size ≡ size_at (head ++ take n bytes) → size ≤ max_unit_size → length (unit ++ take m (drop n bytes)) < size →
    IsPart ((head ++ take n bytes) ++ (unit ++ take m (drop n bytes))) × ((head ++ take n bytes) ++ (unit ++ take m (drop n bytes)) ≡ (head ++ unit) ++ bytes)
goes_on head unit bytes n m size p f u long s max lacks =
    let h = head ++ take n bytes in
    let b = unit ++ take m (drop n bytes) in
    let fits : m ≤ length (drop n bytes) = omega (arith, u) in
    let count = length-append unit (take m (drop n bytes)) in
    let part = length-take-le m (drop n bytes) fits in
    let all : length (drop n bytes) ≤ m = omega (arith, u, count, part, lacks) in
    let taken : take m (drop n bytes) ≡ drop n bytes = take_all m (drop n bytes) all in
    let size_is : size_at (h ++ b) ≡ size = size_front h b (omega (arith, long)) ∙ sym s in
    let both = length-append h b in (
      record { size = λ some. omega (arith, size_is, max); short = omega (arith, both, f.0, size_is, lacks) },
      ap (λ (xs : List ℕ). h ++ (unit ++ xs)) taken
          ∙ ap (λ (xs : List ℕ). h ++ (unit ++ xs)) (sym (append-nil (drop n bytes)))
          ∙ sym (joined head unit bytes [] n f) ∙ ap (λ (xs : List ℕ). (head ++ unit) ++ xs) (append-nil bytes),
    )

-- 5. Whether a byte has arrived

pub none_come : (head unit : List ℕ) (empty : Bool) → empty ≡ (length head == 0) → (length head < 21 → unit ≡ []) → not empty ≡ false → head ++ unit ≡ []
none_come [] unit empty e f s = f (omega arith)
none_come (x ∷ head) unit true e f s = let no : suc (length head) ≡ 0 = eqb-true (length (x ∷ head)) 0 (sym e) in absurd (omega (arith, no))
none_come (x ∷ head) unit false e f s = absurd cc

pub some_come : (head unit : List ℕ) (empty : Bool) → empty ≡ (length head == 0) → not empty ≡ true → 0 < length (head ++ unit)
some_come [] unit true e s = absurd cc
some_come [] unit false e s = absurd cc
some_come (x ∷ head) unit empty e s = omega arith

-- 6. The state after a call

-- The head after the call: the old head with bytes that it lacked
abbrev pub HeadIs : OpenRecord → List ℕ → List ℕ → List ℕ → ℕ → Type 0
HeadIs old bytes now view n =
    (view ≡ now) × ((now ≡ old.head.items ++ take n bytes) × ((n ≡ min (21 - length old.head.items) (length bytes)) × (length view ≤ 21)))

-- The unit after the call: the old unit with bytes that it lacked
abbrev pub UnitIs : OpenRecord → List ℕ → List ℕ → ℕ → ℕ → ℕ → Type 0
UnitIs old bytes now n size m = (now ≡ old.unit.items ++ take m (drop n bytes)) × (m ≡ min (size - length old.unit.items) (length (drop n bytes)))

fills : (old : OpenRecord) (bytes now view : List ℕ) (n : ℕ) → IsOpen old → HeadIs old bytes now view n → Fills old.head.items old.unit.items bytes n
fills old bytes now view n o h = (subst (λ (xs : List ℕ). length xs ≤ 21) (h.0 ∙ h.1.0) h.1.1.1, (o.head_first, h.1.1.0))

pub head_refused : (old : OpenRecord) (bytes now view : List ℕ) (n : ℕ) (refusal : UnitFileError) → IsOpen old → HeadIs old bytes now view n →
    NamesSize view (Err refusal) →
    StaysRefused (come_of old) bytes refusal
head_refused old bytes now view n refusal o h s =
    refused old.head.items old.unit.items bytes n refusal (fills old bytes now view n o h) (subst (λ (xs : List ℕ). NamesSize xs (Err refusal)) (h.0 ∙ h.1.0) s)

pub whole_taken : (old new : OpenRecord) (bytes head view unit : List ℕ) (n m size : ℕ) (entry : ℕ × AccessUnit) → IsOpen old → HeadIs old bytes head view n →
    NamesSize view (Ok (Some size)) → UnitIs old bytes unit n size m → size ≤ length unit → entry ≡ entry_of head unit → new.head.items ≡ [] →
    new.unit.items ≡ [] →
    IsOpen new × ((come_of new ≡ []) × EndsRecord (come_of old) bytes (n + m) entry)
whole_taken old new bytes head view unit n m size entry o h s u whole e no_head no_unit =
    let named : NamesSize (old.head.items ++ take n bytes) (Ok (Some size)) = subst (λ (xs : List ℕ). NamesSize xs (Ok (Some size))) (h.0 ∙ h.1.0) s in
    let all : size ≤ length (old.unit.items ++ take m (drop n bytes)) = subst (λ (xs : List ℕ). size ≤ length xs) u.0 whole in
    let none : come_of new ≡ [] = rw (no_head, no_unit) refl in
    let e2 : entry ≡ entry_of (old.head.items ++ take n bytes) (old.unit.items ++ take m (drop n bytes)) = e ∙ ap₂ entry_of h.1.0 u.0 in (
      record { part = subst IsPart (sym none) (record { size = λ some. absurd (omega (arith, some)); short = omega arith }); head_first = λ s. no_unit },
      (
        none,
        subst (EndsRecord (come_of old) bytes (n + m)) (sym e2)
            (ends old.head.items old.unit.items bytes n m size o.part (fills old bytes head view n o h) u.1 named.0 named.1.0 named.1.1 all),
      ),
    )

pub part_taken : (old new : OpenRecord) (bytes head view unit : List ℕ) (n m size : ℕ) → IsOpen old → HeadIs old bytes head view n →
    NamesSize view (Ok (Some size)) → UnitIs old bytes unit n size m → length unit < size → new.head.items ≡ head → new.unit.items ≡ unit →
    IsOpen new × (come_of new ≡ come_of old ++ bytes)
part_taken old new bytes head view unit n m size o h s u lacks same_head same_unit =
    let named : NamesSize (old.head.items ++ take n bytes) (Ok (Some size)) = subst (λ (xs : List ℕ). NamesSize xs (Ok (Some size))) (h.0 ∙ h.1.0) s in
    let few : length (old.unit.items ++ take m (drop n bytes)) < size = subst (λ (xs : List ℕ). length xs < size) u.0 lacks in
    let come : come_of new ≡ (old.head.items ++ take n bytes) ++ (old.unit.items ++ take m (drop n bytes)) =
    ap₂ (λ (xs ys : List ℕ). xs ++ ys) (same_head ∙ h.1.0) (same_unit ∙ u.0) in
    let g = goes_on old.head.items old.unit.items bytes n m size o.part (fills old bytes head view n o h) u.1 named.0 named.1.0 named.1.1 few in
    let size_now = ap length (same_head ∙ h.1.0) in (
      record { part = subst IsPart (sym come) g.0; head_first = λ short. absurd (omega (arith, short, size_now, named.0)) },
      come ∙ g.1,
    )
