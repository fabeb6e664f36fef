-- The parts of a record, read one by one, are the record at the front of the input.
use Rattle.std.proofs.Common.{◌≡◌, ℕ, ◌+◌, ◌<◌, ◌≤◌, ◌==◌, Bool, true, false, cond, ltb, List, [], length, take, drop, slice_index, Option, Some, None, Result}
use Rattle.std.proofs.Common.{Ok, Err, refl, sym, ap, ◌∙◌, subst, arith}
use Rattle.std.proofs.lemmas.Bool.{le-ltb, lt-ltb, ne_eqb, ltb-false}
use Rattle.std.proofs.lemmas.List.{length-drop, drop-drop}
use Rattle.byteorder.specs.Endian.{big_number}
use Rattle.bit_fields.proofs.Bind.{ok_is, ok_not_err}
use Rattle.pes_packet.specs.AccessUnits.{AccessUnit}
use Rattle.unit_records.specs.Records.{byte_at, bytes_in, marks_in, size_at, unit_at, record_at, max_unit_size, ReadsRecord, StopsWithin}
use Rattle.unit_records.specs.RecordParts.{ReadsStart, ReadsStamps, ReadsBytes}
use Rattle.unit_records.specs.declared.reading.UnitFileError.{UnitFileError}
use Rattle.unit_records.specs.declared.reading.UnitFileError.TheVariants.{Cut, Size, Device, Memory}

record_none : (xs : List ℕ) → xs ≡ [] → record_at xs ≡ Ok None
unfolding record_at
record_none xs e = rw e refl

pub record_short : (xs : List ℕ) → 0 < length xs → length xs < 5 → record_at xs ≡ Err Cut
unfolding record_at
record_short xs some short = rw (ne_eqb (length xs) 0 (λ e. omega arith), lt-ltb (length xs) 5 short) refl

pub record_size : (xs : List ℕ) → 5 ≤ length xs → max_unit_size < size_at xs → record_at xs ≡ Err Size
unfolding record_at
record_size xs some big =
    rw (ne_eqb (length xs) 0 (λ e. omega arith), le-ltb (length xs) 5 some, lt-ltb max_unit_size (size_at xs) big) refl

pub record_cut : (xs : List ℕ) → 5 ≤ length xs → size_at xs ≤ max_unit_size → length xs < 21 + size_at xs → record_at xs ≡ Err Cut
unfolding record_at
record_cut xs some size cut =
    rw (ne_eqb (length xs) 0 (λ e. omega arith), le-ltb (length xs) 5 some, le-ltb max_unit_size (size_at xs) size, lt-ltb (length xs) (21 + size_at xs) cut)
    refl

pub record_whole : (xs : List ℕ) → 21 + size_at xs ≤ length xs → size_at xs ≤ max_unit_size → record_at xs ≡ Ok (Some (slice_index xs 0, unit_at xs))
unfolding record_at
record_whole xs whole size =
    rw (
      ne_eqb (length xs) 0 (λ e. omega arith),
      le-ltb (length xs) 5 (omega arith),
      le-ltb max_unit_size (size_at xs) size,
      le-ltb (length xs) (21 + size_at xs) whole,
    ) refl

-- If a record is read, the input is not cut within it.
passes : (a b c d : Bool) (found entry : Option (ℕ × AccessUnit)) (whole : ℕ × AccessUnit) → entry ≡ Some whole
    → ◌≡◌ {A = Result (Option (ℕ × AccessUnit)) UnitFileError} (cond a (Ok None) (cond b (Err Cut) (cond c (Err Size) (cond d (Err Cut) (Ok found)))))
    (Ok entry) → d ≡ false
passes true b c d found entry whole is e = absurd (let no : None ≡ Some whole = ok_is None entry e ∙ is in cc (no))
passes false true c d found entry whole is e = ok_not_err entry Cut (sym e)
passes false false true d found entry whole is e = ok_not_err entry Size (sym e)
passes false false false true found entry whole is e = ok_not_err entry Cut (sym e)
passes false false false false found entry whole is e = refl

-- A record is at least as long as its head.
pub record_long : (xs : List ℕ) (entry : ℕ × AccessUnit) → record_at xs ≡ Ok (Some entry) → 21 + size_at xs ≤ length xs
unfolding record_at
record_long xs entry e =
    ltb-false (length xs) (21 + size_at xs)
    (passes (length xs == 0) (ltb (length xs) 5) (ltb max_unit_size (size_at xs)) (ltb (length xs) (21 + size_at xs))
    (Some (slice_index xs 0, unit_at xs)) (Some entry) entry refl e)

-- If a call fails some bytes further on, the read of the record stops within the record.
later : (from size : ℕ) (xs : List ℕ) (left : Option (List ℕ)) → from ≤ length xs → from + size ≤ 21 + size_at xs → StopsWithin size (drop from xs) left →
    StopsWithin (21 + size_at xs) xs left
later from size xs left long fits s = record {
  read = from + s.read;
  within = omega (arith, s.within, fits);
  some = omega (arith, s.some, long, length-drop from xs);
  rest = s.rest ∙ ap Some (drop-drop s.read from xs);
}

-- No byte was left.
pub at_end : (xs : List ℕ) (left : Option (List ℕ)) → ReadsStart xs left (Ok None) → ReadsRecord xs left (Ok None)
at_end xs left s = (record_none xs s.0, s.1)

-- The read refused the start of the record.
pub start_refused : (xs : List ℕ) (left : Option (List ℕ)) (e : UnitFileError) → ReadsStart xs left (Err e) → ReadsRecord xs left (Err e)
start_refused xs left Cut s = (record_short xs s.0 s.1, s.2)
start_refused xs left Size s = (record_size xs s.0 s.1, s.2)
start_refused xs left Device s = record { read = s.read; within = omega (arith, s.within); some = s.some; rest = s.rest }
start_refused xs left Memory s = absurd s

-- The size that was read is the size of the record.
size_read : (xs : List ℕ) (start : ℕ × ℕ × ℕ) → start ≡ (slice_index xs 0, byte_at xs, size_at xs) → start.2 ≡ size_at xs
size_read xs start e = ap (λ (x : ℕ × ℕ × ℕ). x.2) e

-- The read refused the stamps of the record.
pub stamps_refused : (xs : List ℕ) (first left : Option (List ℕ)) (start : ℕ × ℕ × ℕ) (e : UnitFileError) → ReadsStart xs first (Ok (Some start))
    → ((ys : List ℕ) → first ≡ Some ys → ReadsStamps ys left (Err e)) → ReadsRecord xs left (Err e)
stamps_refused xs first left start e s k = by_cause e (k (drop 5 xs) s.3)
  where
    by_cause : (e : UnitFileError) → ReadsStamps (drop 5 xs) left (Err e) → ReadsRecord xs left (Err e)
    by_cause Cut h = (record_cut xs s.0 s.2 (omega (arith, h.0, length-drop 5 xs)), h.1)
    by_cause Size h = absurd h
    by_cause Device h = later 5 16 xs left s.0 (omega arith) h
    by_cause Memory h = absurd h

-- The read refused the bytes of the record.
pub bytes_refused : (xs : List ℕ) (first second left : Option (List ℕ)) (start : ℕ × ℕ × ℕ) (stamps : ℕ × ℕ) (e : UnitFileError)
    → ReadsStart xs first (Ok (Some start))
    → ((ys : List ℕ) → first ≡ Some ys → ReadsStamps ys second (Ok stamps))
    → ((ys : List ℕ) → second ≡ Some ys → ReadsBytes ys start.2 left (Err e)) → ReadsRecord xs left (Err e)
bytes_refused xs first second left start stamps e s k b =
    let t = k (drop 5 xs) s.3 in
    by_cause e (omega (arith, s.0, t.0, length-drop 5 xs)) (b (drop 16 (drop 5 xs)) t.3)
  where
    by_cause : (e : UnitFileError) → 21 ≤ length xs → ReadsBytes (drop 16 (drop 5 xs)) start.2 left (Err e) → ReadsRecord xs left (Err e)
    by_cause Cut head h = (record_cut xs s.0 s.2 (omega (arith, h.0, size_read xs start s.1, length-drop 5 xs, length-drop 16 (drop 5 xs))), h.1)
    by_cause Size head h = absurd h
    by_cause Device head h =
        later 21 start.2 xs left head (omega (arith, size_read xs start s.1)) (subst (λ ys. StopsWithin start.2 ys left) (drop-drop 16 5 xs) h)
    by_cause Memory head h = (head, s.2, h ∙ ap Some (drop-drop 16 5 xs))

-- The read returned a whole record.
pub whole_record : (xs : List ℕ) (first second left : Option (List ℕ)) (start : ℕ × ℕ × ℕ) (stamps : ℕ × ℕ) (bytes : List ℕ)
    → ReadsStart xs first (Ok (Some start))
    → ((ys : List ℕ) → first ≡ Some ys → ReadsStamps ys second (Ok stamps))
    → ((ys : List ℕ) → second ≡ Some ys → ReadsBytes ys start.2 left (Ok bytes))
    → ReadsRecord xs left (Ok (Some (start.0, record { dts = stamps.0; pts = stamps.1; marks = marks_in start.1 bytes; bytes = bytes_in start.1 bytes })))
whole_record xs first second left start stamps bytes s k b =
    let t = k (drop 5 xs) s.3 in
    let u = b (drop 16 (drop 5 xs)) t.3 in
    let stream : start.0 ≡ slice_index xs 0 = ap (λ (x : ℕ × ℕ × ℕ). x.0) s.1 in
    let byte : start.1 ≡ byte_at xs = ap (λ (x : ℕ × ℕ × ℕ). x.1) s.1 in
    let size : start.2 ≡ size_at xs = size_read xs start s.1 in
    let after : drop 16 (drop 5 xs) ≡ drop 21 xs = drop-drop 16 5 xs in
    let last : drop 8 (drop 5 xs) ≡ drop 13 xs = drop-drop 8 5 xs in
    let all : 21 + size_at xs ≤ length xs = omega (arith, u.0, size, s.0, t.0, length-drop 5 xs, length-drop 16 (drop 5 xs)) in
    let dts : stamps.0 ≡ big_number 8 (drop 5 xs) = t.1 in
    let pts : stamps.1 ≡ big_number 8 (drop 13 xs) = t.2 ∙ ap (big_number 8) last in
    let body : bytes ≡ take (size_at xs) (drop 21 xs) = u.1 ∙ ap (λ (n : ℕ). take n (drop 16 (drop 5 xs))) size ∙ ap (take {A = ℕ} (size_at xs)) after in
    let rest : left ≡ Some (drop (21 + size_at xs) xs) =
    u.2 ∙ ap (λ (n : ℕ). Some (drop n (drop 16 (drop 5 xs)))) size ∙ ap (λ (ys : List ℕ). Some (drop (size_at xs) ys)) after
    ∙ ap Some (drop-drop (size_at xs) 21 xs) in
    (record_whole xs all s.2 ∙ rw (stream, byte, dts, pts, body) refl, rest)
