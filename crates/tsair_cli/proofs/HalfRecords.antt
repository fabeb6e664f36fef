-- The beginning of a record is no record. Its bytes, read one after another, give the record at the last byte.
use Rattle.std.proofs.Common.{◌≡◌, ℕ, ◌+◌, ◌<◌, ◌≤◌, List, [], ◌∷◌, ◌++◌, length, take, drop, Option, Some, None, Result, Ok, Err, refl, sym, ap, ◌∙◌, arith}
use Rattle.std.proofs.Common.{append_assoc, inl, inr}
use Rattle.std.proofs.lemmas.Bool.{cases_lt}
use Rattle.std.proofs.lemmas.List.{append-nil, length-append, length-drop, drop-append-le, take-append-le}
use Rattle.byteorder.specs.Endian.{big_from, big_number, big_bytes}
use Rattle.byteorder.specs.Numbers.{big_from-take, length-bytes_high_first}
use Rattle.pes_packet.specs.AccessUnits.{AccessUnit}
use Rattle.unit_records.specs.Laws.{FitsRecord}
use Rattle.unit_records.specs.Records.{after_record, max_unit_size, private_bytes, private_size, record_at, record_bytes, record_head, size_at, size_in}
use Rattle.unit_records.specs.Records.{word_of}
use Rattle.std.specs.Prelude.{if◌then◌else◌, is_some}
use Rattle.pes_packet.proofs.Sixteen.{sixteen_size}
use Rattle.unit_records.specs.declared.reading.UnitFileError.{UnitFileError}
use Rattle.unit_records.specs.declared.reading.UnitFileError.TheVariants.{Cut}
use Rattle.unit_records.proofs.RecordBytes.{records_are_read}
use Rattle.unit_records.proofs.RecordReading.{record_cut, record_long, record_short}
use Rattle.tsair_cli.specs.Frames.{Outside, Within, by_record, with_bytes}

-- 1. The size that a beginning names

number_front : (n : ℕ) (xs more : List ℕ) → n ≤ length xs → big_number n (xs ++ more) ≡ big_number n xs
number_front n xs more h =
    sym (big_from-take 0 n n (xs ++ more) (omega arith)) ∙ ap (λ (ys : List ℕ). big_from 0 n ys) (take-append-le n xs more h)
    ∙ big_from-take 0 n n xs (omega arith)

size_front : (head more : List ℕ) → 5 ≤ length head → size_at (head ++ more) ≡ size_at head
size_front head more h =
    let left = length-drop 1 head in
    ap (λ (ys : List ℕ). size_in (big_number 4 ys)) (drop-append-le 1 head more (omega (arith, h)))
    ∙ ap (λ (n : ℕ). size_in n) (number_front 4 (drop 1 head) more (omega (arith, h, left)))

-- 2. A whole record

-- A whole record is read as its entry and ends with its last byte.
pub whole_is : (entry : ℕ × AccessUnit) → FitsRecord entry.1 → record_at (record_bytes entry.0 entry.1) ≡ Ok (Some entry)
whole_is entry fits =
    ap record_at (sym (append-nil (record_bytes entry.0 entry.1))) ∙ (records_are_read entry.0 entry.1 [] fits).record_is

nothing_after : (entry : ℕ × AccessUnit) → FitsRecord entry.1 → after_record (record_bytes entry.0 entry.1) ≡ []
nothing_after entry fits =
    ap (λ (xs : List ℕ). after_record xs) (sym (append-nil (record_bytes entry.0 entry.1))) ∙ (records_are_read entry.0 entry.1 [] fits).rest_is

private_length : (o : Option (List ℕ)) → length (private_bytes o) ≡ (if is_some o then 16 else 0)
private_length None = refl
private_length (Some p) = sixteen_size p

record_size : (entry : ℕ × AccessUnit) → length (record_bytes entry.0 entry.1) ≡ 21 + (private_size entry.1.marks + length entry.1.bytes)
unfolding record_head
record_size entry = omega (
  arith,
  length-append (record_head entry.0 entry.1.marks (length entry.1.bytes) entry.1.dts entry.1.pts) entry.1.bytes,
  length-append (big_bytes 4 (word_of entry.1.marks (private_size entry.1.marks + length entry.1.bytes)))
      (big_bytes 8 entry.1.dts ++ (big_bytes 8 entry.1.pts ++ private_bytes entry.1.marks.private_data)),
  length-append (big_bytes 8 entry.1.dts) (big_bytes 8 entry.1.pts ++ private_bytes entry.1.marks.private_data),
  length-append (big_bytes 8 entry.1.pts) (private_bytes entry.1.marks.private_data),
  private_length entry.1.marks.private_data,
  length-bytes_high_first 4 (word_of entry.1.marks (private_size entry.1.marks + length entry.1.bytes)),
  length-bytes_high_first 8 entry.1.dts,
  length-bytes_high_first 8 entry.1.pts,
)

-- 3. The beginning of a record

cut_of : (all xs : List ℕ) (size : ℕ) → 0 < length xs → length xs < length all → length all ≡ 21 + size → size ≤ max_unit_size →
    21 + size_at all ≤ length all → drop (21 + size_at all) all ≡ [] → (5 ≤ length xs → size_at all ≡ size_at xs) → record_at xs ≡ Err Cut
cut_of all xs size some short long most head none front = elim (cases_lt (length xs) 5) [
  | inl few ↦ record_short xs some few
  | inr many ↦
      let same = front many in
      let left = length-drop (21 + size_at all) all in
      let no_more : length (drop (21 + size_at all) all) ≡ 0 = ap length none in
      record_cut xs many (omega (arith, same, left, no_more, head, long, most)) (omega (arith, same, left, no_more, head, short))
]

pub beginning_is_cut : (entry : ℕ × AccessUnit) → FitsRecord entry.1 → (xs : List ℕ) (y : ℕ) (ys : List ℕ) → xs ++ (y ∷ ys) ≡ record_bytes entry.0 entry.1 →
    0 < length xs → record_at xs ≡ Err Cut
beginning_is_cut entry fits xs y ys is some =
    let all = record_bytes entry.0 entry.1 in
    let count : length xs + (length ys + 1) ≡ length all = omega (arith, length-append xs (y ∷ ys), ap (length {A = ℕ}) is) in
    cut_of all xs (private_size entry.1.marks + length entry.1.bytes) some (omega (arith, count)) (record_size entry) fits.size
    (record_long all entry (whole_is entry fits)) (nothing_after entry fits)
    (λ many. ap (λ (zs : List ℕ). size_at zs) (sym is) ∙ size_front xs (y ∷ ys) many)

-- 4. The state after these bytes

pub part_stays : (xs : List ℕ) → record_at xs ≡ Err Cut → with_bytes xs ≡ (Within xs, Ok None)
unfolding by_record
part_stays xs cut = ap (by_record xs) cut

pub whole_ends : (entry : ℕ × AccessUnit) → FitsRecord entry.1 → (xs : List ℕ) → xs ≡ record_bytes entry.0 entry.1 → with_bytes xs ≡ (Outside, Ok (Some entry))
unfolding by_record
whole_ends entry fits xs is = ap (by_record xs) (ap record_at is ∙ whole_is entry fits)
