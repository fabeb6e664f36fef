-- A written record is read back.
use Rattle.std.proofs.Common.{◌≡◌, ℕ, zero, suc, ◌+◌, ◌/◌, ◌^◌, ◌≤◌, Bool, true, false, cond, Option, None, is_some, List, ◌∷◌, ◌++◌, length, take, drop}
use Rattle.std.proofs.Common.{slice_index, Some, Ok, refl, sym, ap, ap₂, ◌∙◌, arith, append_assoc, take_at, drop_at}
use Rattle.std.proofs.lemmas.List.{length-append, length-drop, drop-drop}
use Rattle.byteorder.specs.Endian.{big_number, big_bytes}
use Rattle.byteorder.specs.Numbers.{length-bytes_high_first, big_number-reads_back}
use Rattle.pes_packet.specs.AccessUnits.{AccessUnit}
use Rattle.pes_packet.specs.Marks.{sixteen}
use Rattle.pes_packet.specs.declared.marks.Marks.{Marks}
use Rattle.pes_packet.proofs.Sixteen.{sixteen_size}
use Rattle.unit_records.specs.Records.{record_at, after_record, record_head, record_bytes, marks_byte, marks_in, bytes_in, byte_at, body_at, private_bytes}
use Rattle.unit_records.specs.Records.{private_size, word_of, size_in, size_at, unit_at, max_unit_size}
use Rattle.unit_records.specs.Laws.{RecordsAreRead, FitsRecord}
use Rattle.unit_records.proofs.RecordReading.{record_whole}
use Rattle.unit_records.proofs.RecordWords.{word_below, size_again, byte_again, marks_again, bytes_again}

-- The bytes of a record after its head
abbrev pub body_of : AccessUnit → List ℕ
body_of unit = private_bytes unit.marks.private_data ++ unit.bytes

-- The size that a record names
abbrev pub size_of : AccessUnit → ℕ
size_of unit = private_size unit.marks + length unit.bytes

spread_by : (w d p q b r : List ℕ) → ((w ++ (d ++ (p ++ q))) ++ b) ++ r ≡ w ++ (d ++ (p ++ ((q ++ b) ++ r)))
spread_by w d p q b r =
    append_assoc (w ++ (d ++ (p ++ q))) b r
    ∙ append_assoc w (d ++ (p ++ q)) (b ++ r)
    ∙ ap (λ (t : List ℕ). w ++ t)
    (append_assoc d (p ++ q) (b ++ r)
    ∙ ap (λ (t : List ℕ). d ++ t) (append_assoc p q (b ++ r) ∙ ap (λ (t : List ℕ). p ++ t) (sym (append_assoc q b r))))

-- A record and the rest of the input are the parts of the record in order, then the rest.
spread : (stream : ℕ) (unit : AccessUnit) (rest : List ℕ)
    → record_bytes stream unit ++ rest
    ≡ stream ∷ (big_bytes 4 (word_of unit.marks (size_of unit)) ++ (big_bytes 8 unit.dts ++ (big_bytes 8 unit.pts ++ (body_of unit ++ rest))))
unfolding record_head
spread stream unit rest =
    ap (λ (t : List ℕ). stream ∷ t)
    (spread_by (big_bytes 4 (word_of unit.marks (size_of unit))) (big_bytes 8 unit.dts) (big_bytes 8 unit.pts) (private_bytes unit.marks.private_data)
    unit.bytes rest)

-- The DTS, the PTS and the rest of a record begin at bytes 5, 13 and 21.
parts : (stream : ℕ) (size dts pts last : List ℕ) → length size ≡ 4 → length dts ≡ 8 → length pts ≡ 8
    → (drop 5 (stream ∷ (size ++ (dts ++ (pts ++ last)))) ≡ dts ++ (pts ++ last))
    × (drop 13 (stream ∷ (size ++ (dts ++ (pts ++ last)))) ≡ pts ++ last)
    × (drop 21 (stream ∷ (size ++ (dts ++ (pts ++ last)))) ≡ last)
parts stream size dts pts last four eight too =
    let first : drop 5 (stream ∷ (size ++ (dts ++ (pts ++ last)))) ≡ dts ++ (pts ++ last) = drop_at size (dts ++ (pts ++ last)) 4 four in
    let second : drop 13 (stream ∷ (size ++ (dts ++ (pts ++ last)))) ≡ pts ++ last =
    sym (drop-drop 8 5 (stream ∷ (size ++ (dts ++ (pts ++ last))))) ∙ ap (drop {A = ℕ} 8) first ∙ drop_at dts (pts ++ last) 8 eight in
    let third : drop 21 (stream ∷ (size ++ (dts ++ (pts ++ last)))) ≡ last =
    sym (drop-drop 8 13 (stream ∷ (size ++ (dts ++ (pts ++ last))))) ∙ ap (drop {A = ℕ} 8) second ∙ drop_at pts last 8 too in
    (first, second, third)

same_unit : (dts pts : ℕ) (marks : Marks) (bytes : List ℕ) (unit : AccessUnit) → dts ≡ unit.dts → pts ≡ unit.pts → marks ≡ unit.marks → bytes ≡ unit.bytes
    → ◌≡◌ {A = AccessUnit} (record { dts = dts; pts = pts; marks = marks; bytes = bytes }) unit
same_unit dts pts marks bytes unit d p m b = rw (d, p, m, b) refl

body_by : (o : Option (List ℕ)) (bytes : List ℕ) → length (private_bytes o ++ bytes) ≡ cond (is_some o) 16 0 + length bytes
body_by None bytes = omega arith
body_by (Some p) bytes = omega (arith, length-append (sixteen p) bytes, sixteen_size p)

body_size : (unit : AccessUnit) → length (body_of unit) ≡ size_of unit
body_size unit = body_by unit.marks.private_data unit.bytes

-- A record without bytes has no marks.
no_more : (b : Bool) (n : ℕ) → cond b 16 0 + n ≡ 0 → n ≡ 0
no_more true n e = omega (arith, e)
no_more false n e = omega (arith, e)

unmarked : (unit : AccessUnit) → FitsRecord unit → size_of unit ≡ 0 → marks_byte unit.marks ≡ 0
unmarked unit fits none = ap (λ (m : Marks). marks_byte m) (fits.marked (no_more (is_some unit.marks.private_data) (length unit.bytes) none))

-- A record with PES_private_data has 16 bytes of PES_private_data and at least one byte of the unit.
with_private : (o : Option (List ℕ)) (n : ℕ) → (n ≡ 0 → o ≡ None) → is_some o ≡ true → 17 ≤ cond (is_some o) 16 0 + n
with_private None n none is = absurd cc
with_private (Some p) zero none is = absurd (let no : Some p ≡ None = none refl in cc (no))
with_private (Some p) (suc n) none is = omega arith

some_private : (unit : AccessUnit) → FitsRecord unit → is_some unit.marks.private_data ≡ true → 17 ≤ size_of unit
some_private unit fits is =
    with_private unit.marks.private_data (length unit.bytes) (λ none. ap (λ (m : Marks). m.private_data) (fits.marked none)) is

read_back : (stream : ℕ) (unit : AccessUnit) (rest : List ℕ) → FitsRecord unit
    → (size_at (stream ∷ (big_bytes 4 (word_of unit.marks (size_of unit)) ++ (big_bytes 8 unit.dts ++ (big_bytes 8 unit.pts ++ (body_of unit ++ rest))))) ≡
    length (body_of unit))
    × (unit_at (stream ∷ (big_bytes 4 (word_of unit.marks (size_of unit)) ++ (big_bytes 8 unit.dts ++ (big_bytes 8 unit.pts ++ (body_of unit ++ rest))))) ≡
    unit)
    × (drop 21 (stream ∷ (big_bytes 4 (word_of unit.marks (size_of unit)) ++ (big_bytes 8 unit.dts ++ (big_bytes 8 unit.pts ++ (body_of unit ++ rest))))) ≡
    body_of unit ++ rest)
read_back stream unit rest fits =
    let p = parts stream (big_bytes 4 (word_of unit.marks (size_of unit))) (big_bytes 8 unit.dts) (big_bytes 8 unit.pts) (body_of unit ++ rest)
    (length-bytes_high_first 4 (word_of unit.marks (size_of unit))) (length-bytes_high_first 8 unit.dts) (length-bytes_high_first 8 unit.pts) in
    let later : List ℕ = big_bytes 8 unit.dts ++ (big_bytes 8 unit.pts ++ (body_of unit ++ rest)) in
    let all : List ℕ = stream ∷ (big_bytes 4 (word_of unit.marks (size_of unit)) ++ later) in
    let word : big_number 4 (big_bytes 4 (word_of unit.marks (size_of unit)) ++ later) ≡ word_of unit.marks (size_of unit) =
    big_number-reads_back 4 (word_of unit.marks (size_of unit)) later (word_below unit.marks (size_of unit)) in
    let long : size_of unit ≡ length (body_of unit) = sym (body_size unit) in
    let size : size_at all ≡ length (body_of unit) =
    ap size_in word ∙ size_again unit.marks (size_of unit) fits.size (unmarked unit fits) (some_private unit fits) ∙ long in
    let byte : byte_at all ≡ marks_byte unit.marks = ap (λ (n : ℕ). n / 2 ^ 24) word ∙ byte_again unit.marks (size_of unit) fits.size in
    let dts : big_number 8 (big_bytes 8 unit.dts ++ (big_bytes 8 unit.pts ++ (body_of unit ++ rest))) ≡ unit.dts =
    big_number-reads_back 8 unit.dts (big_bytes 8 unit.pts ++ (body_of unit ++ rest)) fits.dts in
    let pts : big_number 8 (big_bytes 8 unit.pts ++ (body_of unit ++ rest)) ≡ unit.pts =
    big_number-reads_back 8 unit.pts (body_of unit ++ rest) fits.pts in
    let body : body_at all ≡ body_of unit =
    ap (λ (n : ℕ). take n (drop 21 all)) size ∙ ap (take {A = ℕ} (length (body_of unit))) p.2 ∙ take_at (body_of unit) rest (length (body_of unit)) refl in
    let marks : marks_in (byte_at all) (body_at all) ≡ unit.marks =
    ap₂ (λ (n : ℕ) (xs : List ℕ). marks_in n xs) byte body ∙ marks_again unit.marks unit.bytes fits.sixteen in
    let bytes : bytes_in (byte_at all) (body_at all) ≡ unit.bytes =
    ap₂ (λ (n : ℕ) (xs : List ℕ). bytes_in n xs) byte body ∙ bytes_again unit.marks unit.bytes in
    (size, same_unit _ _ _ _ unit (ap (big_number 8) p.0 ∙ dts) (ap (big_number 8) p.1 ∙ pts) marks bytes, p.2)

pub record_of : (xs : List ℕ) (stream : ℕ) (unit : AccessUnit) (body rest : List ℕ) → slice_index xs 0 ≡ stream → size_at xs ≡ length body → unit_at xs ≡ unit
    → drop 21 xs ≡ body ++ rest → 21 ≤ length xs → length body ≤ max_unit_size
    → (record_at xs ≡ Ok (Some (stream, unit))) × (after_record xs ≡ rest)
record_of xs stream unit body rest first size is after long most =
    let whole : 21 + size_at xs ≤ length xs =
    omega (arith, size, long, ap (length {A = ℕ}) after, length-append body rest, length-drop 21 xs) in
    let left : drop (21 + size_at xs) xs ≡ rest =
    ap (λ (n : ℕ). drop (21 + n) xs) size ∙ sym (drop-drop (length body) 21 xs)
    ∙ ap (drop {A = ℕ} (length body)) after ∙ drop_at body rest (length body) refl in
    (record_whole xs whole (omega (arith, size)) ∙ rw (first, is) refl, left)

pub records_are_read : RecordsAreRead
records_are_read stream unit rest fits =
    let b = read_back stream unit rest fits in
    let long : 21 ≤ length
    (stream ∷ (big_bytes 4 (word_of unit.marks (size_of unit)) ++ (big_bytes 8 unit.dts ++ (big_bytes 8 unit.pts ++ (body_of unit ++ rest))))) =
    omega (
      arith,
      length-append (big_bytes 4 (word_of unit.marks (size_of unit))) (big_bytes 8 unit.dts ++ (big_bytes 8 unit.pts ++ (body_of unit ++ rest))),
      length-append (big_bytes 8 unit.dts) (big_bytes 8 unit.pts ++ (body_of unit ++ rest)),
      length-append (big_bytes 8 unit.pts) (body_of unit ++ rest),
      length-bytes_high_first 4 (word_of unit.marks (size_of unit)),
      length-bytes_high_first 8 unit.dts,
      length-bytes_high_first 8 unit.pts,
    ) in
    let whole = record_of _ stream unit (body_of unit) rest refl b.0 b.1 b.2 long (omega (arith, body_size unit, fits.size)) in
    record {
      record_is = ap record_at (spread stream unit rest) ∙ whole.0;
      rest_is = ap (λ (xs : List ℕ). after_record xs) (spread stream unit rest) ∙ whole.1;
    }
