-- The table_id_extension of each section that is not ready-made, also in the packet where the section begins; in events it says the program.
use Rattle.std.proofs.Common.{◌≡◌, ◌∙◌, ℕ, zero, suc, ◌+◌, ◌*◌, ◌/◌, ◌%◌, ◌<◌, ◌≤◌, ◌==◌, nat_lt, Bool, true, false, cond, List, [], ◌∷◌, length, map, filter, take}
use Rattle.std.proofs.Common.{slice_get, inl, inr, Option, Some, None, refl, sym, ap, subst, arith, le-ltb, lt-ltb}
use Rattle.std.specs.Prelude.{is_some, slice_index}
use Rattle.std.proofs.lemmas.Bool.{cases_Bool, cases_order}
use Rattle.std.proofs.lemmas.List.Sums.{sum_by-cons}
use Rattle.bit_fields.specs.Fields.{bit}
use Rattle.psi_tables.specs.Encoding.{IsWritable, LongFits, NumbersFit, front_bytes, header_bytes, long_header_bytes, section_bytes, section_length, start_bytes, with_crc}
use Rattle.psi_tables.specs.Views.{SectionView}
use Rattle.psi_tables.specs.declared.section.LongHeader.{LongHeader}
use Rattle.dvb_tables.specs.EventInformation.{eit_section}
use Rattle.description_parts.specs.Described.{Described, DescribedProgram}
use Rattle.description_parts.specs.Ranges.{IsInRange}
use Rattle.description_parts.specs.Tables.{eit_place, is_scheduled, kind_lengths, scheduled_programs, section_count, section_lengths, table_kind}
use Rattle.description_parts.specs.declared.table_kind.TableKind.TheVariants.{Eit}
use Rattle.description.specs.SectionBytes.{eit_bytes, kind_bytes, table_bytes}
use Rattle.description.proofs.PidCounts.{at_most_once, present-map, times, two_times}
use Rattle.laws_run.specs.Sections.{filled_section}
use Rattle.laws_run.proofs.DescribedSections.{IsWritten}
use Rattle.laws_run.proofs.TablesWritten.{eit_there, some_there}
use Rattle.tr101290.specs.Sections.{extension_in}

-- 1. An extension has 16 bits

long_extension : (b : Bool) (n : ℕ) → n < 65536 → cond b 0 (n / 256 * 256 + n % 256) < 65536
long_extension true n lt = omega arith
long_extension false n lt = omega (arith, lt)

short_extension : (n : ℕ) (c : ℕ) (private : Bool) → n ≤ 4093 → cond (nat_lt (bit false * 128 + (bit private * 64 + (0x30 + n / 256))) 128) 0 c < 65536
short_extension n c private le = let low : nat_lt (bit false * 128 + (bit private * 64 + (0x30 + n / 256))) 128 ≡ true = by private in rw low (omega arith)
  where
    by : (p : Bool) → nat_lt (bit false * 128 + (bit p * 64 + (0x30 + n / 256))) 128 ≡ true
    by true = lt-ltb (0 * 128 + (1 * 64 + (0x30 + n / 256))) 128 (omega (arith, le))
    by false = lt-ltb (0 * 128 + (0 * 64 + (0x30 + n / 256))) 128 (omega (arith, le))

written_extension : (view : SectionView) (long : Option LongHeader) → view.header.long ≡ long → IsWritable view → extension_in (section_bytes view) < 65536
unfolding section_bytes with_crc header_bytes front_bytes start_bytes long_header_bytes
written_extension view None is w =
    let room : length view.body ≤ 4093 = subst (λ (o : Option LongHeader). section_length o (length view.body) ≤ 4093) is w.room in
    rw is (short_extension (length view.body) _ view.header.private_indicator room)
written_extension view (Some h) is w =
    let fits : LongFits h = subst NumbersFit is w.numbers in
    rw is (long_extension _ h.table_id_extension (omega (arith, fits.table_id_extension)))

pub small_extension : (text : List ℕ) → IsWritten text → extension_in text < 65536
small_extension text w = subst (λ (bytes : List ℕ). extension_in bytes < 65536) (sym w.is) (written_extension w.view w.view.header.long refl w.writable)

-- 2. The extension of events is the number of the program, also in the first packet

-- the extension in the payload in which a section begins, after pointer_field 0
abbrev pub first_extension : List ℕ → ℕ
first_extension payload = slice_index payload 4 * 256 + slice_index payload 5

pub record HasExtension (number : ℕ) (text : List ℕ) : Type 0 where
  pub whole : extension_in text ≡ number
  pub first : first_extension (take 184 (filled_section text)) ≡ number

joined : (n : ℕ) → n / 256 * 256 + n % 256 ≡ n
joined n = omega arith

eit_extension : (d : Described) (o : Option DescribedProgram) (p : DescribedProgram) (number moment : ℕ) → o ≡ Some p →
    HasExtension p.number (elim o as (λ _. List ℕ) [ None ↦ [] | Some program ↦ eit_bytes d moment program number ])
unfolding section_bytes with_crc header_bytes front_bytes start_bytes long_header_bytes eit_section filled_section
eit_extension d None p number moment e = absurd (cc)
eit_extension d (Some q) p number moment e =
    let same : q ≡ p = cc in
    subst (λ (x : DescribedProgram). HasExtension x.number (eit_bytes d moment q number)) same (record {
      whole = high _ ∙ joined q.number;
      first = joined q.number;
    })
  where
    high : (n : ℕ) → cond (nat_lt (1 * 128 + (1 * 64 + (0x30 + n / 256))) 128) 0 (q.number / 256 * 256 + q.number % 256) ≡ q.number / 256 * 256 + q.number % 256
    high n = let e : nat_lt (1 * 128 + (1 * 64 + (0x30 + n / 256))) 128 ≡ false = le-ltb (1 * 128 + (1 * 64 + (0x30 + n / 256))) 128 (omega arith) in rw e refl

pub record OfProgram (d : Described) (section : ℕ) (text : List ℕ) : Type 0 where
  pub program : DescribedProgram
  pub is : slice_get (scheduled_programs d) (eit_place d section).0 ≡ Some program
  pub extension : HasExtension program.number text

there : (o : Option DescribedProgram) → is_some o ≡ true → (p : DescribedProgram) × (o ≡ Some p)
there None e = absurd (cc)
there (Some p) e = (p, refl)

pub of_program : (d : Described) (t section moment : ℕ) → table_kind d t ≡ Some Eit → section < section_count d t → OfProgram d section (table_bytes d t section moment)
of_program d t section moment is within =
    let lengths : section_lengths d t ≡ kind_lengths d Eit = rw is refl in
    let text : table_bytes d t section moment ≡ kind_bytes d Eit section moment = rw is refl in
    let inside : section < length (kind_lengths d Eit) = subst (λ (ls : List ℕ). section < length ls) lengths within in
    let place : ℕ = (eit_place d section).0 in
    let p = there (slice_get (scheduled_programs d) place) (some_there (scheduled_programs d) place (eit_there d section inside).0) in
    record {
      program = p.0;
      is = p.1;
      extension = subst (HasExtension p.0.number) (sym text)
          (eit_extension d (slice_get (scheduled_programs d) place) p.0 (eit_place d section).1 moment p.1);
    }

-- 3. No two programs of the EIT have one number

fewer : (x : ℕ) (f : DescribedProgram → Bool) (ps : List DescribedProgram) → times x (map (λ p. p.number) (filter f ps)) ≤ times x (map (λ p. p.number) ps)
unfolding times
fewer x f [] = omega arith
fewer x f (p ∷ ps) =
    let rest = fewer x f ps in
    let all : times x (p.number ∷ map (λ q. q.number) ps) ≡ cond (x == p.number) 1 0 + times x (map (λ q. q.number) ps) =
    sum_by-cons (λ y. cond (x == y) 1 0) p.number (map (λ q. q.number) ps) in
    let kept : times x (p.number ∷ map (λ q. q.number) (filter f ps)) ≡ cond (x == p.number) 1 0 + times x (map (λ q. q.number) (filter f ps)) =
    sum_by-cons (λ y. cond (x == y) 1 0) p.number (map (λ q. q.number) (filter f ps)) in
    elim (cases_Bool (f p)) [ inl y ↦ rw y (omega (arith, rest, all, kept)) | inr n ↦ rw n (omega (arith, rest, all)) ]

abbrev numbers : List DescribedProgram → List (Option ℕ)
numbers ps = map (λ p. Some p.number) ps

number_at : (ps : List DescribedProgram) (i : ℕ) (p : DescribedProgram) → slice_get ps i ≡ Some p → slice_get (numbers ps) i ≡ Some (Some p.number)
number_at [] i p e = absurd (cc)
number_at (q ∷ ps) zero p e = let same : q ≡ p = cc in ap (λ (x : DescribedProgram). Some (Some x.number)) same
number_at (q ∷ ps) (suc i) p e = number_at ps i p e

pub same_place : (d : Described) (i j : ℕ) (p q : DescribedProgram) → IsInRange d → slice_get (scheduled_programs d) i ≡ Some p →
    slice_get (scheduled_programs d) j ≡ Some q → p.number ≡ q.number → i ≡ j
same_place d i j p q r e f same = elim (cases_order i j) [
  | inl k ↦ k
  | inr k ↦ elim k [
    | inl lt ↦ absurd (twice i j lt p.number (number_at ps i p e) (number_at ps j q f ∙ ap (λ (n : ℕ). Some (Some n)) (sym same)))
    | inr lt ↦ absurd (twice j i lt p.number (number_at ps j q f ∙ ap (λ (n : ℕ). Some (Some n)) (sym same)) (number_at ps i p e))
  ]
]
  where
    ps : List DescribedProgram
    ps = scheduled_programs d

    twice : (a b : ℕ) → a < b → (x : ℕ) → slice_get (numbers ps) a ≡ Some (Some x) → slice_get (numbers ps) b ≡ Some (Some x) → ⊥
    twice a b lt x one two =
        let most : times x (map (λ y. y.number) d.programs) ≤ 1 = at_most_once x (map (λ y. y.number) d.programs) r.distinct_numbers in
        let listed = ap (times x) (present-map (λ y. y.number) ps) in
        omega (arith, two_times x (numbers ps) a b lt one two, listed, fewer x (is_scheduled d.has_eit) d.programs, most)
