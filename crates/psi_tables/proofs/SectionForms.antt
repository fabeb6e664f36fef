-- Sections: longer bytes, written bytes, and the two forms of the syntax.
use Rattle.std.proofs.Common.{◌≡◌, ℕ, ◌+◌, ◌-◌, ◌*◌, ◌/◌, ◌%◌, ◌^◌, ◌<◌, ◌≤◌, ◌==◌, nat_lt, Bool, true, false, cond, refl, sym, ap, ◌∙◌, arith, List, [], ◌∷◌}
use Rattle.std.proofs.Common.{◌++◌, length, take, None, Some, Result, Ok, Err, length-append, eq-eqb}
use Rattle.std.proofs.lemmas.Bool.{ltb-false, le-ltb}
use Rattle.std.proofs.lemmas.List.{take-append-le}
use Rattle.std.proofs.Math.Seq.{take-append_seam}
use Rattle.bit_fields.specs.Fields.{number, fields, bit, flag}
use Rattle.bit_fields.specs.Reading.{◌>>=◌}
use Rattle.bit_fields.proofs.Bind.{guarded}
use Rattle.bit_fields.proofs.Fields.{test_bit}
use Rattle.psi_tables.specs.CheckWord.{check_word}
use Rattle.psi_tables.specs.Views.{SectionView}
use Rattle.psi_tables.specs.Reading.{section_start_at, is_bad_length, long_header_of, short_section, long_section, whole_at, sized_at, section_at}
use Rattle.psi_tables.specs.declared.error.SectionError.{SectionError}
use Rattle.psi_tables.specs.declared.error.SectionError.TheVariants.{Short, Length}
use Rattle.psi_tables.specs.declared.section.LongHeader.{LongHeader}
use Rattle.psi_tables.specs.declared.section.SectionStart.{SectionStart}

-- Two tests that may refuse; the second may pass if more bytes are present.
sized_form : {A : Type 0} (bad short short' : Bool) (d e : SectionError) (r r' : Result A SectionError)
    → (cond bad (Err d) (cond short (Err e) r) ≡ Err e → ⊥) → (short ≡ false → (short' ≡ false) × (r' ≡ r))
    → cond bad (Err d) (cond short' (Err e) r') ≡ cond bad (Err d) (cond short (Err e) r)
sized_form true short short' d e r r' h k = refl
sized_form false true short' d e r r' h k = absurd (h refl)
sized_form false false short' d e r r' h k = let q = k refl in guarded short' e r' q.0 ∙ q.1

-- Longer bytes after the first three give the same section, unless they were too short before.
sized_longer : (start : SectionStart) (bytes more : List ℕ) → (sized_at start bytes ≡ Err Short → ⊥) → sized_at start (bytes ++ more) ≡ sized_at start bytes
unfolding sized_at
sized_longer start bytes more h =
    let n : ℕ = 3 + start.section_length in
    sized_form (is_bad_length start.is_long start.section_length) (nat_lt (length bytes) n) (nat_lt (length (bytes ++ more)) n) Length Short _ _ h
    (λ e.
    let fits : n ≤ length bytes = ltb-false (length bytes) n e in (
      le-ltb (length (bytes ++ more)) n (omega (arith, length-append bytes more)),
      ap (λ (t : List ℕ). whole_at start t >>= λ section. Ok (section, n)) (take-append-le n bytes more fits),
    ))

-- Longer bytes give the same section, unless the result was Short.
pub section_longer : (bytes more : List ℕ) → (section_at bytes ≡ Err Short → ⊥) → section_at (bytes ++ more) ≡ section_at bytes
unfolding section_at section_start_at
section_longer [] more h = absurd (h refl)
section_longer (a ∷ []) more h = absurd (h refl)
section_longer (a ∷ b ∷ []) more h = absurd (h refl)
section_longer (a ∷ b ∷ c ∷ bytes) more h = sized_longer _ (a ∷ b ∷ c ∷ bytes) more h

-- A whole section is read from its bytes, whatever bytes follow it.
sized_again : (start : SectionStart) (section rest : List ℕ) (s : SectionView) → is_bad_length start.is_long start.section_length ≡ false →
    length section ≡ 3 + start.section_length
    → whole_at start section ≡ Ok s → sized_at start (section ++ rest) ≡ Ok (s, length section)
unfolding sized_at
sized_again start section rest s good len e =
    let n : ℕ = 3 + start.section_length in
    let fits : nat_lt (length (section ++ rest)) n ≡ false = le-ltb (length (section ++ rest)) n (omega (arith, length-append section rest)) in
    let front : take n (section ++ rest) ≡ section = ap (λ (m : ℕ). take m (section ++ rest)) (sym len) ∙ take-append_seam section rest in
    guarded (is_bad_length start.is_long start.section_length) Length _ good
    ∙ guarded (nat_lt (length (section ++ rest)) n) Short _ fits
    ∙ ap (λ (t : List ℕ). whole_at start t >>= λ section. Ok (section, n)) front
    ∙ ap (λ (r : Result SectionView SectionError). r >>= λ section. Ok (section, n)) e
    ∙ ap (λ (m : ℕ). Ok (s, m)) (sym len)

-- Lists of few bytes
pub five : (xs : List ℕ) → 5 ≤ length xs → (a : ℕ) × (b : ℕ) × (c : ℕ) × (d : ℕ) × (e : ℕ) × (rest : List ℕ) × (xs ≡ a ∷ b ∷ c ∷ d ∷ e ∷ rest)
five [] h = absurd (omega arith)
five (a ∷ []) h = absurd (omega arith)
five (a ∷ b ∷ []) h = absurd (omega arith)
five (a ∷ b ∷ c ∷ []) h = absurd (omega arith)
five (a ∷ b ∷ c ∷ d ∷ []) h = absurd (omega arith)
five (a ∷ b ∷ c ∷ d ∷ e ∷ rest) h = (a, b, c, d, e, rest, refl)

pub bit-bound : (b : Bool) → bit b < 2
bit-bound true = omega arith
bit-bound false = omega arith

-- A length within its bound is not refused.
good_short : (n : ℕ) → n ≤ 4093 → is_bad_length false n ≡ false
unfolding is_bad_length
good_short n h = rw (le-ltb 4093 n h) refl

good_long : (n : ℕ) → 9 ≤ n → n ≤ 4093 → is_bad_length true n ≡ false
unfolding is_bad_length
good_long n k h = rw (le-ltb 4093 n h) (le-ltb n 9 k)

-- A whole section of the short form is read.
pub whole_short : (start : SectionStart) (a b c : ℕ) (body : List ℕ) → start.is_long ≡ false
    → whole_at start (a ∷ b ∷ c ∷ body) ≡ Ok
    (record { header = record { table_id = start.table_id; private_indicator = start.private_indicator; long = None }; body = body })
unfolding whole_at short_section
whole_short start a b c body e = rw e refl

-- Bytes of the short form are read as this section.
pub short_again : (a b c : ℕ) (s : SectionView) (reserved : ℕ) (rest : List ℕ) → a < 256 → b < 256 → c < 256 → s.header.long ≡ None
    → number (a ∷ b ∷ c ∷ []) ≡ fields ((8, s.header.table_id) ∷ (1, 0) ∷ (1, bit s.header.private_indicator) ∷ (2, reserved) ∷ (12, length s.body) ∷ [])
    → s.header.table_id < 2 ^ 8 → reserved < 2 ^ 2 → length s.body ≤ 4093
    → section_at ((a ∷ b ∷ c ∷ s.body) ++ rest) ≡ Ok (s, length (a ∷ b ∷ c ∷ s.body))
unfolding section_at section_start_at
short_again a b c s reserved rest ha hb hc none spelled htid hres hlen =
    let one : bit s.header.private_indicator < 2 = bit-bound s.header.private_indicator in
    let tid : a ≡ s.header.table_id = omega arith in
    let form : flag b 128 ≡ false = test_bit false (b / 128 % 2) (omega arith) in
    let private_is : flag b 64 ≡ s.header.private_indicator = test_bit s.header.private_indicator (b / 64 % 2) (omega arith) in
    let len : b % 16 * 256 + c ≡ length s.body = omega arith in
    let start : SectionStart = record { table_id = a; is_long = flag b 128; private_indicator = flag b 64; section_length = b % 16 * 256 + c } in
    let good : is_bad_length (flag b 128) (b % 16 * 256 + c) ≡ false = rw (form, len) (good_short (length s.body) hlen) in
    let whole : ◌≡◌ {A = SectionView} (record { header = record { table_id = a; private_indicator = flag b 64; long = None }; body = s.body })
    (record { header = record { table_id = s.header.table_id; private_indicator = s.header.private_indicator; long = s.header.long }; body = s.body }) = cc in
    sized_again start (a ∷ b ∷ c ∷ s.body) rest s good (omega arith) (whole_short start a b c s.body form ∙ ap (λ (v : SectionView). Ok v) whole)

-- Two numbers that are joined with 40 bits after each are equal part by part.
parts_40 : (x y u v : ℕ) → y < 2 ^ 40 → v < 2 ^ 40 → x * 2 ^ 40 + y ≡ u * 2 ^ 40 + v → (x ≡ u) × (y ≡ v)
parts_40 x y u v hy hv e = (omega arith, omega arith)

-- The five bytes after the length, by their fields
header_again : (d e f g h : ℕ) (l : LongHeader) (reserved : ℕ) → d < 256 → e < 256 → f < 256 → g < 256 → h < 256
    → number (d ∷ e ∷ f ∷ g ∷ h ∷ []) ≡ fields
    ((16, l.table_id_extension) ∷ (2, reserved) ∷ (5, l.version_number) ∷ (1, bit l.current_next) ∷ (8, l.section_number) ∷ (8, l.last_section_number) ∷ [])
    → l.table_id_extension < 2 ^ 16 → reserved < 2 ^ 2 → l.version_number < 2 ^ 5 → l.section_number < 2 ^ 8 → l.last_section_number < 2 ^ 8
    → long_header_of (d ∷ e ∷ f ∷ g ∷ h ∷ []) ≡ l
unfolding long_header_of
header_again d e f g h l reserved hd he hf hg hh spelled hx hr hv hs hl =
    let one : bit l.current_next < 2 = bit-bound l.current_next in
    let extension : d * 256 + e ≡ l.table_id_extension = omega arith in
    let version : f / 2 % 32 ≡ l.version_number = omega arith in
    let next : (f % 2 == 1) ≡ l.current_next = test_bit l.current_next (f % 2) (omega arith) in
    let number_is : g ≡ l.section_number = omega arith in
    let last : h ≡ l.last_section_number = omega arith in
    let whole : long_header_of (d ∷ e ∷ f ∷ g ∷ h ∷ []) ≡ record {
      table_id_extension = l.table_id_extension;
      version_number = l.version_number;
      current_next = l.current_next;
      section_number = l.section_number;
      last_section_number = l.last_section_number;
    } = cc in
    whole

-- A whole section of the long form with a right check word is read.
pub whole_long : (start : SectionStart) (a b c d e f g h : ℕ) (body crc : List ℕ) → start.is_long ≡ true → length crc ≡ 4
    → check_word (a ∷ b ∷ c ∷ d ∷ e ∷ f ∷ g ∷ h ∷ (body ++ crc)) ≡ 0
    → whole_at start (a ∷ b ∷ c ∷ d ∷ e ∷ f ∷ g ∷ h ∷ (body ++ crc))
    ≡ Ok (record {
      header =
          record { table_id = start.table_id; private_indicator = start.private_indicator; long = Some (long_header_of (d ∷ e ∷ f ∷ g ∷ h ∷ [])) };
      body = body;
    })
unfolding whole_at long_section
whole_long start a b c d e f g h body crc form len checked =
    let test : (check_word (a ∷ b ∷ c ∷ d ∷ e ∷ f ∷ g ∷ h ∷ (body ++ crc)) == 0) ≡ true = eq-eqb _ 0 checked in
    let size : length (d ∷ e ∷ f ∷ g ∷ h ∷ (body ++ crc)) - 9 ≡ length body = omega (arith, length-append body crc) in
    let cut : take (length (d ∷ e ∷ f ∷ g ∷ h ∷ (body ++ crc)) - 9) (body ++ crc) ≡ body = ap (λ (m : ℕ). take m (body ++ crc)) size
    ∙ take-append_seam body crc in
    rw (form, test, cut) refl

-- Bytes of the long form are read as this section.
pub long_again : (a b c d e f g h : ℕ) (s : SectionView) (l : LongHeader) (crc : List ℕ) (reserved reserved' : ℕ) (rest : List ℕ)
    → a < 256 → b < 256 → c < 256 → d < 256 → e < 256 → f < 256 → g < 256 → h < 256 → s.header.long ≡ Some l → length crc ≡ 4
    → number (a ∷ b ∷ c ∷ d ∷ e ∷ f ∷ g ∷ h ∷ []) ≡ fields
    ((8, s.header.table_id) ∷ (1, 1) ∷ (1, bit s.header.private_indicator) ∷ (2, reserved) ∷ (12, 9 + length s.body)
    ∷ (16, l.table_id_extension) ∷ (2, reserved') ∷ (5, l.version_number) ∷ (1, bit l.current_next) ∷ (8, l.section_number) ∷ (8, l.last_section_number) ∷ [])
    → check_word (a ∷ b ∷ c ∷ d ∷ e ∷ f ∷ g ∷ h ∷ (s.body ++ crc)) ≡ 0
    → s.header.table_id < 2 ^ 8 → reserved < 2 ^ 2 → 9 + length s.body ≤ 4093
    → l.table_id_extension < 2 ^ 16 → reserved' < 2 ^ 2 → l.version_number < 2 ^ 5 → l.section_number < 2 ^ 8 → l.last_section_number < 2 ^ 8
    → section_at ((a ∷ b ∷ c ∷ d ∷ e ∷ f ∷ g ∷ h ∷ (s.body ++ crc)) ++ rest) ≡ Ok (s, length (a ∷ b ∷ c ∷ d ∷ e ∷ f ∷ g ∷ h ∷ (s.body ++ crc)))
unfolding section_at section_start_at
long_again a b c d e f g h s l crc reserved reserved' rest ha hb hc hd he hf hg hh some hcrc spelled checked htid hres hlen hx hres' hv hs hl =
    let one : bit s.header.private_indicator < 2 = bit-bound s.header.private_indicator in
    let one' : bit l.current_next < 2 = bit-bound l.current_next in
    let back : ℕ =
    fields ((16, l.table_id_extension) ∷ (2, reserved') ∷ (5, l.version_number) ∷ (1, bit l.current_next) ∷ (8, l.section_number) ∷
    (8, l.last_section_number) ∷ []) in
    let front : ℕ = fields ((8, s.header.table_id) ∷ (1, 1) ∷ (1, bit s.header.private_indicator) ∷ (2, reserved) ∷ (12, 9 + length s.body) ∷ []) in
    let parts = parts_40 (number (a ∷ b ∷ c ∷ [])) (number (d ∷ e ∷ f ∷ g ∷ h ∷ [])) front back (omega arith) (omega arith) (omega arith) in
    let spelled_front : number (a ∷ b ∷ c ∷ []) ≡ front = parts.0 in
    let tid : a ≡ s.header.table_id = omega arith in
    let form : flag b 128 ≡ true = test_bit true (b / 128 % 2) (omega arith) in
    let private_is : flag b 64 ≡ s.header.private_indicator = test_bit s.header.private_indicator (b / 64 % 2) (omega arith) in
    let len : b % 16 * 256 + c ≡ 9 + length s.body = omega arith in
    let header_is : long_header_of (d ∷ e ∷ f ∷ g ∷ h ∷ []) ≡ l = header_again d e f g h l reserved' hd he hf hg hh parts.1 hx hres' hv hs hl in
    let start : SectionStart = record { table_id = a; is_long = flag b 128; private_indicator = flag b 64; section_length = b % 16 * 256 + c } in
    let good : is_bad_length (flag b 128) (b % 16 * 256 + c) ≡ false = rw (form, len) (good_long (9 + length s.body) (omega arith) hlen) in
    let whole : ◌≡◌ {A = SectionView}
    (record { header = record { table_id = a; private_indicator = flag b 64; long = Some (long_header_of (d ∷ e ∷ f ∷ g ∷ h ∷ [])) }; body = s.body })
    (record { header = record { table_id = s.header.table_id; private_indicator = s.header.private_indicator; long = s.header.long }; body = s.body }) = cc in
    let size : length (a ∷ b ∷ c ∷ d ∷ e ∷ f ∷ g ∷ h ∷ (s.body ++ crc)) ≡ 3 + (b % 16 * 256 + c) = omega (arith, length-append s.body crc) in
    sized_again start (a ∷ b ∷ c ∷ d ∷ e ∷ f ∷ g ∷ h ∷ (s.body ++ crc)) rest s good size
    (whole_long start a b c d e f g h s.body crc form hcrc checked ∙ ap (λ (v : SectionView). Ok v) whole)
