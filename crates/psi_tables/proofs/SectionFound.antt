-- If the reader returns a section, it is in the bytes.
use Rattle.std.proofs.Common.{◌≡◌, ℕ, suc, ◌+◌, ◌-◌, ◌*◌, ◌/◌, ◌%◌, ◌<◌, ◌≤◌, ◌==◌, nat_lt, Bool, true, false, cond, refl, sym, ap, ◌∙◌, subst, arith, List, []}
use Rattle.std.proofs.Common.{◌∷◌, ◌++◌, length, take, drop, Option, None, Some, Result, Ok, Err, inl, inr, eqb-true}
use Rattle.std.proofs.lemmas.Bool.{ltb-false, le-ltb, lt-ltb, cases_lt, false≢true}
use Rattle.std.proofs.lemmas.List.{length-take-le, length-drop, take-append-drop}
use Rattle.bit_fields.specs.Fields.{number, fields, bit, flag, IsBytes}
use Rattle.bit_fields.proofs.Bind.{bind_ok, guard_ok, ok_is}
use Rattle.bit_fields.proofs.ByteLists.{IsBytes-take}
use Rattle.bit_fields.proofs.Fields.{bit_test}
use Rattle.psi_tables.specs.CheckWord.{check_word}
use Rattle.psi_tables.specs.Views.{SectionView}
use Rattle.psi_tables.specs.Syntax.{IsShortSection, IsLongSection, HasForm, IsSection}
use Rattle.psi_tables.specs.Reading.{section_start_at, is_bad_length, long_header_of, long_section, whole_at, sized_at, section_at}
use Rattle.psi_tables.specs.Encoding.{HeaderFits, FormFits}
use Rattle.psi_tables.specs.declared.error.SectionError.{SectionError}
use Rattle.psi_tables.specs.declared.error.SectionError.TheVariants.{Short, Length, CheckWord}
use Rattle.psi_tables.specs.declared.section.LongHeader.{LongHeader}
use Rattle.psi_tables.specs.declared.section.SectionStart.{SectionStart}
use Rattle.psi_tables.proofs.SectionForms.{five, whole_short, whole_long, short_again, long_again}

-- Bytes are cut at a length into a front and a rest.
take-three : (a b c : ℕ) (rest : List ℕ) (n : ℕ) → take (3 + n) (a ∷ b ∷ c ∷ rest) ≡ a ∷ b ∷ c ∷ take n rest
take-three a b c rest n = let e : 3 + n ≡ suc (suc (suc n)) = omega arith in rw e refl

-- Bytes of the short form are this section.
short_found : (a b c : ℕ) (body : List ℕ) → a < 256 → b < 256 → c < 256 → flag b 128 ≡ false → length body ≡ b % 16 * 256 + c → length body ≤ 4093
    → IsShortSection (a ∷ b ∷ c ∷ body) (record { header = record { table_id = a; private_indicator = flag b 64; long = None }; body = body })
short_found a b c body ha hb hc form len most =
    let one : bit (flag b 64) ≡ b / 64 % 2 = bit_test (b / 64 % 2) (omega arith) in
    let none : b / 128 % 2 ≡ 0 = sym (bit_test (b / 128 % 2) (omega arith)) ∙ ap bit form in
    record {
      front = a ∷ b ∷ c ∷ [];
      is = refl;
      reserved = b / 16 % 4;
      front_length = refl;
      spelled = omega arith;
      table_id = ha;
      two_bits = omega arith;
      section_length = most;
    }

-- Bytes of the long form are this section.
long_found : (a b c d e f g h : ℕ) (body crc : List ℕ) → a < 256 → b < 256 → c < 256 → d < 256 → e < 256 → f < 256 → g < 256 → h < 256
    → flag b 128 ≡ true → 9 + length body ≡ b % 16 * 256 + c → 9 + length body ≤ 4093 → length crc ≡ 4 →
    check_word (a ∷ b ∷ c ∷ d ∷ e ∷ f ∷ g ∷ h ∷ (body ++ crc)) ≡ 0
    → IsLongSection (a ∷ b ∷ c ∷ d ∷ e ∷ f ∷ g ∷ h ∷ (body ++ crc))
    (record { header = record { table_id = a; private_indicator = flag b 64; long = Some (long_header_of (d ∷ e ∷ f ∷ g ∷ h ∷ [])) }; body = body })
    (long_header_of (d ∷ e ∷ f ∷ g ∷ h ∷ []))
unfolding long_header_of
long_found a b c d e f g h body crc ha hb hc hd he hf hg hh form len most hcrc checked =
    let one : bit (flag b 64) ≡ b / 64 % 2 = bit_test (b / 64 % 2) (omega arith) in
    let long : b / 128 % 2 ≡ 1 = sym (bit_test (b / 128 % 2) (omega arith)) ∙ ap bit form in
    let next : bit (f % 2 == 1) ≡ f % 2 = bit_test (f % 2) (omega arith) in
    record {
      front = a ∷ b ∷ c ∷ d ∷ e ∷ f ∷ g ∷ h ∷ [];
      crc = crc;
      is = refl;
      reserved = b / 16 % 4;
      reserved_after = f / 64;
      front_length = refl;
      crc_length = hcrc;
      spelled = omega arith;
      checked = checked;
      table_id = ha;
      two_bits = omega arith;
      section_length = most;
      table_id_extension = omega arith;
      two_bits_after = omega arith;
      version_number = omega arith;
      section_number = hg;
      last_section_number = hh;
    }

-- The properties of a section that the reader returned
pub record Found (start : SectionStart) (bytes : List ℕ) (p : SectionView × ℕ) : Type 0 where
  pub good : is_bad_length start.is_long start.section_length ≡ false
  pub fits : 3 + start.section_length ≤ length bytes
  pub size : p.1 ≡ 3 + start.section_length
  pub whole : whole_at start (take (3 + start.section_length) bytes) ≡ Ok p.0

sized_found : (start : SectionStart) (bytes : List ℕ) (p : SectionView × ℕ) → sized_at start bytes ≡ Ok p → Found start bytes p
unfolding sized_at
sized_found start bytes p e =
    let n : ℕ = 3 + start.section_length in
    let first = guard_ok (is_bad_length start.is_long start.section_length) Length _ p e in
    let second = guard_ok (nat_lt (length bytes) n) Short _ p first.1 in
    let last = bind_ok (whole_at start (take n bytes)) _ p second.1 in
    let is : ◌≡◌ {A = SectionView × ℕ} (last.0, n) p = ok_is _ _ last.2 in
    record {
      good = first.0;
      fits = ltb-false (length bytes) n second.0;
      size = ap (λ (q : SectionView × ℕ). q.1) (sym is);
      whole = last.1 ∙ ap first_ok is;
    } where
      first_ok : SectionView × ℕ → Result SectionView SectionError
      first_ok q = Ok q.0

most_is : (is_long : Bool) (n : ℕ) → is_bad_length is_long n ≡ false → n ≤ 4093
unfolding is_bad_length
most_is is_long n h = elim (cases_lt 4093 n) [
  | inl lt ↦ let t : nat_lt 4093 n ≡ true = lt-ltb 4093 n lt in absurd (false≢true (sym h ∙ rw t refl))
  | inr le ↦ le
]

enough_is : (n : ℕ) → is_bad_length true n ≡ false → 9 ≤ n
unfolding is_bad_length
enough_is n h = let good : nat_lt 4093 n ≡ false = le-ltb 4093 n (most_is true n h) in
    ltb-false n 9 (sym (ap (λ (t : Bool). cond t true (nat_lt n 9)) good) ∙ h)

cond_true : {A : Type 0} (b : Bool) (x y : A) → b ≡ true → cond b x y ≡ x
cond_true true x y e = refl
cond_true false x y e = absurd cc

checked_is : (t : Bool) (x y : SectionView) → cond t (Ok x) (Err CheckWord) ≡ Ok y → t ≡ true
checked_is true x y e = refl
checked_is false x y e = absurd cc

-- If the reader returns a section of the long form, its check word is right.
long_checked : (start : SectionStart) (bytes : List ℕ) (s : SectionView) → start.is_long ≡ true → whole_at start bytes ≡ Ok s → check_word bytes ≡ 0
unfolding whole_at
long_checked start bytes s form e =
    eqb-true (check_word bytes) 0 (checked_is (check_word bytes == 0) (long_section start (drop 3 bytes)) s (sym (cond_true start.is_long _ _ form) ∙ e))

-- If the reader returns a section of the long form, the bytes are this section.
long_is_of : (a b c d e f g h : ℕ) (body crc : List ℕ) (s : SectionView) → IsBytes (a ∷ b ∷ c ∷ d ∷ e ∷ f ∷ g ∷ h ∷ (body ++ crc)) → flag b 128 ≡ true
    → 9 + length body ≡ b % 16 * 256 + c → b % 16 * 256 + c ≤ 4093 → length crc ≡ 4
    → whole_at (record { table_id = a; is_long = flag b 128; private_indicator = flag b 64; section_length = b % 16 * 256 + c })
    (a ∷ b ∷ c ∷ d ∷ e ∷ f ∷ g ∷ h ∷ (body ++ crc)) ≡ Ok s
    → IsSection (a ∷ b ∷ c ∷ d ∷ e ∷ f ∷ g ∷ h ∷ (body ++ crc)) s
long_is_of a b c d e f g h body crc s bytes form len most hcrc r =
    let start : SectionStart = record { table_id = a; is_long = flag b 128; private_indicator = flag b 64; section_length = b % 16 * 256 + c } in
    let section : List ℕ = a ∷ b ∷ c ∷ d ∷ e ∷ f ∷ g ∷ h ∷ (body ++ crc) in
    let checked : check_word section ≡ 0 = long_checked start section s form r in
    let read = whole_long start a b c d e f g h body crc form hcrc checked in
    let says : ◌≡◌ {A = SectionView}
    (record { header = record { table_id = a; private_indicator = flag b 64; long = Some (long_header_of (d ∷ e ∷ f ∷ g ∷ h ∷ [])) }; body = body }) s =
    ok_is _ _ (sym read ∙ r) in
    subst (λ (v : SectionView). IsSection section v) says
    (long_found a b c d e f g h body crc (bytes 0) (bytes 1) (bytes 2) (bytes 3) (bytes 4) (bytes 5) (bytes 6) (bytes 7) form len (omega arith) hcrc checked)

long_is : (a b c : ℕ) (t : List ℕ) (s : SectionView) → IsBytes (a ∷ b ∷ c ∷ t) → flag b 128 ≡ true → is_bad_length true (b % 16 * 256 + c) ≡ false →
    length t ≡ b % 16 * 256 + c
    → whole_at (record { table_id = a; is_long = flag b 128; private_indicator = flag b 64; section_length = b % 16 * 256 + c }) (a ∷ b ∷ c ∷ t) ≡ Ok s
    → IsSection (a ∷ b ∷ c ∷ t) s
long_is a b c t s h form good len r =
    let enough : 9 ≤ b % 16 * 256 + c = enough_is (b % 16 * 256 + c) good in
    let v = five t (omega arith) in
    let size : length t ≡ 5 + length v.5 = ap (length {A = ℕ}) v.6 ∙ five_more (length v.5) in
    let start : SectionStart = record { table_id = a; is_long = flag b 128; private_indicator = flag b 64; section_length = b % 16 * 256 + c } in
    after v.0 v.1 v.2 v.3 v.4 (take (length v.5 - 4) v.5) (drop (length v.5 - 4) v.5)
    (v.6 ∙ ap (λ (x : List ℕ). v.0 ∷ v.1 ∷ v.2 ∷ v.3 ∷ v.4 ∷ x) (sym (take-append-drop (length v.5 - 4) v.5)))
    (length_of (length v.5) (length t) (b % 16 * 256 + c) _ size len enough (length-take-le (length v.5 - 4) v.5 (omega arith)))
    (length-drop (length v.5 - 4) v.5 ∙ rest_of (length v.5) (length t) (b % 16 * 256 + c) size len enough) where
      five_more : (n : ℕ) → suc (suc (suc (suc (suc n)))) ≡ 5 + n
      five_more n = omega arith

      length_of : (u t n x : ℕ) → t ≡ 5 + u → t ≡ n → 9 ≤ n → x ≡ u - 4 → 9 + x ≡ n
      length_of u t n x p q r s = omega arith

      rest_of : (u t n : ℕ) → t ≡ 5 + u → t ≡ n → 9 ≤ n → u - (u - 4) ≡ 4
      rest_of u t n p q r = omega arith

      after : (d e f g k : ℕ) (body crc : List ℕ) → t ≡ d ∷ e ∷ f ∷ g ∷ k ∷ (body ++ crc) → 9 + length body ≡ b % 16 * 256 + c → length crc ≡ 4 →
          IsSection (a ∷ b ∷ c ∷ t) s
      after d e f g k body crc is hbody hcrc =
          let whole : ◌≡◌ {A = List ℕ} (a ∷ b ∷ c ∷ t) (a ∷ b ∷ c ∷ d ∷ e ∷ f ∷ g ∷ k ∷ (body ++ crc)) = ap (λ (x : List ℕ). a ∷ b ∷ c ∷ x) is in
          subst (λ (x : List ℕ). IsSection x s) (sym whole)
          (long_is_of a b c d e f g k body crc s (subst IsBytes whole h) form hbody (most_is true (b % 16 * 256 + c) good) hcrc
          (ap (λ (x : List ℕ). whole_at (record { table_id = a; is_long = flag b 128; private_indicator = flag b 64; section_length = b % 16 * 256 + c }) x)
          (sym whole) ∙ r))

short_is : (a b c : ℕ) (t : List ℕ) (s : SectionView) → IsBytes (a ∷ b ∷ c ∷ t) → flag b 128 ≡ false → b % 16 * 256 + c ≤ 4093 → length t ≡ b % 16 * 256 + c
    → whole_at (record { table_id = a; is_long = flag b 128; private_indicator = flag b 64; section_length = b % 16 * 256 + c }) (a ∷ b ∷ c ∷ t) ≡ Ok s
    → IsSection (a ∷ b ∷ c ∷ t) s
short_is a b c t s h form most len r =
    let start : SectionStart = record { table_id = a; is_long = flag b 128; private_indicator = flag b 64; section_length = b % 16 * 256 + c } in
    let says : ◌≡◌ {A = SectionView} (record { header = record { table_id = a; private_indicator = flag b 64; long = None }; body = t }) s =
    ok_is _ _ (sym (whole_short start a b c t form) ∙ r) in
    subst (λ (v : SectionView). IsSection (a ∷ b ∷ c ∷ t) v) says (short_found a b c t (h 0) (h 1) (h 2) form len (omega arith))

-- If the reader returns a section of either form, the bytes are this section.
form_is : (l : Bool) (a b c : ℕ) (t : List ℕ) (s : SectionView) → IsBytes (a ∷ b ∷ c ∷ t) → flag b 128 ≡ l →
    is_bad_length (flag b 128) (b % 16 * 256 + c) ≡ false → length t ≡ b % 16 * 256 + c
    → whole_at (record { table_id = a; is_long = flag b 128; private_indicator = flag b 64; section_length = b % 16 * 256 + c }) (a ∷ b ∷ c ∷ t) ≡ Ok s
    → IsSection (a ∷ b ∷ c ∷ t) s
form_is true a b c t s h form good len r = long_is a b c t s h form (ap (λ (l : Bool). is_bad_length l (b % 16 * 256 + c)) (sym form) ∙ good) len r
form_is false a b c t s h form good len r = short_is a b c t s h form (most_is (flag b 128) (b % 16 * 256 + c) good) len r

-- The bytes that the reader took are the section that it returned.
pub record IsRead (bytes : List ℕ) (p : SectionView × ℕ) : Type 0 where
  pub fits : p.1 ≤ length bytes
  pub section : IsSection (take p.1 bytes) p.0

pub section_is : (bytes : List ℕ) (p : SectionView × ℕ) → IsBytes bytes → section_at bytes ≡ Ok p → IsRead bytes p
unfolding section_at section_start_at
section_is [] p h e = absurd cc
section_is (a ∷ []) p h e = absurd cc
section_is (a ∷ b ∷ []) p h e = absurd cc
section_is (a ∷ b ∷ c ∷ bytes) p h e =
    let n : ℕ = b % 16 * 256 + c in
    let start : SectionStart = record { table_id = a; is_long = flag b 128; private_indicator = flag b 64; section_length = n } in
    let q = sized_found start (a ∷ b ∷ c ∷ bytes) p e in
    let cut : take (3 + n) (a ∷ b ∷ c ∷ bytes) ≡ a ∷ b ∷ c ∷ take n bytes = take-three a b c bytes n in
    let room : n ≤ length bytes = fewer n (length bytes) q.fits in
    let section : take p.1 (a ∷ b ∷ c ∷ bytes) ≡ a ∷ b ∷ c ∷ take n bytes = ap (λ (m : ℕ). take m (a ∷ b ∷ c ∷ bytes)) q.size ∙ cut in
    let whole : whole_at start (a ∷ b ∷ c ∷ take n bytes) ≡ Ok p.0 = ap (λ (x : List ℕ). whole_at start x) (sym cut) ∙ q.whole in
    let few : IsBytes (a ∷ b ∷ c ∷ take n bytes) = subst IsBytes section (IsBytes-take p.1 (a ∷ b ∷ c ∷ bytes) h) in
    let len : length (take n bytes) ≡ n = length-take-le n bytes room in
    record {
      fits = omega (arith, q.size, q.fits);
      section = subst (λ (x : List ℕ). IsSection x p.0) (sym section) (form_is (flag b 128) a b c (take n bytes) p.0 few refl q.good len whole);
    } where
      fewer : (n m : ℕ) → 3 + n ≤ suc (suc (suc m)) → n ≤ m
      fewer n m h = omega arith

three : (xs : List ℕ) → length xs ≡ 3 → (a : ℕ) × (b : ℕ) × (c : ℕ) × (xs ≡ a ∷ b ∷ c ∷ [])
three [] h = absurd (omega arith)
three (a ∷ []) h = absurd (omega arith)
three (a ∷ b ∷ []) h = absurd (omega arith)
three (a ∷ b ∷ c ∷ []) h = (a, b, c, refl)
three (a ∷ b ∷ c ∷ d ∷ xs) h = absurd (omega arith)

eight : (xs : List ℕ) → length xs ≡ 8
    → (a : ℕ) × (b : ℕ) × (c : ℕ) × (d : ℕ) × (e : ℕ) × (f : ℕ) × (g : ℕ) × (h : ℕ) × (xs ≡ a ∷ b ∷ c ∷ d ∷ e ∷ f ∷ g ∷ h ∷ [])
eight (a ∷ b ∷ c ∷ xs) len =
    let v = five xs (omega arith) in
    let more : length xs ≡ suc (suc (suc (suc (suc (length v.5))))) = ap (length {A = ℕ}) v.6 in (
      a,
      b,
      c,
      v.0,
      v.1,
      v.2,
      v.3,
      v.4,
      ap (λ (x : List ℕ). a ∷ b ∷ c ∷ x)
          (v.6 ∙ ap (λ (x : List ℕ). v.0 ∷ v.1 ∷ v.2 ∷ v.3 ∷ v.4 ∷ x) (none v.5 (left (length xs) (length v.5) more (drop_three (length xs) len)))),
    ) where
      drop_three : (n : ℕ) → suc (suc (suc n)) ≡ 8 → n ≡ 5
      drop_three n h = omega arith

      left : (n m : ℕ) → n ≡ suc (suc (suc (suc (suc m)))) → n ≡ 5 → m ≡ 0
      left n m h k = omega arith

      none : (ys : List ℕ) → length ys ≡ 0 → ys ≡ []
      none [] h = refl
      none (y ∷ ys) h = absurd (omega arith)
eight [] len = absurd (omega arith)
eight (a ∷ []) len = absurd (omega arith)
eight (a ∷ b ∷ []) len = absurd (omega arith)

again_by : (l : Option LongHeader) (section rest : List ℕ) (s : SectionView) → IsBytes section → s.header.long ≡ l → HasForm l section s →
    section_at (section ++ rest) ≡ Ok (s, length section)
again_by None section rest s bytes e h =
    let v = three h.front h.front_length in
    let a : ℕ = v.0 in
    let b : ℕ = v.1 in
    let c : ℕ = v.2 in
    let is : section ≡ a ∷ b ∷ c ∷ s.body = h.is ∙ ap (λ (x : List ℕ). x ++ s.body) v.3 in
    let fit : IsBytes (a ∷ b ∷ c ∷ s.body) = subst IsBytes is bytes in
    let spelled =
    subst (λ (x : List ℕ). number x ≡ fields
    ((8, s.header.table_id) ∷ (1, 0) ∷ (1, bit s.header.private_indicator) ∷ (2, h.reserved) ∷ (12, length s.body) ∷ [])) v.3 h.spelled in
    subst (λ (x : List ℕ). section_at (x ++ rest) ≡ Ok (s, length x)) (sym is)
    (short_again a b c s h.reserved rest (fit 0) (fit 1) (fit 2) e spelled h.table_id h.two_bits h.section_length)
again_by (Some l) section rest s bytes e h =
    let v = eight h.front h.front_length in
    let is : section ≡ v.0 ∷ v.1 ∷ v.2 ∷ v.3 ∷ v.4 ∷ v.5 ∷ v.6 ∷ v.7 ∷ (s.body ++ h.crc) = h.is ∙ ap (λ (x : List ℕ). x ++ (s.body ++ h.crc)) v.8 in
    let fit : IsBytes (v.0 ∷ v.1 ∷ v.2 ∷ v.3 ∷ v.4 ∷ v.5 ∷ v.6 ∷ v.7 ∷ (s.body ++ h.crc)) = subst IsBytes is bytes in
    let spelled =
    subst (λ (x : List ℕ). number x ≡ fields
    ((8, s.header.table_id) ∷ (1, 1) ∷ (1, bit s.header.private_indicator) ∷ (2, h.reserved) ∷ (12, 9 + length s.body)
    ∷ (16, l.table_id_extension) ∷ (2, h.reserved_after) ∷ (5, l.version_number) ∷ (1, bit l.current_next) ∷ (8, l.section_number) ∷ (8, l.last_section_number)
    ∷ [])) v.8 h.spelled in
    subst (λ (x : List ℕ). section_at (x ++ rest) ≡ Ok (s, length x)) (sym is)
    (long_again v.0 v.1 v.2 v.3 v.4 v.5 v.6 v.7 s l h.crc h.reserved h.reserved_after rest (fit 0) (fit 1) (fit 2) (fit 3) (fit 4) (fit 5) (fit 6) (fit 7) e
    h.crc_length spelled
    (ap check_word (sym is) ∙ h.checked) h.table_id h.two_bits h.section_length h.table_id_extension h.two_bits_after h.version_number h.section_number
    h.last_section_number)

-- If bytes begin with a section, the reader returns this section.
pub section_again : (section rest : List ℕ) (s : SectionView) → IsBytes section → IsSection section s → section_at (section ++ rest) ≡ Ok (s, length section)
section_again section rest s bytes h = again_by s.header.long section rest s bytes refl h

form_fits : (l : Option LongHeader) (section : List ℕ) (s : SectionView) → HasForm l section s → FormFits l
form_fits None section s h = tt
form_fits (Some l) section s h = h.version_number

-- The fields of a section fit, so they can be written.
pub section_fits : (section : List ℕ) (s : SectionView) → IsSection section s → HeaderFits s.header
section_fits section s h = form_fits s.header.long section s h
