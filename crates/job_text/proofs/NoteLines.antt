-- The text after a number is a comment, and ends its line.
use Rattle.std.proofs.Common.{◌≡◌, ℕ, zero, suc, ◌+◌, ◌/◌, ◌%◌, ◌*◌, ◌==◌, ◌≤◌, nat_le, nat_lt, not, Bool, true, false, List, [], ◌∷◌, ◌++◌, ◌||◌, ◌&&◌, if◌then◌else◌}
use Rattle.std.proofs.Common.{length, map, codes, decimal}
use Rattle.std.proofs.Common.{refl, sym, ap, ◌∙◌, subst, arith, append_assoc, pos, negsuc, Some, inl, inr, ◌⊎◌}
use Rattle.std.proofs.lemmas.Bool.{and_parts, and_from, cond_both, le-leb, leb-true}
use Rattle.std.proofs.lemmas.Bool.Decides.{nat_tests}
use Rattle.std.specs.List.{list_all, list_any}
use Rattle.std.specs.Fmt.{digit_glyph, digits, digits_onto}
use Rattle.toml_parser.specs.Lexical.{first, skip_ws, skip_from, skip_blank, skip_turn}
use Rattle.toml_parser.proofs.LexicalLemmas.{skip_ws_none, skip_ws_space}
use Rattle.toml.specs.Data.{Data, string, integer, float, boolean, datetime, array, table}
use Rattle.toml.specs.Parse.{ends_line}
use Rattle.toml.proofs.Blanks.{skip_newline}
use Rattle.job_text.specs.declared.measure.Measure.{Measure}
use Rattle.job_text.specs.declared.measure.Measure.TheVariants.{Plain, Ticks, Clock, BitRate, Bytes, Milliseconds, Seconds, ServiceType}
use Rattle.job_text.specs.Notes.{group, grouped, is_named, is_shown, measure_of, name_note, note, note_if_any, note_of, number_note, quotient, service_type_name}
use Rattle.job_text.specs.Notes.{stream_type_name, thousandths, two_digits, type_note}
use Rattle.job_text.specs.ProfileWords.{said_words}
use Rattle.stream_coding.specs.declared.profiles.ProfileLevel.{ProfileLevel}
use Rattle.job_text.specs.Laws.{NotesAreShown}
use Rattle.job_text.proofs.ShownTexts.{Shown, shown_both, decimal_shown, three_shown}
use Rattle.job_text.proofs.ShownProfiles.{said_shown}
use Rattle.job_text.proofs.Comments.{IsTail}

-- Testing the elements of a mapped list equals testing the images of the elements.
pub any_of_mapped : {A B : Type 0} (p : B → Bool) (f : A → B) (xs : List A) → list_any p (map f xs) ≡ list_any (λ x. p (f x)) xs
any_of_mapped p f [] = refl
any_of_mapped p f (x ∷ xs) = ap (λ (b : Bool). p (f x) || b) (any_of_mapped p f xs)

-- 1. The bytes of a note

group_shown : (n : ℕ) → Shown (group n)
unfolding group
group_shown n =
    shown_both (codes ",") (decimal (n / 100 % 10) ++ (decimal (n / 10 % 10) ++ decimal (n % 10))) refl (three_shown (n / 100 % 10) (n / 10 % 10) (n % 10))

grouped_shown : (n : ℕ) → Shown (grouped n)
unfolding grouped
grouped_shown n =
    let one = group n in
    let two = group (n / 1_000) ++ one in
    let three = group (n / 1_000_000) ++ two in
    let one_is = group_shown n in
    let two_is = shown_both (group (n / 1_000)) one (group_shown (n / 1_000)) one_is in
    let three_is = shown_both (group (n / 1_000_000)) two (group_shown (n / 1_000_000)) two_is in
    let thousands = decimal (n / 1_000) ++ one in
    let millions = decimal (n / 1_000_000) ++ two in
    let billions = decimal (n / 1_000_000_000) ++ three in
    let thousands_are = shown_both (decimal (n / 1_000)) one (decimal_shown (n / 1_000)) one_is in
    let millions_are = shown_both (decimal (n / 1_000_000)) two (decimal_shown (n / 1_000_000)) two_is in
    let billions_are = shown_both (decimal (n / 1_000_000_000)) three (decimal_shown (n / 1_000_000_000)) three_is in
    let from_millions = if nat_lt n 1_000_000_000 then millions else billions in
    let from_thousands = if nat_lt n 1_000_000 then thousands else from_millions in
    cond_both (nat_lt n 1_000) (decimal n) from_thousands Shown (λ _. decimal_shown n) (λ _.
    cond_both (nat_lt n 1_000_000) thousands from_millions Shown (λ _. thousands_are) (λ _.
    cond_both (nat_lt n 1_000_000_000) millions billions Shown (λ _. millions_are) (λ _. billions_are)))

thousandths_shown : (n : ℕ) → Shown (thousandths n)
unfolding thousandths
thousandths_shown n =
    let digits_of = decimal (n / 100 % 10) ++ (decimal (n / 10 % 10) ++ decimal (n % 10)) in
    cond_both (n == 0) [] (codes "." ++ digits_of) Shown (λ _. refl)
    (λ _. shown_both (codes ".") digits_of refl (three_shown (n / 100 % 10) (n / 10 % 10) (n % 10)))

quotient_shown : (whole n : ℕ) → Shown (quotient whole n)
unfolding quotient
quotient_shown whole n =
    shown_both (grouped (n / whole)) (thousandths (n % whole * 1_000 / whole)) (grouped_shown (n / whole)) (thousandths_shown (n % whole * 1_000 / whole))

two_shown : (n : ℕ) → Shown (two_digits n)
unfolding two_digits
two_shown n = shown_both (decimal (n / 10 % 10)) (decimal (n % 10)) (decimal_shown (n / 10 % 10)) (decimal_shown (n % 10))

stream_name_shown : (n : ℕ) → Shown (stream_type_name n)
unfolding stream_type_name
stream_name_shown n =
    cond_both (n == 1) (codes "MPEG-1 video") _ Shown (λ _. refl) (λ _.
    cond_both (n == 2) (codes "MPEG-2 video") _ Shown (λ _. refl) (λ _.
    cond_both (n == 3) (codes "MPEG-1 audio") _ Shown (λ _. refl) (λ _.
    cond_both (n == 4) (codes "MPEG-2 audio") _ Shown (λ _. refl) (λ _.
    cond_both (n == 6) (codes "private data: its descriptors say which") _ Shown (λ _. refl) (λ _.
    cond_both (n == 15) (codes "AAC audio, ADTS") _ Shown (λ _. refl) (λ _.
    cond_both (n == 17) (codes "AAC audio, LATM") _ Shown (λ _. refl) (λ _.
    cond_both (n == 21) (codes "metadata") _ Shown (λ _. refl) (λ _.
    cond_both (n == 27) (codes "H.264 video") _ Shown (λ _. refl) (λ _.
    cond_both (n == 33) (codes "JPEG 2000 video") _ Shown (λ _. refl) (λ _.
    cond_both (n == 36) (codes "H.265 video") _ Shown (λ _. refl) (λ _.
    cond_both (n == 129) (codes "AC-3 audio") _ Shown (λ _. refl) (λ _.
    cond_both (n == 135) (codes "Enhanced AC-3 audio") _ Shown (λ _. refl) (λ _. refl)))))))))))))

service_name_shown : (n : ℕ) → Shown (service_type_name n)
unfolding service_type_name
service_name_shown n =
    cond_both (n == 1) (codes "digital television") _ Shown (λ _. refl) (λ _.
    cond_both (n == 2) (codes "digital radio") _ Shown (λ _. refl) (λ _.
    cond_both (n == 3) (codes "teletext") _ Shown (λ _. refl) (λ _.
    cond_both (n == 10) (codes "digital radio, advanced codec") _ Shown (λ _. refl) (λ _.
    cond_both (n == 12) (codes "data broadcast") _ Shown (λ _. refl) (λ _.
    cond_both (n == 17) (codes "digital television, MPEG-2 HD") _ Shown (λ _. refl) (λ _.
    cond_both (n == 22) (codes "digital television, H.264 SD") _ Shown (λ _. refl) (λ _.
    cond_both (n == 25) (codes "digital television, H.264 HD") _ Shown (λ _. refl) (λ _.
    cond_both (n == 31) (codes "digital television, H.265") _ Shown (λ _. refl) (λ _. refl)))))))))

-- 2. A note is empty, or a comment

abbrev pub IsNote : List ℕ → Type 0
IsNote text = (text ≡ []) ⊎ ((words : List ℕ) × (text ≡ note words) × Shown words)

is_note : (words : List ℕ) → Shown words → IsNote (note words)
is_note words h = inr (words, refl, h)

any_note : (words : List ℕ) → Shown words → IsNote (note_if_any words)
unfolding note_if_any
any_note words h = cond_both (length words == 0) [] (note words) IsNote (λ _. inl refl) (λ _. is_note words h)

number_is : (m : Measure) (n : ℕ) → IsNote (number_note m n)
number_is Plain n = inl refl
number_is Ticks n = is_note (quotient 90 n ++ codes " ms") (shown_both (quotient 90 n) (codes " ms") (quotient_shown 90 n) refl)
number_is Clock n = is_note (quotient 90_000 n ++ codes " s") (shown_both (quotient 90_000 n) (codes " s") (quotient_shown 90_000 n) refl)
number_is BitRate n = is_note (grouped n ++ codes " bits/s") (shown_both (grouped n) (codes " bits/s") (grouped_shown n) refl)
number_is Bytes n = is_note (grouped n ++ codes " bytes") (shown_both (grouped n) (codes " bytes") (grouped_shown n) refl)
number_is Milliseconds n = is_note (codes "ms") refl
number_is Seconds n =
    let seconds = codes ":" ++ two_digits (n % 60) in
    let minutes = codes ":" ++ (two_digits (n / 60 % 60) ++ seconds) in
    let seconds_are = shown_both (codes ":") (two_digits (n % 60)) refl (two_shown (n % 60)) in
    let minutes_are = shown_both (codes ":") (two_digits (n / 60 % 60) ++ seconds) refl
    (shown_both (two_digits (n / 60 % 60)) seconds (two_shown (n / 60 % 60)) seconds_are) in
    is_note (decimal (n / 3_600) ++ minutes) (shown_both (decimal (n / 3_600)) minutes (decimal_shown (n / 3_600)) minutes_are)
number_is ServiceType n = any_note (service_type_name n) (service_name_shown n)

pub note_is : (key : List ℕ) (d : Data) → IsNote (note_of key d)
note_is key (integer (pos n)) = number_is (measure_of key) n
note_is key (integer (negsuc n)) = inl refl
note_is key (string s) = inl refl
note_is key (float x) = inl refl
note_is key (boolean b) = inl refl
note_is key (datetime x) = inl refl
note_is key (array x) = inl refl
note_is key (table x) = inl refl

-- The note after a stream_type
type_is : (n : ℕ) (said : ProfileLevel) → IsNote (type_note n said)
unfolding type_note
type_is n said =
    cond_both (length (stream_type_name n) == 0) [] (note (stream_type_name n ++ said_words said)) IsNote (λ _. inl refl)
    (λ _. is_note (stream_type_name n ++ said_words said) (shown_both (stream_type_name n) (said_words said) (stream_name_shown n) (said_shown said)))

-- Printable ASCII has no control character.
abbrev Named : List ℕ → Type 0
Named xs = list_all is_named xs ≡ true

byte_named : (c : ℕ) → is_shown c ≡ true → is_named c ≡ true
byte_named c h =
    let parts = and_parts (nat_le 32 c) (nat_le c 126) h in
    let low : 32 ≤ c = leb-true 32 c parts.0 in
    let high : c ≤ 126 = leb-true c 126 parts.1 in
    grind (arith, nat_tests)

shown_named : (xs : List ℕ) → Shown xs → Named xs
shown_named [] h = refl
shown_named (c ∷ xs) h =
    let parts = and_parts (is_shown c) (list_all is_shown xs) h in
    and_from (is_named c) (list_all is_named xs) (byte_named c parts.0) (shown_named xs parts.1)

-- The note beside descriptors has none either.
name_named : (name : List ℕ) → Named (name_note name)
unfolding name_note
name_named name =
    cond_both (length name == 0) [] _ Named (λ _. refl) (λ _. cond_both (list_all is_named name) (note name) [] Named (λ h. h) (λ _. refl))

-- 3. A note ends its line

named_goes_on : (c next : ℕ) → is_named c ≡ true → skip_turn true true c next ≡ Some true
named_goes_on c next h =
    let parts = and_parts (nat_le 32 c) (not (c == 127)) h in
    let low : 32 ≤ c = leb-true 32 c parts.0 in
    grind (arith, nat_tests)

words_skipped : (words rest : List ℕ) → Named words → skip_from true true (words ++ 10 ∷ rest) ≡ skip_blank rest
unfolding skip_from
words_skipped [] rest h = refl
words_skipped (c ∷ words) rest h =
    let parts = and_parts (is_named c) (list_all is_named words) h in
    rw (named_goes_on c (first (words ++ 10 ∷ rest)) parts.0) (words_skipped words rest parts.1)

note_skipped : (words rest : List ℕ) → Named words → skip_blank (note words ++ 10 ∷ rest) ≡ skip_blank rest
unfolding skip_from
note_skipped words rest h = words_skipped words rest h

newline_ends : (rest : List ℕ) → ends_line (skip_ws (10 ∷ rest)) ≡ true
newline_ends rest = rw (skip_ws_none (10 ∷ rest) refl) (grind (arith, nat_tests))

note_ends : (rest : List ℕ) → ends_line (skip_ws (32 ∷ 35 ∷ rest)) ≡ true
note_ends rest = rw (skip_ws_space (35 ∷ rest), skip_ws_none (35 ∷ rest) refl) (grind (arith, nat_tests))

newline_tail : IsTail (10 ∷ [])
newline_tail = record { stops = λ rest. ((refl, refl), (refl, refl)); ends = newline_ends; skipped = skip_newline }

words_tail : (words : List ℕ) → Named words → IsTail (note words ++ 10 ∷ [])
words_tail words h = record {
  stops = λ rest. ((refl, refl), (refl, refl));
  ends = λ rest. note_ends (32 ∷ ((words ++ 10 ∷ []) ++ rest));
  skipped = λ rest. ap skip_blank (append_assoc (note words) (10 ∷ []) rest) ∙ note_skipped words rest h;
}

tail_of : (text : List ℕ) → IsNote text → IsTail (text ++ 10 ∷ [])
tail_of text (inl none) = rw none newline_tail
tail_of text (inr (words, is, h)) = rw is (words_tail words (shown_named words h))

pub note_tail : (key : List ℕ) (d : Data) → IsTail (note_of key d ++ 10 ∷ [])
note_tail key d = tail_of (note_of key d) (note_is key d)

pub no_tail : IsTail (10 ∷ [])
no_tail = tail_of [] (inl refl)

pub name_tail : (name : List ℕ) → IsTail (name_note name ++ 10 ∷ [])
unfolding name_note
name_tail name =
    cond_both (length name == 0) [] _ (λ text. IsTail (text ++ 10 ∷ [])) (λ _. newline_tail)
    (λ _. cond_both (list_all is_named name) (note name) [] (λ text. IsTail (text ++ 10 ∷ [])) (words_tail name) (λ _. newline_tail))

pub type_tail : (n : ℕ) (said : ProfileLevel) → IsTail (type_note n said ++ 10 ∷ [])
type_tail n said = tail_of (type_note n said) (type_is n said)

-- The bytes of a note are printable.
shown_of : (text : List ℕ) → IsNote text → Shown text
shown_of text (inl none) = rw none refl
shown_of text (inr (words, is, h)) = rw is (shown_both (codes " # ") words refl h)

pub notes_are_shown : NotesAreShown
notes_are_shown = (
  λ key d. shown_of (note_of key d) (note_is key d),
  λ n said. shown_of (type_note n said) (type_is n said),
  name_named,
)
