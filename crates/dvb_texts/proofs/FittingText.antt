-- Characters for which there is room, one after another
use Rattle.std.proofs.Common.{◌≡◌, ◌≤◌, ◌<◌, ℕ, ◌+◌, true, false, List, [], ◌∷◌, ◌++◌, length, drop, get_or, encode_utf8, refl, sym, add-one, append-nil, inl}
use Rattle.std.proofs.Common.{inr, arith}
use Rattle.std.proofs.Math.Seq.{drop-cons}
use Rattle.std.proofs.lemmas.Bool.{cases_Bool, le-leb, leb-true}
use Rattle.std.proofs.lemmas.List.{drop_all}
use Rattle.std.proofs.lemmas.Str.{NoCharPasses-nil, NoCharPasses-append, IsUtf8-from_is_utf8}
use Rattle.std.specs.Char.{is_control}
use Rattle.std.specs.Str.{NoCharPasses, NonePass, IsUtf8, is_utf8}
use Rattle.dvb_tables.specs.CharacterCoding as coding
use Rattle.dvb_tables.specs.CharacterCoding.{text_bytes}
use Rattle.dvb_texts.specs.Texts.{printable, fits, fitting, characters, decode_text}

-- 1. The loop

next : (i : ℕ) (cs : List ℕ) (c : ℕ) → i < length cs → c ≡ get_or cs i c → drop i cs ≡ c ∷ drop (i + 1) cs
next i cs c below is = rw (drop-cons cs i c below, add-one i, sym is) refl

pub past_control : (max_bytes i : ℕ) (text cs : List ℕ) (c : ℕ) → i < length cs → c ≡ get_or cs i c → is_control c ≡ true →
    fitting max_bytes text (printable (drop i cs)) ≡ fitting max_bytes text (printable (drop (i + 1) cs))
past_control max_bytes i text cs c below is control = rw (next i cs c below is, control) refl

pub with_room : (max_bytes i : ℕ) (text after cs : List ℕ) (c : ℕ) → i < length cs → c ≡ get_or cs i c → is_control c ≡ false →
    fits max_bytes (text ++ encode_utf8 c) ≡ true → after ≡ text ++ encode_utf8 c →
    fitting max_bytes text (printable (drop i cs)) ≡ fitting max_bytes after (printable (drop (i + 1) cs))
unfolding fitting
with_room max_bytes i text after cs c below is shown room made = rw (next i cs c below is, shown, room, made) refl

pub without_room : (max_bytes i : ℕ) (text cs : List ℕ) (c : ℕ) → i < length cs → c ≡ get_or cs i c → is_control c ≡ false →
    fits max_bytes (text ++ encode_utf8 c) ≡ false → fitting max_bytes text (printable (drop i cs)) ≡ text
unfolding fitting
without_room max_bytes i text cs c below is shown full = rw (next i cs c below is, shown, full) refl

pub all_added : (max_bytes i : ℕ) (text cs : List ℕ) → length cs ≤ i → fitting max_bytes text (printable (drop i cs)) ≡ text
unfolding fitting
all_added max_bytes i text cs over = rw (drop_all i cs over) refl

-- 2. The result of the loop

fitting_within : (max_bytes : ℕ) (text cs : List ℕ) → fits max_bytes text ≡ true → fits max_bytes (fitting max_bytes text cs) ≡ true
unfolding fitting
fitting_within max_bytes text [] room = room
fitting_within max_bytes text (c ∷ cs) room = elim (cases_Bool (fits max_bytes (text ++ encode_utf8 c))) [
  | inl more ↦ rw more (fitting_within max_bytes (text ++ encode_utf8 c) cs more)
  | inr none ↦ rw none room
]

none_within : (max_bytes : ℕ) → fits max_bytes [] ≡ true
unfolding fits coding.is_plain
none_within max_bytes = le-leb 0 max_bytes (omega arith)

within : (max_bytes : ℕ) (text : List ℕ) → fits max_bytes text ≡ true → length (text_bytes text) ≤ max_bytes
unfolding fits
within max_bytes text is = leb-true (length (text_bytes text)) max_bytes is

pub decoded_within : (max_bytes : ℕ) (bytes : List ℕ) → length (text_bytes (decode_text max_bytes bytes)) ≤ max_bytes
unfolding decode_text
decoded_within max_bytes bytes =
    within max_bytes (fitting max_bytes [] (printable (characters bytes))) (fitting_within max_bytes [] (printable (characters bytes)) (none_within max_bytes))

none_pass : (cs : List ℕ) → NonePass is_control (printable cs)
none_pass [] = tt
none_pass (c ∷ cs) = elim (cases_Bool (is_control c)) [
  | inl control ↦ rw control (none_pass cs)
  | inr shown ↦ rw shown (shown, none_pass cs)
]

one_passes_not : (c : ℕ) → is_control c ≡ false → NoCharPasses is_control (encode_utf8 c)
one_passes_not c shown = (c ∷ [], append-nil (encode_utf8 c), (shown, tt))

filled_shown : (max_bytes : ℕ) (text cs : List ℕ) → NoCharPasses is_control text → NonePass is_control cs → NoCharPasses is_control (fitting max_bytes text cs)
unfolding fitting
filled_shown max_bytes text [] held none = held
filled_shown max_bytes text (c ∷ cs) held none = elim (cases_Bool (fits max_bytes (text ++ encode_utf8 c))) [
  | inl room ↦ rw room
      (filled_shown max_bytes (text ++ encode_utf8 c) cs (NoCharPasses-append is_control text (encode_utf8 c) held (one_passes_not c none.0)) none.1)
  | inr full ↦ rw full held
]

pub fitting_printable : (max_bytes : ℕ) (cs : List ℕ) → NoCharPasses is_control (fitting max_bytes [] (printable cs))
fitting_printable max_bytes cs = filled_shown max_bytes [] (printable cs) (NoCharPasses-nil is_control) (none_pass cs)

-- 3. Bytes that are not UTF-8

pub no_utf8 : (bytes : List ℕ) → (IsUtf8 bytes → ⊥) → is_utf8 bytes ≡ false
no_utf8 bytes none = elim (cases_Bool (is_utf8 bytes)) [
  | inl is ↦ absurd (none (IsUtf8-from_is_utf8 bytes is))
  | inr other ↦ other
]
