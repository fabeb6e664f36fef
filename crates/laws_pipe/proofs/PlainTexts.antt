-- The written form of a value contains no newline, if its text contains none.
use Rattle.std.proofs.Common.{◌≡◌, ℕ, zero, suc, ◌+◌, ◌/◌, ◌%◌, ◌==◌, ◌||◌, nat_lt, Bool, true, false, cond, List, [], ◌∷◌, ◌++◌, slice_index, refl, ap, arith}
use Rattle.std.proofs.Common.{codes, decimal}
use Rattle.std.specs.Fmt.{digit_glyph, digits, digits_onto}
use Rattle.std.proofs.lemmas.Bool.{and_parts, cond_both, or_from}
use Rattle.hex.specs.Hex.{encode_lower, encode_with, lower_digits}
use Rattle.toml_parser.specs.Lexical.{apostrophe, backslash, line_feed, quote}
use Rattle.toml_writer.specs.Text.{Encoding, basic, encoded, encoding_of, escape_letter, escape_text, escaped, has, literal, multi_basic, multi_literal}
use Rattle.toml_writer.specs.Text.{needs_escape, opening_newline, quotes_after, string_text}
use Rattle.laws_pipe.proofs.PlainLines.{flat_both, flat_more, inside_ne, is_flat, is_inside, not_end}

-- 1. Numbers

glyph_inside : (upper : Bool) (d : ℕ) → is_inside (digit_glyph upper d) ≡ true
glyph_inside upper d =
    cond_both (nat_lt d 10) (48 + d) (cond upper (55 + d) (87 + d)) (λ c. is_inside c ≡ true) (λ e. inside_ne (48 + d) (λ n. omega (arith, n)))
    (λ e. cond_both upper (55 + d) (87 + d) (λ c. is_inside c ≡ true) (λ f. inside_ne (55 + d) (λ n. omega (arith, n)))
    (λ f. inside_ne (87 + d) (λ n. omega (arith, n))))

digits_flat : (k : ℕ) (base n : ℕ) (upper : Bool) (acc : List ℕ) → is_flat acc ≡ true → is_flat (digits_onto k base upper n acc) ≡ true
digits_flat zero base n upper acc e = e
digits_flat (suc k) base n upper acc e =
    let more = flat_more (digit_glyph upper (n % base)) acc (glyph_inside upper (n % base)) e in
    cond_both (n / base == 0) (digit_glyph upper (n % base) ∷ acc) (digits_onto k base upper (n / base) (digit_glyph upper (n % base) ∷ acc))
    (λ l. is_flat l ≡ true) (λ _. more)
    (λ _. digits_flat k base (n / base) upper (digit_glyph upper (n % base) ∷ acc) more)

pub decimal_flat : (n : ℕ) → is_flat (decimal n) ≡ true
unfolding digits
decimal_flat n = digits_flat 64 10 n false [] refl

index_inside : (t : List ℕ) (i : ℕ) → is_flat t ≡ true → is_inside (slice_index t i) ≡ true
index_inside [] i e = refl
index_inside (x ∷ t) zero e = (and_parts (is_inside x) (is_flat t) e).0
index_inside (x ∷ t) (suc i) e = index_inside t i (and_parts (is_inside x) (is_flat t) e).1

pub hex_flat : (bytes : List ℕ) → is_flat (encode_lower bytes) ≡ true
unfolding encode_with
hex_flat [] = refl
hex_flat (b ∷ bytes) =
    flat_more (slice_index lower_digits (b / 16)) (slice_index lower_digits (b % 16) ∷ encode_lower bytes) (index_inside lower_digits (b / 16) refl)
    (flat_more (slice_index lower_digits (b % 16)) (encode_lower bytes) (index_inside lower_digits (b % 16) refl) (hex_flat bytes))

-- 2. Strings

-- The letter of an escape is no newline.
letter_inside : (c : ℕ) → is_inside c ≡ true → is_inside (escape_letter c) ≡ true
letter_inside c e =
    let P : ℕ → Type 0 = λ n. is_inside n ≡ true in
    cond_both (c == 8) 98 _ P (λ _. refl) (λ _.
    cond_both (c == 9) 116 _ P (λ _. refl) (λ _.
    cond_both (c == 10) 110 _ P (λ _. refl) (λ _.
    cond_both (c == 12) 102 _ P (λ _. refl) (λ _.
    cond_both (c == 13) 114 _ P (λ _. refl) (λ _.
    cond_both (c == quote || c == backslash) c 0 P (λ _. e) (λ _. refl))))))

escape_flat : (c : ℕ) → is_inside c ≡ true → is_flat (escape_text c) ≡ true
escape_flat c e =
    let a = flat_more (digit_glyph true (c % 16)) [] (glyph_inside true (c % 16)) refl in
    let b = flat_more (digit_glyph true (c / 16)) (digit_glyph true (c % 16) ∷ []) (glyph_inside true (c / 16)) a in
    cond_both (escape_letter c == 0) (codes "\\u00" ++ digit_glyph true (c / 16) ∷ digit_glyph true (c % 16) ∷ []) (backslash ∷ escape_letter c ∷ [])
    (λ l. is_flat l ≡ true)
    (λ _. flat_both (codes "\\u00") (digit_glyph true (c / 16) ∷ digit_glyph true (c % 16) ∷ []) refl b)
    (λ _. flat_more backslash (escape_letter c ∷ []) refl (flat_more (escape_letter c) [] (letter_inside c e) refl))

escaped_flat : (multi : Bool) (quotes : ℕ) (s : List ℕ) → is_flat s ≡ true → is_flat (escaped multi quotes s) ≡ true
unfolding escaped
escaped_flat multi quotes [] e = refl
escaped_flat multi quotes (c ∷ s) e =
    let parts = and_parts (is_inside c) (is_flat s) e in
    flat_both (cond (needs_escape multi quotes c) (escape_text c) (c ∷ [])) (escaped multi (quotes_after multi quotes c) s)
    (cond_both (needs_escape multi quotes c) (escape_text c) (c ∷ []) (λ l. is_flat l ≡ true) (λ _. escape_flat c parts.0) (λ _. flat_more c [] parts.0 refl))
    (escaped_flat multi (quotes_after multi quotes c) s parts.1)

none_ends : (s : List ℕ) → is_flat s ≡ true → has line_feed s ≡ false
none_ends [] e = refl
none_ends (c ∷ s) e =
    let parts = and_parts (is_inside c) (is_flat s) e in
    or_from (c == 10) (has line_feed s) (not_end c parts.0) (none_ends s parts.1)

opening_flat : (s : List ℕ) → is_flat s ≡ true → is_flat (opening_newline s) ≡ true
opening_flat s e = ap (λ (b : Bool). is_flat (cond b (line_feed ∷ []) [])) (none_ends s e)

encoded_flat : (form : Encoding) (s : List ℕ) → is_flat s ≡ true → is_flat (encoded form s) ≡ true
encoded_flat basic s e = flat_more quote (escaped false 0 s ++ quote ∷ []) refl (flat_both (escaped false 0 s) (quote ∷ []) (escaped_flat false 0 s e) refl)
encoded_flat literal s e = flat_more apostrophe (s ++ apostrophe ∷ []) refl (flat_both s (apostrophe ∷ []) e refl)
encoded_flat multi_basic s e =
    flat_both (codes "\"\"\"") (opening_newline s ++ (escaped true 0 s ++ codes "\"\"\"")) refl
    (flat_both (opening_newline s) (escaped true 0 s ++ codes "\"\"\"") (opening_flat s e)
    (flat_both (escaped true 0 s) (codes "\"\"\"") (escaped_flat true 0 s e) refl))
encoded_flat multi_literal s e =
    flat_both (codes "'''") (opening_newline s ++ (s ++ codes "'''")) refl
    (flat_both (opening_newline s) (s ++ codes "'''") (opening_flat s e) (flat_both s (codes "'''") e refl))

pub string_flat : (s : List ℕ) → is_flat s ≡ true → is_flat (string_text s) ≡ true
unfolding string_text
string_flat s e = encoded_flat (encoding_of s) s e
