-- Texts of printable ASCII
use Rattle.std.proofs.Common.{◌≡◌, ℕ, zero, suc, ◌+◌, ◌/◌, ◌%◌, ◌==◌, ◌≤◌, nat_le, nat_lt, true, false, List, [], ◌∷◌, ◌++◌, if◌then◌else◌, decimal}
use Rattle.std.proofs.Common.{refl, arith}
use Rattle.std.proofs.lemmas.Bool.{and_parts, and_from, cond_both, le-leb}
use Rattle.std.specs.List.{list_all}
use Rattle.std.specs.Fmt.{digit_glyph, digits, digits_onto}
use Rattle.job_text.specs.Notes.{is_shown}

abbrev pub Shown : List ℕ → Type 0
Shown xs = list_all is_shown xs ≡ true

pub shown_both : (xs ys : List ℕ) → Shown xs → Shown ys → Shown (xs ++ ys)
shown_both [] ys a b = b
shown_both (x ∷ xs) ys a b =
    let parts = and_parts (is_shown x) (list_all is_shown xs) a in
    and_from (is_shown x) (list_all is_shown (xs ++ ys)) parts.0 (shown_both xs ys parts.1 b)

shown_byte : (c : ℕ) → 32 ≤ c → c ≤ 126 → is_shown c ≡ true
shown_byte c low high = and_from (nat_le 32 c) (nat_le c 126) (le-leb 32 c low) (le-leb c 126 high)

digit_shown : (n : ℕ) → is_shown (digit_glyph false (n % 10)) ≡ true
digit_shown n =
    cond_both (nat_lt (n % 10) 10) (48 + n % 10) (87 + n % 10) (λ c. is_shown c ≡ true)
    (λ _. shown_byte (48 + n % 10) (omega arith) (omega arith))
    (λ _. shown_byte (87 + n % 10) (omega arith) (omega arith))

digits_shown : (k n : ℕ) (acc : List ℕ) → Shown acc → Shown (digits_onto k 10 false n acc)
digits_shown zero n acc e = e
digits_shown (suc k) n acc e =
    let more = and_from (is_shown (digit_glyph false (n % 10))) (list_all is_shown acc) (digit_shown n) e in
    cond_both (n / 10 == 0) (digit_glyph false (n % 10) ∷ acc) (digits_onto k 10 false (n / 10) (digit_glyph false (n % 10) ∷ acc)) Shown
    (λ _. more) (λ _. digits_shown k (n / 10) (digit_glyph false (n % 10) ∷ acc) more)

pub decimal_shown : (n : ℕ) → Shown (decimal n)
unfolding digits
decimal_shown n = digits_shown 64 n [] refl

pub three_shown : (a b c : ℕ) → Shown (decimal a ++ (decimal b ++ decimal c))
three_shown a b c =
    shown_both (decimal a) (decimal b ++ decimal c) (decimal_shown a) (shown_both (decimal b) (decimal c) (decimal_shown b) (decimal_shown c))
