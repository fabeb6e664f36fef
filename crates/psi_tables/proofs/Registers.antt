-- The effect of one bit on the register of the check word is linear for exclusive or.
use Rattle.std.proofs.Common.{◌≡◌, ℕ, zero, suc, ◌+◌, ◌*◌, ◌/◌, ◌%◌, ◌^◌, ◌<◌, ◌==◌, if◌then◌else◌, bit_xor, refl, sym, ap, ◌∙◌, arith, eq-eqb, lit<}
use Rattle.std.proofs.lemmas.Nat.{xor_block, xor_shr, xor_mod, xor_comm, xor_lt}
use Rattle.std.specs.Int.Bits.{xor_assoc, xor_zero_r}
use Rattle.psi_tables.specs.CheckWord.{after_bit}

-- The value that is joined to the shifted register, as a product
pub feedback : (p b : ℕ) → p < 2 → b < 2 → (x : ℕ) → (if p == b then x else bit_xor x 0x04C11DB7) ≡ bit_xor x (bit_xor p b * 0x04C11DB7)
feedback zero zero _ _ x = sym (xor_zero_r x)
feedback zero (suc zero) _ _ x = refl
feedback zero (suc (suc b)) _ k x = absurd (omega arith)
feedback (suc zero) zero _ _ x = refl
feedback (suc zero) (suc zero) _ _ x = sym (xor_zero_r x)
feedback (suc zero) (suc (suc b)) _ k x = absurd (omega arith)
feedback (suc (suc p)) b h _ x = absurd (omega arith)

-- The product is linear for exclusive or of bits.
pub product-xor : (x y : ℕ) → x < 2 → y < 2 → bit_xor x y * 0x04C11DB7 ≡ bit_xor (x * 0x04C11DB7) (y * 0x04C11DB7)
product-xor zero zero _ _ = refl
product-xor zero (suc zero) _ _ = refl
product-xor zero (suc (suc y)) _ k = absurd (omega arith)
product-xor (suc zero) zero _ _ = refl
product-xor (suc zero) (suc zero) _ _ = refl
product-xor (suc zero) (suc (suc y)) _ k = absurd (omega arith)
product-xor (suc (suc x)) y h _ = absurd (omega arith)

-- The middle two of four operands can be exchanged.
pub xor_middle : (a b c d : ℕ) → bit_xor (bit_xor a b) (bit_xor c d) ≡ bit_xor (bit_xor a c) (bit_xor b d)
xor_middle a b c d =
    xor_assoc a b (bit_xor c d)
    ∙ ap (λ (x : ℕ). bit_xor a x) (sym (xor_assoc b c d) ∙ ap (λ (x : ℕ). bit_xor x d) (xor_comm b c) ∙ xor_assoc c b d)
    ∙ sym (xor_assoc a c (bit_xor b d))

-- A shift to the left by one is linear for exclusive or.
pub shift-xor : (r s : ℕ) → bit_xor r s * 2 % 2 ^ 32 ≡ bit_xor (r * 2 % 2 ^ 32) (s * 2 % 2 ^ 32)
shift-xor r s =
    let double : (n : ℕ) → n * 2 ≡ n * 2 ^ 1 + 0 = λ n. omega arith in
    ap (λ (x : ℕ). x % 2 ^ 32)
    (double (bit_xor r s) ∙ sym (xor_block 1 r s 0 0 (lit< tt) (lit< tt)) ∙ ap (λ (x : ℕ). bit_xor x (s * 2 ^ 1 + 0)) (sym (double r))
    ∙ ap (λ (x : ℕ). bit_xor (r * 2) x) (sym (double s)))
    ∙ xor_mod (r * 2) (s * 2) 32

-- A step by one bit, as exclusive or alone
pub after_bit_is : (r b : ℕ) → r < 2 ^ 32 → b < 2 → after_bit r b ≡ bit_xor (r * 2 % 2 ^ 32) (bit_xor (r / 2 ^ 31) b * 0x04C11DB7)
unfolding after_bit
after_bit_is r b h k = let top : r / 2 ^ 31 < 2 = omega arith in feedback (r / 2 ^ 31) b top k (r * 2 % 2 ^ 32)

pub after_bit-bound : (r b : ℕ) → r < 2 ^ 32 → b < 2 → after_bit r b < 2 ^ 32
after_bit-bound r b h k =
    let top : r / 2 ^ 31 < 2 = omega arith in
    let differ : bit_xor (r / 2 ^ 31) b < 2 = xor_lt 1 (r / 2 ^ 31) b top k in
    let product : bit_xor (r / 2 ^ 31) b * 0x04C11DB7 < 2 ^ 32 = omega arith in
    rw (after_bit_is r b h k) (xor_lt 32 (r * 2 % 2 ^ 32) (bit_xor (r / 2 ^ 31) b * 0x04C11DB7) (omega arith) product)

-- A step by one bit is linear for exclusive or of registers and bits.
pub after_bit-xor : (r s b c : ℕ) → r < 2 ^ 32 → s < 2 ^ 32 → b < 2 → c < 2 → after_bit (bit_xor r s) (bit_xor b c) ≡ bit_xor (after_bit r b) (after_bit s c)
after_bit-xor r s b c hr hs hb hc =
    let tr : r / 2 ^ 31 < 2 = omega arith in
    let ts : s / 2 ^ 31 < 2 = omega arith in
    let p : ℕ = bit_xor (r / 2 ^ 31) b in
    let q : ℕ = bit_xor (s / 2 ^ 31) c in
    after_bit_is (bit_xor r s) (bit_xor b c) (xor_lt 32 r s hr hs) (xor_lt 1 b c hb hc)
    ∙ ap (λ (x : ℕ). bit_xor x (bit_xor (bit_xor r s / 2 ^ 31) (bit_xor b c) * 0x04C11DB7)) (shift-xor r s)
    ∙ ap (λ (x : ℕ). bit_xor (bit_xor (r * 2 % 2 ^ 32) (s * 2 % 2 ^ 32)) (x * 0x04C11DB7))
    (ap (λ (x : ℕ). bit_xor x (bit_xor b c)) (xor_shr r s 31) ∙ xor_middle (r / 2 ^ 31) (s / 2 ^ 31) b c)
    ∙ ap (λ (x : ℕ). bit_xor (bit_xor (r * 2 % 2 ^ 32) (s * 2 % 2 ^ 32)) x) (product-xor p q (xor_lt 1 (r / 2 ^ 31) b tr hb) (xor_lt 1 (s / 2 ^ 31) c ts hc))
    ∙ xor_middle (r * 2 % 2 ^ 32) (s * 2 % 2 ^ 32) (p * 0x04C11DB7) (q * 0x04C11DB7)
    ∙ ap (λ (x : ℕ). bit_xor x (bit_xor (s * 2 % 2 ^ 32) (q * 0x04C11DB7))) (sym (after_bit_is r b hr hb))
    ∙ ap (λ (x : ℕ). bit_xor (after_bit r b) x) (sym (after_bit_is s c hs hc))

-- A bit that equals the register's highest bit only shifts the register.
pub after_own_bit : (r b : ℕ) → r / 2 ^ 31 ≡ b → after_bit r b ≡ r * 2 % 2 ^ 32
unfolding after_bit
after_own_bit r b e = ap (λ (t : _). if t then r * 2 % 2 ^ 32 else bit_xor (r * 2 % 2 ^ 32) 0x04C11DB7) (eq-eqb (r / 2 ^ 31) b e)
