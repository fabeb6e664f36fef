-- Bytes of the check word: a step by one byte is linear for exclusive or, and a register that takes its own bytes is only shifted.
use Rattle.std.proofs.Common.{◌≡◌, ℕ, ◌*◌, ◌/◌, ◌%◌, ◌^◌, ◌<◌, bit_xor, refl, sym, ap, ap₂, ◌∙◌, arith, List, [], ◌∷◌, ◌++◌, lit<}
use Rattle.std.proofs.lemmas.Nat.{xor_shr, xor_mod}
use Rattle.std.specs.Int.Bits.{xor_assoc, xor_self, xor_zero_r}
use Rattle.psi_tables.specs.CheckWord.{after_bit, after_bits, bits_of, after_byte, after_bytes, check_word}
use Rattle.psi_tables.proofs.Registers.{after_bit-xor, after_bit-bound, after_own_bit}

-- The left parts of pairs, their right parts, and the exclusive or of both
pub lefts : List (ℕ × ℕ) → List ℕ
lefts [] = []
lefts (p ∷ ps) = p.0 ∷ lefts ps

pub rights : List (ℕ × ℕ) → List ℕ
rights [] = []
rights (p ∷ ps) = p.1 ∷ rights ps

pub joined : List (ℕ × ℕ) → List ℕ
joined [] = []
joined (p ∷ ps) = bit_xor p.0 p.1 ∷ joined ps

abbrev pub AllBelow : ℕ → List (ℕ × ℕ) → Type 0
AllBelow n [] = Unit {0}
AllBelow n (p ∷ ps) = (p.0 < n) × (p.1 < n) × AllBelow n ps

pub after_bits-xor : (r s : ℕ) (ps : List (ℕ × ℕ)) → r < 2 ^ 32 → s < 2 ^ 32 → AllBelow 2 ps
    → after_bits (bit_xor r s) (joined ps) ≡ bit_xor (after_bits r (lefts ps)) (after_bits s (rights ps))
unfolding after_bits lefts rights joined
after_bits-xor r s [] hr hs _ = refl
after_bits-xor r s (p ∷ ps) hr hs h =
    ap (λ (x : ℕ). after_bits x (joined ps)) (after_bit-xor r s p.0 p.1 hr hs h.0 h.1)
    ∙ after_bits-xor (after_bit r p.0) (after_bit s p.1) ps (after_bit-bound r p.0 hr h.0) (after_bit-bound s p.1 hs h.1) h.2

pub after_bits-bound : (r : ℕ) (ps : List (ℕ × ℕ)) → r < 2 ^ 32 → AllBelow 2 ps → after_bits r (lefts ps) < 2 ^ 32
unfolding after_bits lefts
after_bits-bound r [] h _ = h
after_bits-bound r (p ∷ ps) h k = after_bits-bound (after_bit r p.0) ps (after_bit-bound r p.0 h k.0) k.2

-- Bit k of an exclusive or is the exclusive or of the two bits k.
bit-xor : (x y k : ℕ) → bit_xor x y / 2 ^ k % 2 ≡ bit_xor (x / 2 ^ k % 2) (y / 2 ^ k % 2)
bit-xor x y k = ap (λ (n : ℕ). n % 2) (xor_shr x y k) ∙ xor_mod (x / 2 ^ k) (y / 2 ^ k) 1

-- The bits of two bytes, in pairs
bit_pairs : ℕ → ℕ → List (ℕ × ℕ)
bit_pairs x y = (x / 128 % 2, y / 128 % 2) ∷ (x / 64 % 2, y / 64 % 2) ∷ (x / 32 % 2, y / 32 % 2) ∷ (x / 16 % 2, y / 16 % 2)
    ∷ (x / 8 % 2, y / 8 % 2) ∷ (x / 4 % 2, y / 4 % 2) ∷ (x / 2 % 2, y / 2 % 2) ∷ (x % 2, y % 2) ∷ []

bit_pairs-below : (x y : ℕ) → AllBelow 2 (bit_pairs x y)
unfolding bit_pairs
bit_pairs-below x y = (
  omega arith,
  omega arith,
  (
    omega arith,
    omega arith,
    (
      omega arith,
      omega arith,
      (
        omega arith,
        omega arith,
        (omega arith, omega arith, (omega arith, omega arith, (omega arith, omega arith, (omega arith, omega arith, tt)))),
      ),
    ),
  ),
)

bits_of-lefts : (x y : ℕ) → lefts (bit_pairs x y) ≡ bits_of x
unfolding bits_of lefts bit_pairs
bits_of-lefts x y = refl

bits_of-rights : (x y : ℕ) → rights (bit_pairs x y) ≡ bits_of y
unfolding bits_of rights bit_pairs
bits_of-rights x y = refl

bits_of-xor : (x y : ℕ) → bits_of (bit_xor x y) ≡ joined (bit_pairs x y)
unfolding bits_of joined bit_pairs
bits_of-xor x y =
    let e7 = bit-xor x y 7 in
    let e6 = bit-xor x y 6 in
    let e5 = bit-xor x y 5 in
    let e4 = bit-xor x y 4 in
    let e3 = bit-xor x y 3 in
    let e2 = bit-xor x y 2 in
    let e1 = bit-xor x y 1 in
    let e0 = xor_mod x y 1 in
    cc

-- A step by one byte is linear for exclusive or of registers and bytes.
pub after_byte-xor : (r s x y : ℕ) → r < 2 ^ 32 → s < 2 ^ 32 → after_byte (bit_xor r s) (bit_xor x y) ≡ bit_xor (after_byte r x) (after_byte s y)
unfolding after_byte
after_byte-xor r s x y hr hs =
    ap (λ (bs : List ℕ). after_bits (bit_xor r s) bs) (bits_of-xor x y)
    ∙ after_bits-xor r s (bit_pairs x y) hr hs (bit_pairs-below x y)
    ∙ ap₂ (λ (a b : List ℕ). bit_xor (after_bits r a) (after_bits s b)) (bits_of-lefts x y) (bits_of-rights x y)

pub after_byte-bound : (r x : ℕ) → r < 2 ^ 32 → after_byte r x < 2 ^ 32
unfolding after_byte
after_byte-bound r x h =
    let P : List ℕ → Type 0 = λ bs. after_bits r bs < 2 ^ 32 in
    rw (← bits_of-lefts x x) (after_bits-bound r (bit_pairs x x) h (bit_pairs-below x x))

-- A register that takes its own highest byte is only shifted.
pub after_own_byte : (r h : ℕ) → r < 2 ^ 32 → r / 2 ^ 24 ≡ h → after_byte r h ≡ r * 2 ^ 8 % 2 ^ 32
unfolding after_byte bits_of after_bits
after_own_byte r h k e =
    let r1 : ℕ = r * 2 % 2 ^ 32 in
    let r2 : ℕ = r1 * 2 % 2 ^ 32 in
    let r3 : ℕ = r2 * 2 % 2 ^ 32 in
    let r4 : ℕ = r3 * 2 % 2 ^ 32 in
    let r5 : ℕ = r4 * 2 % 2 ^ 32 in
    let r6 : ℕ = r5 * 2 % 2 ^ 32 in
    let r7 : ℕ = r6 * 2 % 2 ^ 32 in
    rw (
      after_own_bit r (h / 128 % 2) (omega arith),
      after_own_bit r1 (h / 64 % 2) (omega arith),
      after_own_bit r2 (h / 32 % 2) (omega arith),
      after_own_bit r3 (h / 16 % 2) (omega arith),
      after_own_bit r4 (h / 8 % 2) (omega arith),
      after_own_bit r5 (h / 4 % 2) (omega arith),
      after_own_bit r6 (h / 2 % 2) (omega arith),
      after_own_bit r7 (h % 2) (omega arith),
    ) (omega arith)

-- A step by one byte is a shift and an exclusive or with an entry of the table.
pub after_byte_is : (r x : ℕ) → r < 2 ^ 32 → after_byte r x ≡ bit_xor (r * 2 ^ 8 % 2 ^ 32) (after_byte 0 (bit_xor (r / 2 ^ 24) x))
after_byte_is r x h =
    let top : ℕ = r / 2 ^ 24 in
    let same : x ≡ bit_xor top (bit_xor top x) = sym (sym (xor_assoc top top x) ∙ ap (λ (n : ℕ). bit_xor n x) (xor_self top)) in
    ap₂ (λ (a b : ℕ). after_byte a b) (sym (xor_zero_r r)) same
    ∙ after_byte-xor r 0 top (bit_xor top x) h (lit< tt)
    ∙ ap (λ (n : ℕ). bit_xor n (after_byte 0 (bit_xor top x))) (after_own_byte r top h refl)

pub after_bytes-append : (r : ℕ) (xs ys : List ℕ) → after_bytes r (xs ++ ys) ≡ after_bytes (after_bytes r xs) ys
unfolding after_bytes
after_bytes-append r [] ys = refl
after_bytes-append r (x ∷ xs) ys = after_bytes-append (after_byte r x) xs ys

pub after_bytes-bound : (r : ℕ) (xs : List ℕ) → r < 2 ^ 32 → after_bytes r xs < 2 ^ 32
unfolding after_bytes
after_bytes-bound r [] h = h
after_bytes-bound r (x ∷ xs) h = after_bytes-bound (after_byte r x) xs (after_byte-bound r x h)

-- A register that takes its own four bytes becomes 0.
pub after_own_bytes : (r : ℕ) → r < 2 ^ 32 → after_bytes r ((r / 2 ^ 24) ∷ (r / 2 ^ 16 % 256) ∷ (r / 2 ^ 8 % 256) ∷ (r % 256) ∷ []) ≡ 0
unfolding after_bytes
after_own_bytes r h =
    let r1 : ℕ = r * 2 ^ 8 % 2 ^ 32 in
    let r2 : ℕ = r1 * 2 ^ 8 % 2 ^ 32 in
    let r3 : ℕ = r2 * 2 ^ 8 % 2 ^ 32 in
    rw (
      after_own_byte r (r / 2 ^ 24) h refl,
      after_own_byte r1 (r / 2 ^ 16 % 256) (omega arith) (omega arith),
      after_own_byte r2 (r / 2 ^ 8 % 256) (omega arith) (omega arith),
      after_own_byte r3 (r % 256) (omega arith) (omega arith),
    ) (omega arith)

-- A message followed by its check word leaves 0 in the register.
pub check_word-own : (xs : List ℕ)
    → check_word (xs ++ ((check_word xs / 2 ^ 24) ∷ (check_word xs / 2 ^ 16 % 256) ∷ (check_word xs / 2 ^ 8 % 256) ∷ (check_word xs % 256) ∷ [])) ≡ 0
unfolding check_word
check_word-own xs =
    let r : ℕ = after_bytes 0xFFFFFFFF xs in
    after_bytes-append 0xFFFFFFFF xs _ ∙ after_own_bytes r (after_bytes-bound 0xFFFFFFFF xs (lit< tt))
