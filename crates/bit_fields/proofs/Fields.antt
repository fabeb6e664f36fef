-- Numbers and tables of consecutive fields, and tests of single bits.
use Rattle.std.proofs.Common.{◌≡◌, ℕ, zero, suc, ◌+◌, ◌*◌, ◌^◌, ◌<◌, ◌≤◌, ◌==◌, Bool, true, false, List, [], ◌∷◌, ◌++◌, length, refl, ◌∙◌, arith}
use Rattle.std.proofs.Math.Nat.{pow-succ', mul-le-mul_right}
use Rattle.std.proofs.lemmas.Nat.{pow-add}
use Rattle.bit_fields.specs.Fields.{number, number_from, fields, fields_from, width, bit, IsBytes}
use Rattle.bit_fields.specs.Laws.{BytesJoin, FieldsJoin}
use Rattle.bit_fields.proofs.ByteLists.{IsBytes-tail}

-- A number of one bit is read as a flag and written as the same bit.
pub bit_test : (m : ℕ) → m < 2 → bit (m == 1) ≡ m
bit_test zero h = refl
bit_test (suc zero) h = refl
bit_test (suc (suc m)) h = absurd (omega arith)

-- A flag's bit is read as the flag.
pub test_bit : (b : Bool) (m : ℕ) → m ≡ bit b → (m == 1) ≡ b
test_bit true m e = rw e refl
test_bit false m e = rw e refl

pub number_from-append : (n : ℕ) (a b : List ℕ) → number_from n (a ++ b) ≡ number_from (number_from n a) b
number_from-append n [] b = refl
number_from-append n (x ∷ a) b = number_from-append (n * 256 + x) a b

pub fields_from-append : (n : ℕ) (a b : List (ℕ × ℕ)) → fields_from n (a ++ b) ≡ fields_from (fields_from n a) b
fields_from-append n [] b = refl
fields_from-append n (f ∷ a) b = fields_from-append (n * 2 ^ f.0 + f.1) a b

-- The number before is shifted past the bytes.
number_from-shift : (n : ℕ) (b : List ℕ) → number_from n b ≡ n * 256 ^ length b + number b
number_from-shift n [] = omega arith
number_from-shift n (x ∷ b) =
    let p : number_from (n * 256 + x) b ≡ (n * 256 + x) * 256 ^ length b + number b = number_from-shift (n * 256 + x) b in
    let q : number_from x b ≡ x * 256 ^ length b + number b = number_from-shift x b in
    let s : 256 ^ suc (length b) ≡ 256 * 256 ^ length b = pow-succ' 256 (length b) in
    let z : 0 * 256 + x ≡ x = omega arith in
    rw (p, z, q, s) (grind arith)

-- The fields before are shifted past the widths.
fields_from-shift : (n : ℕ) (b : List (ℕ × ℕ)) → fields_from n b ≡ n * 2 ^ width b + fields b
fields_from-shift n [] = omega arith
fields_from-shift n (f ∷ b) =
    let p : fields_from (n * 2 ^ f.0 + f.1) b ≡ (n * 2 ^ f.0 + f.1) * 2 ^ width b + fields b = fields_from-shift (n * 2 ^ f.0 + f.1) b in
    let q : fields_from f.1 b ≡ f.1 * 2 ^ width b + fields b = fields_from-shift f.1 b in
    let s : 2 ^ (f.0 + width b) ≡ 2 ^ f.0 * 2 ^ width b = pow-add 2 f.0 (width b) in
    let z : 0 * 2 ^ f.0 + f.1 ≡ f.1 = omega arith in
    rw (p, z, q, s) (grind arith)

below : (a : List ℕ) → IsBytes a → number a < 256 ^ length a
below [] h = omega arith
below (x ∷ a) h =
    let q : number_from x a ≡ x * 256 ^ length a + number a = number_from-shift x a in
    let s : 256 ^ suc (length a) ≡ 256 * 256 ^ length a = pow-succ' 256 (length a) in
    let z : 0 * 256 + x ≡ x = omega arith in
    let rest : number a < 256 ^ length a = below a (IsBytes-tail x a h) in
    let first : x < 256 = h 0 in
    let m : x * 256 ^ length a ≤ 255 * 256 ^ length a = mul-le-mul_right (256 ^ length a) (omega arith) in
    rw (z, q, s) (omega (arith, rest, m))

pub bytes_join : BytesJoin
bytes_join = record {
  joined = λ a b. number_from-append 0 a b ∙ number_from-shift (number a) b;
  below = below;
}

pub fields_join : FieldsJoin
fields_join a b = fields_from-append 0 a b ∙ fields_from-shift (fields a) b
