-- Bytes that arrive at a constant rate.
use Rattle.std.proofs.Common.{◌≡◌, ℕ, zero, suc, ◌+◌, ◌-◌, ◌*◌, ◌^◌, ◌<◌, ◌≤◌, max, List, ◌∷◌, ◌++◌, length, refl, ap, arith, add-one, zero-add}
use Rattle.std.proofs.Math.Nat.{mul-le-mul_left}
use Rattle.clock27.specs.Arrival.{bytes_from}
use Rattle.tstd.specs.declared.queue.Queue.{Queue}
use Rattle.tstd.specs.Queues.{arrived, all_arrived}

-- The next byte of the bytes up to `end` arrives.
pub row_step : (q : Queue) (drain byte end : ℕ) → byte < end →
    all_arrived (arrived q (byte * drain)) (bytes_from drain (byte + 1) (end - (byte + 1))) ≡ all_arrived q (bytes_from drain byte (end - byte))
unfolding bytes_from
row_step q drain byte end below =
    let e : end - byte ≡ suc (end - (byte + 1)) = omega arith in
    let s : byte + 1 ≡ suc byte = add-one byte in
    rw e (rw s refl)

-- Byte number b leaves at (b + 1) * 2^57 at the latest.
pub row_pace : (byte drain last step : ℕ) → drain ≤ 2 ^ 56 → step ≤ 2 ^ 56 → last ≤ byte * 2 ^ 57 →
    max (byte * drain) last + step ≤ (byte + 1) * 2 ^ 57
row_pace byte drain last step slow short paced = omega (arith, mul-le-mul_left byte slow, short, paced)

-- No byte is left before `end`.
pub row_end : (q : Queue) (drain byte end : ℕ) → end ≤ byte → q ≡ all_arrived q (bytes_from drain byte (end - byte))
unfolding bytes_from
row_end q drain byte end le =
    let e : end - byte ≡ 0 = omega arith in
    rw e refl

-- Two rows of bytes, the second after the first.
pub row_split : (r i a b : ℕ) → bytes_from r i (a + b) ≡ bytes_from r i a ++ bytes_from r (i + a) b
unfolding bytes_from
row_split r i zero b = let e : i + 0 ≡ i = omega arith in rw (zero-add b, e) refl
row_split r i (suc a) b =
    let e : suc a + b ≡ suc (a + b) = omega arith in
    let f : i + suc a ≡ suc i + a = omega arith in
    rw (e, f) (ap (λ (ts : List ℕ). i * r ∷ ts) (row_split r (suc i) a b))

pub length-row : (r i n : ℕ) → length (bytes_from r i n) ≡ n
unfolding bytes_from
length-row r i zero = refl
length-row r i (suc n) = ap suc (length-row r (suc i) n)
