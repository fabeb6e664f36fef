-- The meaning of a reader's tests, and parts of joined lists
use Rattle.std.proofs.Common.{◌≡◌, ℕ, Bool, true, false, cond, Ok, Err, refl, List, ◌++◌, length, take, drop, sym}
use Rattle.std.proofs.Math.Seq.{take-append_seam, drop-append_seam}

-- An accepting test that let a value pass
pub accepted : {A E : Type 0} (b : Bool) (x : A) (d : E) (y : A) → cond b (Ok x) (Err d) ≡ Ok y → (b ≡ true) × (x ≡ y)
accepted true x d y e = (refl, cc)
accepted false x d y e = absurd cc

pub taken : (n : ℕ) (xs ys : List ℕ) → length xs ≡ n → take n (xs ++ ys) ≡ xs
taken n xs ys e = rw (sym e) (take-append_seam xs ys)

pub dropped : (n : ℕ) (xs ys : List ℕ) → length xs ≡ n → drop n (xs ++ ys) ≡ ys
dropped n xs ys e = rw (sym e) (drop-append_seam xs ys)
