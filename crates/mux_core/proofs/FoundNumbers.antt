-- The first number that passes a test, one number after another.
use Rattle.std.proofs.Common.{◌≡◌, ℕ, suc, ◌+◌, ◌-◌, ◌<◌, ◌≤◌, Bool, true, false, find, Some, None, ap, ◌∙◌, arith, if◌then◌else◌}
use Rattle.std.specs.List.{range_with_len}

pub found_next : (p : ℕ → Bool) (k n : ℕ) → k < n →
    find p (range_with_len k (n - k)) ≡ (if p k then Some k else find p (range_with_len (k + 1) (n - (k + 1))))
found_next p k n lt =
    let more : n - k ≡ suc (n - (k + 1)) = omega (arith, lt) in
    ap (λ (m : ℕ). find p (range_with_len k m)) more

pub found_here : (p : ℕ → Bool) (k n : ℕ) → k < n → p k ≡ true → find p (range_with_len k (n - k)) ≡ Some k
found_here p k n lt passes = found_next p k n lt ∙ ap (λ (b : Bool). if b then Some k else find p (range_with_len (k + 1) (n - (k + 1)))) passes

pub found_later : (p : ℕ → Bool) (k n : ℕ) → k < n → p k ≡ false → find p (range_with_len k (n - k)) ≡ find p (range_with_len (k + 1) (n - (k + 1)))
found_later p k n lt passes = found_next p k n lt ∙ ap (λ (b : Bool). if b then Some k else find p (range_with_len (k + 1) (n - (k + 1)))) passes

pub found_none : (p : ℕ → Bool) (k n : ℕ) → n ≤ k → find p (range_with_len k (n - k)) ≡ None
found_none p k n le = let none : n - k ≡ 0 = omega (arith, le) in ap (λ (m : ℕ). find p (range_with_len k m)) none
