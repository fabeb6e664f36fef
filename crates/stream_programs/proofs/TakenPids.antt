-- PIDs that are taken.
use Rattle.std.proofs.Common.{◌≡◌, ◌≤◌, ℕ, ◌+◌, true, List, sym, subst, inl, inr, arith}
use Rattle.std.proofs.Math.Nat.{eq-or-lt_of_le}
use Rattle.stream_programs.specs.FreePids.{is_taken, AreTaken}

pub taken_none : (from : ℕ) (taken : List ℕ) → AreTaken from from taken
taken_none from taken pid after below = absurd (let no : ⊥ = omega (arith, after, below) in no)

pub taken_more : (from to : ℕ) (taken : List ℕ) → AreTaken from to taken → is_taken to taken ≡ true → AreTaken from (to + 1) taken
taken_more from to taken all last pid after below = elim (eq-or-lt_of_le (let most : pid ≤ to = omega (arith, below) in most)) [
  | inl same ↦ subst (λ (p : ℕ). is_taken p taken ≡ true) (sym same) last
  | inr less ↦ all pid after less
]

pub taken_less : (from to less : ℕ) (taken : List ℕ) → less ≤ to → AreTaken from to taken → AreTaken from less taken
taken_less from to less taken le all pid after below = all pid after (omega (arith, below, le))
