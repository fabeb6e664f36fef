-- The greatest fullness of a buffer is the number of bytes that leave in the longest residence of a byte.
use Rattle.std.proofs.Common.{◌≡◌, ◌∙◌, ◌+◌, ◌-◌, ◌≤◌, ◌<◌, ℕ, max, List, [], ◌∷◌, ◌++◌, arith, inl, inr}
use Rattle.std.proofs.Math.Nat.{add-div_right, div-eq_of_lt, div-mul-le_self}
use Rattle.std.proofs.lemmas.Nat.{le-div}
use Rattle.std.proofs.lemmas.Bool.{cases_lt}
use Rattle.std.proofs.lemmas.List.{append-nil}
use Rattle.clock27.specs.Peak.{found, most_found}
use Rattle.tstd.specs.declared.queue.Queue.{Queue}
use Rattle.tstd.specs.Queues.{all_arrived, greatest_residence, bytes_within}
use Rattle.tstd.proofs.QueueStates.{passed-longest}

-- No fewer bytes leave in a longer time.
within_more : (step a b : ℕ) → 0 < step → a ≤ b → bytes_within step a ≤ bytes_within step b
within_more step a b pos le =
    le-div (bytes_within step a) (b + (step - 1)) step pos (omega (arith, div-mul-le_self (a + (step - 1)) step, le))

within_max : (step a b : ℕ) → 0 < step → bytes_within step (max a b) ≡ max (bytes_within step a) (bytes_within step b)
within_max step a b pos = elim (cases_lt a b) [
  | inl less ↦
      let e : max a b ≡ b = omega (arith, less) in
      rw e (omega (arith, within_more step a b pos (omega (arith, less))))
  | inr more ↦
      let e : max a b ≡ a = omega (arith, more) in
      rw e (omega (arith, within_more step b a pos more))
]

-- The residence of a byte gives the number of bytes that it finds, and itself.
within_one : (step prev t : ℕ) → 0 < step → bytes_within step (max t prev + step - t) ≡ found step prev t
within_one step prev t pos =
    let e : (max t prev + step - t) + (step - 1) ≡ ((prev - t) + (step - 1)) + step = omega arith in
    rw e (add-div_right ((prev - t) + (step - 1)) pos)

pub most_residence : (step prev : ℕ) (ts : List ℕ) → 0 < step → bytes_within step (greatest_residence step prev ts) ≡ most_found step prev ts
unfolding greatest_residence most_found
most_residence step prev [] pos = div-eq_of_lt (omega (arith, pos))
most_residence step prev (t ∷ ts) pos =
    within_max step (max t prev + step - t) (greatest_residence step (max t prev + step) ts) pos
    ∙ omega (arith, within_one step prev t pos, most_residence step (max t prev + step) ts pos)

-- The longest residence of bytes that pass a buffer which was empty.
pub longest_arrived : (step : ℕ) (q : Queue) (ts : List ℕ) → q ≡ all_arrived (record { step = step; last = 0; longest_residence = 0 }) ts →
    q.longest_residence ≡ greatest_residence step 0 ts
unfolding greatest_residence
longest_arrived step q ts is =
    let start : Queue = record { step = step; last = 0; longest_residence = 0 } in
    let all = passed-longest start ts [] in
    let none : ts ++ [] ≡ ts = append-nil ts in
    rw is (omega (arith, rw none at all))
