-- The positions of the own slots of a repeated period
use Rattle.std.proofs.Common.{◌≡◌, ℕ, zero, suc, ◌+◌, ◌*◌, ◌/◌, ◌%◌, ◌<◌, ◌≤◌, Bool, true, false, List, [], ◌∷◌, length, get_or, refl, ap, sym, ◌∙◌, arith}
use Rattle.std.proofs.Math.Nat.{add-zero, zero-mul, mod-eq_of_lt, add-mod_right, add-mul-mod_self_right, div-add-mod', div-eq_of_lt}
use Rattle.std.proofs.lemmas.Nat.{mod_below}
use Rattle.std.proofs.lemmas.Bool.{cases_lt}
use Rattle.std.proofs.Common.{inl, inr}
use Rattle.own_slots.specs.Slots.{own_before}
use Rattle.own_slots.specs.Period.{own, places, per_period, position, PositionsLaw}
use Rattle.own_slots.proofs.Counts.{own_before_front, own_before_same, same_number, own_before_lt, before_from}

-- ---- One period

-- The marks of a list; no slot past its end is marked
abbrev marked : List Bool → ℕ → Bool
marked marks s = get_or marks s false

-- Place number i, counted from b, lies q slots later; it is marked, and i marked slots lie before it.
record Placed (marks : List Bool) (b i : ℕ) : Type 0 where
  q : ℕ
  within : q < length marks
  place : get_or (places b marks) i 0 ≡ b + q
  is_marked : marked marks q ≡ true
  number : own_before (marked marks) q ≡ i

counted_true : (marks : List Bool) (s i : ℕ) → own_before (marked marks) s ≡ i → own_before (marked (true ∷ marks)) (suc s) ≡ suc i
counted_true marks s i e = own_before_front (marked (true ∷ marks)) s ∙ omega (arith, e)

counted_false : (marks : List Bool) (s i : ℕ) → own_before (marked marks) s ≡ i → own_before (marked (false ∷ marks)) (suc s) ≡ i
counted_false marks s i e = own_before_front (marked (false ∷ marks)) s ∙ omega (arith, e)

place_at : (marks : List Bool) (b i : ℕ) → i < length (places b marks) → Placed marks b i
unfolding places own_before
place_at [] b i lt = absurd (omega arith)
place_at (true ∷ marks) b zero lt = record { q = 0; within = omega arith; place = omega arith; is_marked = refl; number = refl }
place_at (true ∷ marks) b (suc i) lt = let r : Placed marks (suc b) i = place_at marks (suc b) i (omega arith) in
    record { q = suc r.q; within = omega (arith, r.within); place = r.place ∙ omega arith; is_marked = r.is_marked; number = counted_true marks r.q i r.number }
place_at (false ∷ marks) b i lt = let r : Placed marks (suc b) i = place_at marks (suc b) i lt in
    record {
      q = suc r.q;
      within = omega (arith, r.within);
      place = r.place ∙ omega arith;
      is_marked = r.is_marked;
      number =
          counted_false marks r.q i r.number;
    }

counted_all : (marks : List Bool) (b : ℕ) → own_before (marked marks) (length marks) ≡ length (places b marks)
unfolding places own_before
counted_all [] b = refl
counted_all (true ∷ marks) b = counted_true marks (length marks) (length (places (suc b) marks)) (counted_all marks (suc b))
counted_all (false ∷ marks) b = counted_false marks (length marks) (length (places (suc b) marks)) (counted_all marks (suc b))

places_le : (marks : List Bool) (b : ℕ) → length (places b marks) ≤ length marks
unfolding places
places_le [] b = omega arith
places_le (true ∷ marks) b = omega (arith, places_le marks (suc b))
places_le (false ∷ marks) b = omega (arith, places_le marks (suc b))

-- ---- The period repeated

pub per_period_le : (marks : List Bool) → per_period marks ≤ length marks
per_period_le marks = places_le marks 0

own_within : (marks : List Bool) (s : ℕ) → s < length marks → own marks s ≡ marked marks s
own_within marks s lt = let e : s % length marks ≡ s = mod-eq_of_lt lt in rw e refl

own_before_within : (marks : List Bool) (s : ℕ) → s ≤ length marks → own_before (own marks) s ≡ own_before (marked marks) s
own_before_within marks s le = own_before_same (own marks) (marked marks) s (λ t lt. own_within marks t (omega arith))

pub own_before_period : (marks : List Bool) → own_before (own marks) (length marks) ≡ per_period marks
own_before_period marks = own_before_within marks (length marks) (omega arith) ∙ counted_all marks 0

own_turn : (marks : List Bool) (s : ℕ) → own marks (s + length marks) ≡ own marks s
own_turn marks s = rw (add-mod_right s (length marks)) refl

own_before_turn : (marks : List Bool) (s : ℕ) → own_before (own marks) (s + length marks) ≡ own_before (own marks) s + per_period marks
own_before_turn marks zero = let e : zero + length marks ≡ length marks = omega arith in
    rw (e, own_before_period marks) (zero_own_before marks)
  where
    zero_own_before : (marks : List Bool) → per_period marks ≡ own_before (own marks) zero + per_period marks
    zero_own_before marks = unfold own_before in omega arith
own_before_turn marks (suc s) = let e : suc s + length marks ≡ suc (s + length marks) = omega arith in
    rw e (one_more marks s (own_before_turn marks s))
  where
    one_more : (marks : List Bool) (s : ℕ) → own_before (own marks) (s + length marks) ≡ own_before (own marks) s + per_period marks →
        own_before (own marks) (suc (s + length marks)) ≡ own_before (own marks) (suc s) + per_period marks
    one_more marks s e = unfold own_before in rw (own_turn marks s, e) (omega arith)

pub own_before_turns : (marks : List Bool) (s y : ℕ) → own_before (own marks) (s + y * length marks) ≡ own_before (own marks) s + y * per_period marks
own_before_turns marks s zero = rw (zero-mul, zero-mul, add-zero, add-zero) refl
own_before_turns marks s (suc y) =
    let e : s + suc y * length marks ≡ (s + y * length marks) + length marks = omega arith in
    rw e (own_before_turn marks (s + y * length marks) ∙ omega (arith, own_before_turns marks s y))

own_turns : (marks : List Bool) (q y : ℕ) → q < length marks → own marks (q + y * length marks) ≡ marked marks q
own_turns marks q y lt = let e : (q + y * length marks) % length marks ≡ q = add-mul-mod_self_right q y (length marks) ∙ mod-eq_of_lt lt in rw e refl

pub position_at : (marks : List Bool) (i : ℕ) → 0 < per_period marks →
    (own marks (position marks i) ≡ true) × (own_before (own marks) (position marks i) ≡ i) × (position marks (i % per_period marks) < length marks)
position_at marks i pos =
    let r : Placed marks 0 (i % per_period marks) = place_at marks 0 (i % per_period marks) (mod_below i (per_period marks) pos) in
    let e : position marks i ≡ r.q + i / per_period marks * length marks = ap (λ n. n + i / per_period marks * length marks) (r.place ∙ omega arith) in
    let n : own_before (own marks) r.q ≡ i % per_period marks = own_before_within marks r.q (omega (arith, r.within)) ∙ r.number in (
      rw e (own_turns marks r.q (i / per_period marks) r.within ∙ r.is_marked),
      rw e (own_before_turns marks r.q (i / per_period marks) ∙ omega (arith, n, div-add-mod' i (per_period marks))),
      within marks i pos r,
    )
  where
    within : (marks : List Bool) (i : ℕ) → 0 < per_period marks → Placed marks 0 (i % per_period marks) → position marks (i % per_period marks) < length marks
    within marks i pos r =
        let small : i % per_period marks < per_period marks = mod_below i (per_period marks) pos in
        let e : i % per_period marks % per_period marks ≡ i % per_period marks = mod-eq_of_lt small in
        let z : i % per_period marks / per_period marks ≡ 0 = div-eq_of_lt small in
        rw (e, z, zero-mul, add-zero, r.place) (omega (arith, r.within))

pub positions_law : PositionsLaw
positions_law marks pos = record {
  is_own = λ i. (position_at marks i pos).0;
  counted = λ i. (position_at marks i pos).1;
  found = λ s y. same_number (own marks) (position marks (own_before (own marks) s)) s ((position_at marks (own_before (own marks) s) pos).0) y
      ((position_at marks (own_before (own marks) s) pos).1);
}

-- ---- Positions, one by one

-- A position lies before the period's end exactly if its number belongs to the first period.
pub position_below : (marks : List Bool) (i : ℕ) → 0 < per_period marks → i < per_period marks → position marks i < length marks
position_below marks i pos lt = before_from (own marks) (position marks i) (length marks) (omega (arith, (position_at marks i pos).1, own_before_period marks))

pub position_turns : (marks : List Bool) (i y : ℕ) → 0 < per_period marks → position marks (i + y * per_period marks) ≡ position marks i + y * length marks
position_turns marks i y pos = same_number (own marks) (position marks (i + y * per_period marks)) (position marks i + y * length marks)
    ((position_at marks (i + y * per_period marks) pos).0)
    (rw (add-mul-mod_self_right (position marks i) y (length marks)) ((position_at marks i pos).0))
    ((position_at marks (i + y * per_period marks) pos).1
    ∙ sym (own_before_turns marks (position marks i) y ∙ ap (λ n. n + y * per_period marks) ((position_at marks i pos).1)))

pub position_le : (marks : List Bool) (i j : ℕ) → 0 < per_period marks → i ≤ j → position marks i ≤ position marks j
position_le marks i j pos le = elim (cases_lt (position marks j) (position marks i)) [
  | inl k ↦ absurd
      (omega (
        arith,
        (position_at marks i pos).1,
        (position_at marks j pos).1,
        own_before_lt (own marks) (position marks j) (position marks i) ((position_at marks j pos).0) k,
      ))
  | inr k ↦ k
]
