-- The main buffer is fullest when a byte enters it.
use Rattle.std.proofs.Common.{◌≡◌, ℕ, ◌<◌, ◌≤◌, ◌⊎◌, cond, List, [], ◌∷◌, take, drop, refl, inl, inr, arith, All}
use Rattle.std.proofs.Math.Nat.{le_trans}
use Rattle.std.proofs.lemmas.Bool.{cases_lt}
use Rattle.std.proofs.lemmas.Bool.Decides.{nat_tests}
use Rattle.std.proofs.lemmas.List.Elements.{All-nil, All-cons, All-head, All-tail, All-take, All-drop, All-weaker}
use Rattle.std.proofs.lemmas.List.Sums.{sum_by-cons}
use Rattle.clock27.specs.Peak.{greatest_at}
use Rattle.unit_timing.specs.PesPacket.{PesPacket}
use Rattle.unit_timing.specs.MainBuffer.{is_in_main_buffer, mb_fullness, MainPeakLaw}
use Rattle.unit_timing.proofs.MainBufferBytes.{kept, kept_before}

-- Every byte that has entered by x has entered by y.
abbrev Covers : ℕ → ℕ → List ℕ → Type 0
Covers x y ds = All (λ d. d ≤ x → d ≤ y) ds

-- If y is no later than x and the byte has entered by y, the byte is there at y if it is there at x.
one_covered : (rate r x y due d : ℕ) → y ≤ x → (d ≤ x → d ≤ y) →
    (let n : ℕ = cond (is_in_main_buffer rate r x due d) 1 0 in n) ≤ (let n : ℕ = cond (is_in_main_buffer rate r y due d) 1 0 in n)
one_covered rate r x y due d le covers = elim (cases_lt x d) [
  | inl later ↦ grind (arith, nat_tests)
  | inr here ↦ let by : d ≤ y = covers here in grind (arith, nat_tests)
]

kept_covered : (rate r x y due : ℕ) (ds : List ℕ) → y ≤ x → Covers x y ds → kept rate r x due ds ≤ kept rate r y due ds
unfolding kept
kept_covered rate r x y due [] le covers = omega arith
kept_covered rate r x y due (d ∷ ds) le covers =
    rw (sum_by-cons (λ d. cond (is_in_main_buffer rate r x due d) 1 0) d ds, sum_by-cons (λ d. cond (is_in_main_buffer rate r y due d) 1 0) d ds)
    (omega (
      arith,
      one_covered rate r x y due d le (All-head (λ d. d ≤ x → d ≤ y) d ds covers),
      kept_covered rate r x y due ds le (All-tail (λ d. d ≤ x → d ≤ y) d ds covers),
    ))

fullness_covered : (rate r x y : ℕ) (units : List PesPacket) (left : List ℕ) → y ≤ x → Covers x y left →
    mb_fullness rate r x units left ≤ mb_fullness rate r y units left
unfolding mb_fullness kept
fullness_covered rate r x y [] left le covers = omega arith
fullness_covered rate r x y (unit ∷ units) left le covers =
    let first = kept_covered rate r x y unit.dts (take unit.size left) le (All-take (λ d. d ≤ x → d ≤ y) unit.size left covers) in
    let rest = fullness_covered rate r x y units (drop unit.size left) le (All-drop (λ d. d ≤ x → d ≤ y) unit.size left covers) in
    omega (arith, first, rest)

-- The main buffer is empty before the first byte enters it.
fullness_none : (rate r x : ℕ) (units : List PesPacket) (left : List ℕ) → All (λ d. x < d) left → mb_fullness rate r x units left ≡ 0
unfolding mb_fullness kept
fullness_none rate r x [] left all = refl
fullness_none rate r x (unit ∷ units) left all =
    let first = kept_before rate r x unit.dts (take unit.size left) (All-take (λ d. x < d) unit.size left all) in
    let rest = fullness_none rate r x units (drop unit.size left) (All-drop (λ d. x < d) unit.size left all) in
    omega (arith, first, rest)

-- The last entry up to x
record Entry (x : ℕ) (ds : List ℕ) : Type 0 where
  at : ℕ
  within : at ≤ x
  covers : Covers x at ds
  counted : (f : ℕ → ℕ) → f at ≤ greatest_at f ds

entry_more : (x d : ℕ) (ds : List ℕ) → All (λ d. x < d) ds ⊎ Entry x ds → All (λ d. x < d) (d ∷ ds) ⊎ Entry x (d ∷ ds)
unfolding greatest_at
entry_more x d ds (inl none) = elim (cases_lt x d) [
  | inl later ↦ inl (All-cons (λ d. x < d) d ds later none)
  | inr here ↦ inr (record {
    at = d;
    within = here;
    covers = All-cons (λ e. e ≤ x → e ≤ d) d ds (λ h. omega arith)
        (All-weaker (λ e. x < e) (λ e. e ≤ x → e ≤ d) (λ e lt h. absurd (omega (arith, lt, h))) ds none);
    counted = λ f. omega arith;
  })
]
entry_more x d ds (inr e) = elim (cases_lt x d) [
  | inl later ↦ inr (record {
    at = e.at;
    within = e.within;
    covers = All-cons (λ b. b ≤ x → b ≤ e.at) d ds (λ h. absurd (omega (arith, later, h))) e.covers;
    counted = λ f. omega (arith, e.counted f);
  })
  | inr here ↦ elim (cases_lt d e.at) [
    | inl before ↦ inr (record {
      at = e.at;
      within = e.within;
      covers = All-cons (λ b. b ≤ x → b ≤ e.at) d ds (λ h. omega (arith, before)) e.covers;
      counted = λ f. omega (arith, e.counted f);
    })
    | inr last ↦ inr (record {
      at = d;
      within = here;
      covers = All-cons (λ b. b ≤ x → b ≤ d) d ds (λ h. omega arith)
          (All-weaker (λ b. b ≤ x → b ≤ e.at) (λ b. b ≤ x → b ≤ d) (λ b k h. le_trans (k h) last) ds e.covers);
      counted = λ f. omega arith;
    })
  ]
]

entry : (x : ℕ) (ds : List ℕ) → All (λ d. x < d) ds ⊎ Entry x ds
entry x [] = inl (All-nil (λ d. x < d))
entry x (d ∷ ds) = entry_more x d ds (entry x ds)

-- The greatest value over a list of times is the value at a time of the list, unless the list is empty.
record Greatest (f : ℕ → ℕ) (most : ℕ) : Type 0 where
  at : ℕ
  is : f at ≡ most

greatest_reached : (f : ℕ → ℕ) (d : ℕ) (ds : List ℕ) → Greatest f (greatest_at f (d ∷ ds))
unfolding greatest_at
greatest_reached f d [] = record { at = d; is = omega arith }
greatest_reached f d (e ∷ ds) =
    let rest = greatest_reached f e ds in
    elim (cases_lt (f d) (greatest_at f (e ∷ ds))) [
      | inl more ↦ record { at = rest.at; is = omega (arith, rest.is, more) }
      | inr here ↦ record { at = d; is = omega (arith, here) }
    ]

never_more : (rate r : ℕ) (units : List PesPacket) (left : List ℕ) (x : ℕ) →
    mb_fullness rate r x units left ≤ greatest_at (λ x. mb_fullness rate r x units left) left
never_more rate r units left x = elim (entry x left) [
  | inl none ↦ omega (arith, fullness_none rate r x units left none)
  | inr e ↦ le_trans (fullness_covered rate r x e.at units left e.within e.covers) (e.counted (λ x. mb_fullness rate r x units left))
]

pub main_peak_law : MainPeakLaw
main_peak_law rate r units [] = record {
  never_more = never_more rate r units [];
  moment = 0;
  reached = unfold greatest_at in (fullness_none rate r 0 units [] (All-nil (λ d. 0 < d)));
}
main_peak_law rate r units (d ∷ left) =
    let g = greatest_reached (λ x. mb_fullness rate r x units (d ∷ left)) d left in
    record { never_more = never_more rate r units (d ∷ left); moment = g.at; reached = g.is }
