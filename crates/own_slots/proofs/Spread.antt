-- Spread of own slots: from one period to a pace over all time, and to the two extremes of one walk
use Rattle.std.proofs.Common.{false, max, min, ◌≡◌, ℕ, ◌+◌, ◌-◌, ◌*◌, ◌/◌, ◌%◌, ◌<◌, ◌≤◌, ◌⊎◌, Bool, true, cond, List, length, ap, sym, ◌∙◌, inl, inr, arith}
use Rattle.std.proofs.Common.{le_antisymm}
use Rattle.std.proofs.Math.Nat.{mod-add-div', mul-le-mul_left, mul-le-mul_right}
use Rattle.std.proofs.lemmas.Nat.{mod_below, le-div}
use Rattle.std.proofs.lemmas.Bool.{cases_Bool, cases_lt, cond-true, cond-false}
use Rattle.own_slots.specs.Slots.{own_before}
use Rattle.own_slots.specs.Period.{own, per_period, position}
use Rattle.own_slots.specs.Extremes.{greatest, least}
use Rattle.own_slots.specs.Spread.{spread, raised, highest, lowest, most_within, SpreadWalkLaw, PaceLaw, ShareLaw}
use Rattle.own_slots.proofs.Extremes.{at_most_greatest, greatest_at_most, greatest_reached, least_at_most, least_reached, greatest_none, greatest_more}
use Rattle.own_slots.proofs.Extremes.{least_more, least_none, least_below, Reached}
use Rattle.own_slots.proofs.Counts.{own_before_lt, before_from, windows_serve}
use Rattle.own_slots.proofs.PositionLemmas.{per_period_le, own_before_period, positions_law, position_below, position_turns}

-- ---- All own slots

spread_step : (c n a p q i j y z : ℕ) → (c * p + j * n) - (c * q + i * n) ≤ a →
    c * (p + y * n) + (j + z * c) * n ≤ c * (q + z * n) + (i + y * c) * n + a
spread_step c n a p q i j y z h = omega (arith, h)

-- A bound on the spread of one period bounds all own slots.
pub spreads_all : (marks : List Bool) (a : ℕ) → 0 < per_period marks → spread marks ≤ a → (i j : ℕ) →
    per_period marks * position marks i + j * length marks ≤ per_period marks * position marks j + i * length marks + a
spreads_all marks a pos le i j =
    let c : ℕ = per_period marks in
    let r : ℕ = i % c in let y : ℕ = i / c in
    let t : ℕ = j % c in let z : ℕ = j / c in
    let si : r + y * c ≡ i = mod-add-div' i c in
    let sj : t + z * c ≡ j = mod-add-div' j c in
    let row : greatest c (λ v. (c * position marks r + v * length marks) - (c * position marks v + r * length marks)) ≤ spread marks =
    at_most_greatest c (λ u. greatest c (λ v. (c * position marks u + v * length marks) - (c * position marks v + u * length marks))) r (mod_below i c pos) in
    let near : (c * position marks r + t * length marks) - (c * position marks t + r * length marks) ≤ greatest c
    (λ v. (c * position marks r + v * length marks) - (c * position marks v + r * length marks)) =
    at_most_greatest c (λ v. (c * position marks r + v * length marks) - (c * position marks v + r * length marks)) t (mod_below j c pos) in
    let pi : position marks i ≡ position marks r + y * length marks = ap (position marks) (sym si) ∙ position_turns marks r y pos in
    let pj : position marks j ≡ position marks t + z * length marks = ap (position marks) (sym sj) ∙ position_turns marks t z pos in
    joined c (length marks) a (position marks r) (position marks t) r t y z (position marks i) (position marks j) i j pi pj si sj (omega (arith, near, row, le))
  where
    joined : (c n a p q r t y z pi pj i j : ℕ) → pi ≡ p + y * n → pj ≡ q + z * n → r + y * c ≡ i → t + z * c ≡ j →
        (c * p + t * n) - (c * q + r * n) ≤ a → c * pi + j * n ≤ c * pj + i * n + a
    joined c n a p q r t y z pi pj i j ei ej si sj h = rw (ei, ej, ← si, ← sj) (spread_step c n a p q r t y z h)

-- ---- Pace

-- Own slot number i + m lies within w slots of own slot number i.
pub rate_step : (c n a m w p q i : ℕ) → c * q + i * n ≤ c * p + (i + m) * n + a → a + m * n < c * (w + 1) → q ≤ p + w
rate_step c n a m w p q i h k = elim (cases_lt (p + w) q) [ inl far ↦ absurd (omega (arith, mul-le-mul_left c far, h, k)) | inr near ↦ near ]

-- The first m own slots lie within w slots of the run's beginning, counted from the last own slot of the previous period.
first_arith : (c d n a m e w p q : ℕ) → d + 1 ≡ c → e + 1 ≡ m → c * q + d * n ≤ c * p + e * n + a → p < n → a + m * n < c * (w + 1) → w ≤ q → ⊥
first_arith c d n a m e w p q ed em h last k far =
    omega (arith, h, k, mul-le-mul_left c last, mul-le-mul_left c far, ap (λ (v : ℕ). v * n) ed, ap (λ (v : ℕ). v * n) em)

pub rate_first : (marks : List Bool) (a : ℕ) → 0 < per_period marks → spread marks ≤ a → (m w : ℕ) → a + m * length marks < per_period marks * (w + 1) → 0 < m →
    position marks (m - 1) < w
rate_first marks a pos le m w k some = elim (cases_lt (position marks (m - 1)) w) [
  | inl near ↦ near
  | inr far ↦ absurd
      (first_arith (per_period marks) (per_period marks - 1) (length marks) a m (m - 1) w (position marks (per_period marks - 1)) (position marks (m - 1))
      (omega arith) (omega arith) (spreads_all marks a pos le (m - 1) (per_period marks - 1)) (position_below marks (per_period marks - 1) pos (omega arith)) k
      far)
]

pub rate_law : PaceLaw
rate_law marks a pos le m w k = windows_serve (own marks) (position marks) m w (positions_law marks pos)
    (λ i. rate_step (per_period marks) (length marks) a m w (position marks i) (position marks (i + m)) i (spreads_all marks a pos le (i + m) i) k)
    (rate_first marks a pos le m w k)

-- ---- Share

share_arith : (c n a w m p q s i : ℕ) → 0 < n → 0 < w → c * p + (i + m) * n ≤ c * q + i * n + a → s ≤ p → q < s + w → m ≤ ((w - 1) * c + a) / n
share_arith c n a w m p q s i pos some h near far = le-div m ((w - 1) * c + a) n pos (bound c n a (w - 1) m p q i h (omega arith))
  where
    bound : (c n a v m p q i : ℕ) → c * p + (i + m) * n ≤ c * q + i * n + a → q ≤ p + v → m * n ≤ v * c + a
    bound c n a v m p q i h k = omega (arith, h, mul-le-mul_left c k)

pub share_law : ShareLaw
share_law marks a w pos le some s = elim (cases_lt (own_before (own marks) s + most) (own_before (own marks) (s + w))) [
  | inl over ↦ absurd (omega (arith, few over))
  | inr under ↦ under
]
  where
    most : ℕ
    most = most_within (per_period marks) (length marks) a w

    from : (p : ℕ) → own_before (own marks) p ≡ own_before (own marks) s → own marks p ≡ true → s ≤ p
    from p e y = elim (cases_lt p s) [ inl lt ↦ absurd (omega (arith, own_before_lt (own marks) p s y lt)) | inr le' ↦ le' ]

    few : own_before (own marks) s + most < own_before (own marks) (s + w) → most ≤ ((w - 1) * per_period marks + a) / length marks
    few over =
        let i : ℕ = own_before (own marks) s in
        let here : s ≤ position marks i = from (position marks i) ((positions_law marks pos).counted i) ((positions_law marks pos).is_own i) in
        let there : position marks (i + most) < s + w =
        before_from (own marks) (position marks (i + most)) (s + w) (omega (arith, (positions_law marks pos).counted (i + most), over)) in
        share_arith (per_period marks) (length marks) a w most (position marks i) (position marks (i + most)) s i (omega (arith, per_period_le marks)) some
        (spreads_all marks a pos le i (i + most)) here there

-- ---- One walk over the slots

-- The raised place of own slot number i
abbrev level : List Bool → ℕ → ℕ
level marks i = raised (per_period marks) (length marks) (position marks i) i

-- The value that the walk keeps at slot t
abbrev high_at : List Bool → ℕ → ℕ
high_at marks t = cond (own marks t) (raised (per_period marks) (length marks) t (own_before (own marks) t)) 0

abbrev top : List Bool → ℕ
top marks = 2 * per_period marks * length marks

abbrev low_at : List Bool → ℕ → ℕ
low_at marks t = cond (own marks t) (raised (per_period marks) (length marks) t (own_before (own marks) t)) (top marks)

level_at : (marks : List Bool) (t : ℕ) → 0 < per_period marks → own marks t ≡ true →
    raised (per_period marks) (length marks) t (own_before (own marks) t) ≡ level marks (own_before (own marks) t)
level_at marks t pos y = ap (λ (s : ℕ). raised (per_period marks) (length marks) s (own_before (own marks) t)) (sym ((positions_law marks pos).found t y))

high_position : (marks : List Bool) (i : ℕ) → 0 < per_period marks → high_at marks (position marks i) ≡ level marks i
high_position marks i pos =
    cond-true (own marks (position marks i)) (raised (per_period marks) (length marks) (position marks i) (own_before (own marks) (position marks i))) 0
    ((positions_law marks pos).is_own i)
    ∙ ap (raised (per_period marks) (length marks) (position marks i)) ((positions_law marks pos).counted i)

low_position : (marks : List Bool) (i : ℕ) → 0 < per_period marks → low_at marks (position marks i) ≡ level marks i
low_position marks i pos =
    cond-true (own marks (position marks i)) (raised (per_period marks) (length marks) (position marks i) (own_before (own marks) (position marks i)))
    (top marks) ((positions_law marks pos).is_own i)
    ∙ ap (raised (per_period marks) (length marks) (position marks i)) ((positions_law marks pos).counted i)

-- The difference of a pair is the difference of its raised places.
pair_arith : (c n p q i j : ℕ) → i ≤ c → j ≤ c → (c * p + j * n) - (c * q + i * n) ≡ (c * p + (c - i) * n) - (c * q + (c - j) * n)
pair_arith c n p q i j hi hj = raise c n p q i j (c - i) (c - j) (omega arith) (omega arith)
  where
    raise : (c n p q i j u v : ℕ) → u + i ≡ c → v + j ≡ c → (c * p + j * n) - (c * q + i * n) ≡ (c * p + u * n) - (c * q + v * n)
    raise c n p q i j u v e f = let e' : (u + i) * n ≡ c * n = ap (λ (t : ℕ). t * n) e in let f' : (v + j) * n ≡ c * n = ap (λ (t : ℕ). t * n) f in
        omega (arith, e', f')

abbrev pair : List Bool → ℕ → ℕ → ℕ
pair marks i j = (per_period marks * position marks i + j * length marks) - (per_period marks * position marks j + i * length marks)

pair_levels : (marks : List Bool) (i j : ℕ) → i < per_period marks → j < per_period marks → pair marks i j ≡ level marks i - level marks j
pair_levels marks i j hi hj = pair_arith (per_period marks) (length marks) (position marks i) (position marks j) i j (omega arith) (omega arith)

pair_spread : (marks : List Bool) (i j : ℕ) → i < per_period marks → j < per_period marks → pair marks i j ≤ spread marks
pair_spread marks i j hi hj =
    omega (
      arith,
      at_most_greatest (per_period marks) (λ v. pair marks i v) j hj,
      at_most_greatest (per_period marks) (λ u. greatest (per_period marks) (λ v. pair marks u v)) i hi,
    )

level_top : (c n p i : ℕ) → p < n → c * p + (c - i) * n ≤ 2 * c * n
level_top c n p i lt = omega (arith, mul-le-mul_left c lt, mul-le-mul_right n (less c i))
  where
    less : (c i : ℕ) → c - i ≤ c
    less c i = omega arith

pub spread_walk_law : SpreadWalkLaw
spread_walk_law marks pos = le_antisymm
    (walked (greatest_reached n (high_at marks) (omega (arith, per_period_le marks))) (least_reached (top marks) n (low_at marks)))
    (greatest_at_most c (λ i. greatest c (λ j. pair marks i j)) (highest marks n - lowest marks n)
    (λ i hi. greatest_at_most c (λ j. pair marks i j) (highest marks n - lowest marks n) (λ j hj. within i j hi hj)))
  where
    n : ℕ
    n = length marks

    c : ℕ
    c = per_period marks

    within : (i j : ℕ) → i < per_period marks → j < per_period marks → pair marks i j ≤ highest marks n - lowest marks n
    within i j hi hj = omega (
      arith,
      pair_levels marks i j hi hj,
      high_position marks i pos,
      at_most_greatest n (high_at marks) (position marks i) (position_below marks i pos hi),
      low_position marks j pos,
      least_at_most (top marks) n (low_at marks) (position marks j) (position_below marks j pos hj),
    )

    number : (t : ℕ) → t < length marks → own marks t ≡ true → own_before (own marks) t < per_period marks
    number t lt y = omega (arith, own_before_lt (own marks) t (length marks) y lt, own_before_period marks)

    high_own : (t : ℕ) → own marks t ≡ true → high_at marks t ≡ level marks (own_before (own marks) t)
    high_own t y = cond-true (own marks t) (raised (per_period marks) (length marks) t (own_before (own marks) t)) 0 y ∙ level_at marks t pos y

    low_own : (t : ℕ) → own marks t ≡ true → low_at marks t ≡ level marks (own_before (own marks) t)
    low_own t y = cond-true (own marks t) (raised (per_period marks) (length marks) t (own_before (own marks) t)) (top marks) y ∙ level_at marks t pos y

    high_below : (t : ℕ) → t < length marks → high_at marks t ≤ top marks
    high_below t lt = elim (cases_Bool (own marks t)) [
      | inl y ↦ omega (
        arith,
        cond-true (own marks t) (raised (per_period marks) (length marks) t (own_before (own marks) t)) 0 y,
        level_top (per_period marks) (length marks) t (own_before (own marks) t) lt,
      )
      | inr e ↦ omega (arith, cond-false (own marks t) (raised (per_period marks) (length marks) t (own_before (own marks) t)) 0 e)
    ]

    both : (t u : ℕ) → t < length marks → u < length marks → own marks t ≡ true → own marks u ≡ true → high_at marks t - low_at marks u ≤ spread marks
    both t u ht hu yt yu = omega (
      arith,
      high_own t yt,
      low_own u yu,
      pair_levels marks (own_before (own marks) t) (own_before (own marks) u) (number t ht yt) (number u hu yu),
      pair_spread marks (own_before (own marks) t) (own_before (own marks) u) (number t ht yt) (number u hu yu),
    )

    ends : (t u : ℕ) → t < length marks → u < length marks → high_at marks t - low_at marks u ≤ spread marks
    ends t u ht hu = elim (cases_Bool (own marks t)) [
      | inl yt ↦ elim (cases_Bool (own marks u)) [
        | inl yu ↦ both t u ht hu yt yu
        | inr nu ↦ omega
            (arith, high_below t ht, cond-false (own marks u) (raised (per_period marks) (length marks) u (own_before (own marks) u)) (top marks) nu)
      ]
      | inr nt ↦ omega (arith, cond-false (own marks t) (raised (per_period marks) (length marks) t (own_before (own marks) t)) 0 nt)
    ]

    walked : Reached n (high_at marks) (highest marks n) → (lowest marks n ≡ top marks) ⊎ Reached n (low_at marks) (lowest marks n) →
        highest marks n - lowest marks n ≤ spread marks
    walked h (inl e) = omega (arith, e, h.same, high_below h.at h.below)
    walked h (inr l) = omega (arith, h.same, l.same, ends h.at l.at h.below l.below)

-- One more slot of the walk

pub highest_more : (marks : List Bool) (s : ℕ) → own marks s ≡ true →
    highest marks (s + 1) ≡ max (highest marks s) (raised (per_period marks) (length marks) s (own_before (own marks) s))
highest_more marks s y =
    greatest_more s (high_at marks)
    ∙ ap (max (highest marks s)) (cond-true (own marks s) (raised (per_period marks) (length marks) s (own_before (own marks) s)) 0 y)

pub highest_same : (marks : List Bool) (s : ℕ) → own marks s ≡ false → highest marks (s + 1) ≡ highest marks s
highest_same marks s n =
    greatest_more s (high_at marks)
    ∙ ap (max (highest marks s)) (cond-false (own marks s) (raised (per_period marks) (length marks) s (own_before (own marks) s)) 0 n) ∙ omega arith

pub lowest_more : (marks : List Bool) (s : ℕ) → own marks s ≡ true →
    lowest marks (s + 1) ≡ min (lowest marks s) (raised (per_period marks) (length marks) s (own_before (own marks) s))
lowest_more marks s y = least_more (top marks) s (low_at marks)
    ∙ ap (min (lowest marks s)) (cond-true (own marks s) (raised (per_period marks) (length marks) s (own_before (own marks) s)) (top marks) y)

pub lowest_same : (marks : List Bool) (s : ℕ) → own marks s ≡ false → lowest marks (s + 1) ≡ lowest marks s
lowest_same marks s n = least_more (top marks) s (low_at marks)
    ∙ ap (min (lowest marks s)) (cond-false (own marks s) (raised (per_period marks) (length marks) s (own_before (own marks) s)) (top marks) n)
    ∙ least_capped (top marks) s (low_at marks)
  where
    least_capped : (t n : ℕ) (f : ℕ → ℕ) → min (least t n f) t ≡ least t n f
    least_capped t n f = omega (arith, least_below t n f)

pub lowest_none : (marks : List Bool) → lowest marks 0 ≡ 2 * per_period marks * length marks
lowest_none marks = least_none (top marks) (low_at marks)

pub highest_none : (marks : List Bool) → highest marks 0 ≡ 0
highest_none marks = greatest_none (high_at marks)
