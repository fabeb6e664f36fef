-- Two plans: own slots, gaps, pace, share and work across the switch
use Rattle.std.proofs.Common.{◌≡◌, ℕ, zero, suc, ◌+◌, ◌-◌, ◌*◌, ◌<◌, ◌≤◌, max, Bool, true, cond, ltb, List, length, refl, ap, sym, ◌∙◌, inl, inr, arith}
use Rattle.std.proofs.Math.Nat.{add-suc, add-zero, mul-le-mul_left}
use Rattle.std.proofs.lemmas.Bool.{cases_Bool, cases_lt, cond-true, cond-false, lt-ltb, le-ltb}
use Rattle.own_slots.specs.Slots.{own_before, AtLeastPerWindow, Enumerates}
use Rattle.own_slots.specs.Period.{own, per_period, position, back, BackLaw}
use Rattle.own_slots.specs.Spread.{spread}
use Rattle.own_slots.specs.Switch.{joined, shift, SwitchGapLaw, SwitchPaceLaw, SwitchShareLaw}
use Rattle.own_slots.proofs.Counts.{own_before_own, own_before_other, own_before_same, own_before_le, before_from, same_number, windows_serve}
use Rattle.own_slots.proofs.PositionLemmas.{own_before_turns, positions_law, position_turns}
use Rattle.own_slots.proofs.Gaps.{gaps_all, gap_first}
use Rattle.own_slots.proofs.Spread.{spreads_all, rate_step, rate_first}

-- ---- Own slots, counted across the switch

pub joined_first : (first second : ℕ → Bool) (at s : ℕ) → s < at → joined first second at s ≡ first s
joined_first first second at s lt = cond-true (ltb s at) (first s) (second (s - at)) (lt-ltb s at lt)

pub joined_second : (first second : ℕ → Bool) (at d : ℕ) → joined first second at (at + d) ≡ second d
joined_second first second at d = cond-false (ltb (at + d) at) (first (at + d)) (second (at + d - at)) (le-ltb (at + d) at (omega arith))
    ∙ ap second (omega arith)

own_before_first : (first second : ℕ → Bool) (at s : ℕ) → s ≤ at → own_before (joined first second at) s ≡ own_before first s
own_before_first first second at s le = own_before_same (joined first second at) first s (λ t lt. joined_first first second at t (omega arith))

own_before_second : (first second : ℕ → Bool) (at d : ℕ) → own_before (joined first second at) (at + d) ≡ own_before first at + own_before second d
own_before_second first second at zero = rw add-zero (own_before_first first second at at (omega arith) ∙ from_zero)
  where
    from_zero : own_before first at ≡ own_before first at + own_before second zero
    from_zero = unfold own_before in omega arith
own_before_second first second at (suc d) = rw add-suc (elim (cases_Bool (second d)) [
  | inl y ↦ omega (
    arith,
    own_before_second first second at d,
    own_before_own (joined first second at) (at + d) (joined_second first second at d ∙ y),
    own_before_own second d y,
  )
  | inr n ↦ omega (
    arith,
    own_before_second first second at d,
    own_before_other (joined first second at) (at + d) (joined_second first second at d ∙ n),
    own_before_other second d n,
  )
])

-- ---- Share

pub switch_spare_law : SwitchShareLaw
switch_spare_law first second at w m n few some s = elim (cases_lt at (s + w)) [
  | inl past ↦ elim (cases_lt s at) [
    | inl before ↦ across past before
    | inr after ↦ beyond after
  ]
  | inr within ↦ omega (arith, few s, own_before_first first second at s (omega arith), own_before_first first second at (s + w) within)
]
  where
    J : ℕ → ℕ
    J t = own_before (joined first second at) t

    across : at < s + w → s < at → J (s + w) ≤ J s + (m + n)
    across past before =
        let e : s + w ≡ at + (s + w - at) = omega arith in
        let none : own_before second 0 ≡ 0 = unfold own_before in refl in
        let there : J (s + w) ≡ own_before first at + own_before second (s + w - at) = ap J e ∙ own_before_second first second at (s + w - at) in
        let short : own_before second (s + w - at) ≤ own_before second (0 + w) = own_before_le second (s + w - at) (0 + w) (omega arith) in
        omega (arith, there, short, none, few s, some 0, own_before_first first second at s (omega arith), own_before_le first at (s + w) (omega arith))

    beyond : at ≤ s → J (s + w) ≤ J s + (m + n)
    beyond after =
        let e : s ≡ at + (s - at) = omega arith in
        let f : s + w ≡ at + ((s - at) + w) = omega arith in
        let here : J s ≡ own_before first at + own_before second (s - at) = ap J e ∙ own_before_second first second at (s - at) in
        let there : J (s + w) ≡ own_before first at + own_before second ((s - at) + w) = ap J f ∙ own_before_second first second at ((s - at) + w) in
        omega (arith, here, there, some (s - at))

-- ---- Positions before a period's end

-- Own slots whose numbers are whole periods apart lie whole periods apart.
turned : (marks : List Bool) (i j u v : ℕ) → 0 < per_period marks → i + u * per_period marks ≡ j + v * per_period marks →
    position marks i + u * length marks ≡ position marks j + v * length marks
turned marks i j u v pos e = sym (position_turns marks i u pos) ∙ ap (position marks) e ∙ position_turns marks j v pos

own_before_end : (marks : List Bool) (y : ℕ) → own_before (own marks) (y * length marks) ≡ y * per_period marks
own_before_end marks y = let z : own_before (own marks) 0 ≡ 0 = unfold own_before in refl in
    let e : y * length marks ≡ 0 + y * length marks = omega arith in ap (own_before (own marks)) e ∙ omega (arith, own_before_turns marks 0 y, z)

-- The own slots with numbers below the count of y periods lie before the end of y periods.
before_end : (marks : List Bool) (i y : ℕ) → 0 < per_period marks → i < y * per_period marks → position marks i < y * length marks
before_end marks i y pos lt =
    before_from (own marks) (position marks i) (y * length marks) (omega (arith, (positions_law marks pos).counted i, own_before_end marks y))

-- The subtraction in `back` is exact.
back_whole : (marks : List Bool) (x : ℕ) → 0 < per_period marks → 0 < x → back marks x + position marks (x * per_period marks - x) ≡ x * length marks
back_whole marks x pos some = omega (arith, before_end marks (x * per_period marks - x) x pos (less (per_period marks) (mul-le-mul_left x pos)))
  where
    less : (c : ℕ) → x * 1 ≤ x * c → x * c - x < x * c
    less c le = omega (arith, le)

pub back_spec : (marks : List Bool) (x y : ℕ) → 0 < per_period marks → 0 < x → x ≤ y * per_period marks → position marks (y * per_period marks - x)
    + back marks x ≡ y * length marks
back_spec marks x y pos some le =
    let long : x * 1 ≤ x * per_period marks = mul-le-mul_left x pos in
    let e : (y * per_period marks - x) + x * per_period marks ≡ (x * per_period marks - x) + y * per_period marks = omega (arith, long) in
    omega (arith, turned marks (y * per_period marks - x) (x * per_period marks - x) x y pos e, back_whole marks x pos some)

-- If y periods have fewer than x own slots, the own slot x places back lies before these periods.
back_far : (marks : List Bool) (x y : ℕ) → 0 < per_period marks → y * per_period marks < x → y * length marks + 1 ≤ back marks x
back_far marks x y pos lt =
    let long : x * 1 ≤ x * per_period marks = mul-le-mul_left x pos in
    let i : ℕ = x * per_period marks - x in
    let near : position marks (i + y * per_period marks) < x * length marks = before_end marks (i + y * per_period marks) x pos (omega (arith, long)) in
    omega (arith, near, position_turns marks i y pos, back_whole marks x pos (omega arith))

pub back_law : BackLaw
back_law marks x y s pos some is_own e =
    let n : own_before (own marks) s ≡ y * per_period marks - x = omega (arith, e) in
    let at : position marks (y * per_period marks - x) ≡ s = ap (position marks) (sym n) ∙ (positions_law marks pos).found s is_own in
    omega (arith, at, back_spec marks x y pos some (omega (arith, e)))

-- ---- Positions across the switch

-- The position of own slot number i across the switch, if the first plan runs for `periods` periods
abbrev over : List Bool → List Bool → ℕ → ℕ → ℕ
over first second periods i =
    cond (ltb i (periods * per_period first)) (position first i) (periods * length first + position second (i - periods * per_period first))

over_first : (first second : List Bool) (periods i : ℕ) → i < periods * per_period first → over first second periods i ≡ position first i
over_first first second periods i lt =
    cond-true (ltb i (periods * per_period first)) (position first i) (periods * length first + position second (i - periods * per_period first))
    (lt-ltb i (periods * per_period first) lt)

over_second : (first second : List Bool) (periods i : ℕ) → periods * per_period first ≤ i → over first second periods i ≡ periods * length first
    + position second (i - periods * per_period first)
over_second first second periods i le =
    cond-false (ltb i (periods * per_period first)) (position first i) (periods * length first + position second (i - periods * per_period first))
    (le-ltb i (periods * per_period first) le)

over_enumerates : (first second : List Bool) (periods : ℕ) → 0 < per_period first → 0 < per_period second →
    Enumerates (joined (own first) (own second) (periods * length first)) (over first second periods)
over_enumerates first second periods p1 p2 = record {
  is_own = λ i. (at_number i).0;
  counted = λ i. (at_number i).1;
  found = λ s y. same_number J (over first second periods (own_before J s)) s ((at_number (own_before J s)).0) y ((at_number (own_before J s)).1);
}
  where
    at : ℕ
    at = periods * length first

    J : ℕ → Bool
    J = joined (own first) (own second) at

    early : (i : ℕ) → i < periods * per_period first → (J (over first second periods i) ≡ true) × (own_before J (over first second periods i) ≡ i)
    early i lt =
        let e : over first second periods i ≡ position first i = over_first first second periods i lt in
        let before : position first i < at = before_end first i periods p1 lt in (
          ap J e ∙ joined_first (own first) (own second) at (position first i) before ∙ (positions_law first p1).is_own i,
          ap (own_before J) e ∙ own_before_first (own first) (own second) at (position first i) (omega (arith, before)) ∙ (positions_law first p1).counted i,
        )

    late : (i : ℕ) → periods * per_period first ≤ i → (J (over first second periods i) ≡ true) × (own_before J (over first second periods i) ≡ i)
    late i le =
        let z : ℕ = i - periods * per_period first in
        let e : over first second periods i ≡ at + position second z = over_second first second periods i le in (
          ap J e ∙ joined_second (own first) (own second) at (position second z) ∙ (positions_law second p2).is_own z,
          ap (own_before J) e ∙ own_before_second (own first) (own second) at (position second z)
              ∙ omega (arith, own_before_end first periods, (positions_law second p2).counted z),
        )

    at_number : (i : ℕ) → (J (over first second periods i) ≡ true) × (own_before J (over first second periods i) ≡ i)
    at_number i = elim (cases_lt i (periods * per_period first)) [ inl lt ↦ early i lt | inr le ↦ late i le ]

-- Windows within each plan, and across the switch
windows_over : (first second : List Bool) (periods m g : ℕ) → 0 < per_period first → 0 < per_period second →
    ((i : ℕ) → position first (i + m) ≤ position first i + g) → ((i : ℕ) → position second (i + m) ≤ position second i + g) →
    (0 < m → position first (m - 1) < g) → ((x z : ℕ) → 0 < x → x + z ≡ m → back first x + position second z ≤ g) →
    AtLeastPerWindow (joined (own first) (own second) (periods * length first)) g m
windows_over first second periods m g p1 p2 one two begin across =
    windows_serve (joined (own first) (own second) at) Q m g (over_enumerates first second periods p1 p2) near start
  where
    at : ℕ
    at = periods * length first

    n : ℕ
    n = periods * per_period first

    Q : ℕ → ℕ
    Q = over first second periods

    spanning : (i : ℕ) → i < n → n ≤ i + m → Q (i + m) ≤ Q i + g
    spanning i lt le =
        let x : ℕ = n - i in
        let z : ℕ = i + m - n in
        let e : n - x ≡ i = omega arith in
        let here : position first i + back first x ≡ at = ap (λ (j : ℕ). position first j + back first x) (sym e)
        ∙ back_spec first x periods p1 (omega arith) (omega arith) in
        omega (arith, over_first first second periods i lt, over_second first second periods (i + m) le, here, across x z (omega arith) (omega arith))

    near : (i : ℕ) → Q (i + m) ≤ Q i + g
    near i = elim (cases_lt (i + m) n) [
      | inl lt ↦ omega (arith, one i, over_first first second periods i (omega arith), over_first first second periods (i + m) lt)
      | inr le ↦ elim (cases_lt i n) [
        | inl lt ↦ spanning i lt le
        | inr past ↦ let e : i + m - n ≡ (i - n) + m = omega arith in
            omega (arith, two (i - n), ap (position second) e, over_second first second periods i past, over_second first second periods (i + m) le)
      ]
    ]

    start : 0 < m → Q (m - 1) < g
    start some = elim (cases_lt (m - 1) n) [
      | inl lt ↦ omega (arith, begin some, over_first first second periods (m - 1) lt)
      | inr le ↦ omega (
        arith,
        over_second first second periods (m - 1) le,
        back_far first (n + 1) periods p1 (omega arith),
        across (n + 1) (m - 1 - n) (omega arith) (omega arith),
      )
    ]

pub switch_gap_law : SwitchGapLaw
switch_gap_law first second periods k g p1 p2 one two across =
    windows_over first second periods k g p1 p2 (gaps_all first k g p1 one) (gaps_all second k g p2 two) (gap_first first k g p1 one) joint
  where
    joint : (x z : ℕ) → 0 < x → x + z ≡ k → back first x + position second z ≤ g
    joint x z some e = let f : k - x ≡ z = omega arith in omega (arith, across x (omega arith) (omega arith), ap (position second) f)

-- ---- Pace across the switch

-- The first plan's own slots before the switch: x slots back compared with 1 slot back
back_spread : (marks : List Bool) (a x : ℕ) → 0 < per_period marks → 0 < x → spread marks ≤ a →
    per_period marks * back marks x + length marks ≤ per_period marks * back marks 1 + x * length marks + a
back_spread marks a x pos some le =
    let c : ℕ = per_period marks in
    let long : x * 1 ≤ x * c = mul-le-mul_left x pos in
    let j : ℕ = x * c - 1 in
    let i : ℕ = x * c - x in
    let far : position marks i + back marks x ≡ x * length marks = back_spec marks x x pos some (omega (arith, long)) in
    let near : position marks j + back marks 1 ≡ x * length marks = back_spec marks 1 x pos (omega arith) (omega (arith, long)) in
    let e : i + x ≡ j + 1 = omega (arith, long) in
    back_arith c (length marks) a (position marks i) (position marks j) i j x (x * length marks) (back marks x) (back marks 1) far near e
    (spreads_all marks a pos le j i)
  where
    back_arith : (c n a p q i j x t b d : ℕ) → p + b ≡ t → q + d ≡ t → i + x ≡ j + 1 → c * q + i * n ≤ c * p + j * n + a → c * b + n ≤ c * d + x * n + a
    back_arith c n a p q i j x t b d far near e h =
        omega (arith, h, ap (λ (v : ℕ). c * v) far, ap (λ (v : ℕ). c * v) near, ap (λ (v : ℕ). v * n) e)

-- The second plan's own slots after the switch, counted from the last own slot of the period before
ahead_spread : (marks : List Bool) (b z : ℕ) → 0 < per_period marks → spread marks ≤ b →
    per_period marks * (position marks z + back marks 1) ≤ (z + 1) * length marks + b
ahead_spread marks b z pos le =
    let c : ℕ = per_period marks in
    let last : position marks (1 * c - 1) + back marks 1 ≡ 1 * length marks = back_spec marks 1 1 pos (omega arith) (omega arith) in
    ahead_arith c (length marks) b (position marks (z + 1 * c)) (position marks z) (position marks (1 * c - 1)) z (1 * c - 1) (back marks 1) (omega arith)
    (position_turns marks z 1 pos) last (spreads_all marks b pos le (z + 1 * c) (1 * c - 1))
  where
    ahead_arith : (c n b r p q z d back : ℕ) → d + 1 ≡ c → r ≡ p + 1 * n → q + back ≡ 1 * n → c * r + d * n ≤ c * q + (z + 1 * c) * n + b →
        c * (p + back) ≤ (z + 1) * n + b
    ahead_arith c n b r p q z d back e f last h =
        omega (arith, h, ap (λ (v : ℕ). v * n) e, ap (λ (v : ℕ). c * v) f, ap (λ (v : ℕ). c * v) last)

across_arith : (c d n k a b e mu x z w p q far near : ℕ) → c * far + n ≤ c * near + x * n + a → d * (q + p) ≤ (z + 1) * k + b → near ≤ p + e →
    n * d ≤ mu → k * c ≤ mu → 0 < x → (a * d + b * c + c * d * e) + (x + z) * mu < c * d * (w + 1) → far + q ≤ w
across_arith c d n k a b e mu x z w p q far near h1 h2 h3 h4 h5 some h6 = elim (cases_lt w (far + q)) [
  | inl over ↦ absurd (apart (x - 1) (omega arith) over)
  | inr within ↦ within
]
  where
    apart : (y : ℕ) → y + 1 ≡ x → w < far + q → ⊥
    apart y e' over = omega (
      arith,
      mul-le-mul_left d h1,
      mul-le-mul_left c h2,
      mul-le-mul_left (c * d) h3,
      mul-le-mul_left y h4,
      mul-le-mul_left (z + 1) h5,
      mul-le-mul_left (c * d) over,
      h6,
      ap (λ (v : ℕ). v * n * d) e',
      ap (λ (v : ℕ). v * mu) e',
    )

-- A pace of both plans together is a pace of each plan.
first_pace : (c d n k a b e m w : ℕ) → (a * d + b * c + c * d * e) + m * max (n * d) (k * c) < c * d * (w + 1) → a + m * n < c * (w + 1)
first_pace c d n k a b e m w h = elim (cases_lt (a + m * n) (c * (w + 1))) [
  | inl lt ↦ lt
  | inr le ↦ absurd (omega (arith, mul-le-mul_left d le, mul-le-mul_left m (most (n * d) (k * c)), h))
]
  where
    most : (u v : ℕ) → u ≤ max u v
    most u v = omega arith

second_pace : (c d n k a b e m w : ℕ) → (a * d + b * c + c * d * e) + m * max (n * d) (k * c) < c * d * (w + 1) → b + m * k < d * (w + 1)
second_pace c d n k a b e m w h = elim (cases_lt (b + m * k) (d * (w + 1))) [
  | inl lt ↦ lt
  | inr le ↦ absurd (omega (arith, mul-le-mul_left c le, mul-le-mul_left m (most (n * d) (k * c)), h))
]
  where
    most : (u v : ℕ) → v ≤ max u v
    most u v = omega arith

pub switch_rate_law : SwitchPaceLaw
switch_rate_law first second periods a b p1 p2 le1 le2 m w fast =
    windows_over first second periods m w p1 p2
    (λ i. rate_step c n a m w (position first i) (position first (i + m)) i (spreads_all first a p1 le1 (i + m) i) one)
    (λ i. rate_step d k b m w (position second i) (position second (i + m)) i (spreads_all second b p2 le2 (i + m) i) two)
    (rate_first first a p1 le1 m w one) joint
  where
    c : ℕ
    c = per_period first

    d : ℕ
    d = per_period second

    n : ℕ
    n = length first

    k : ℕ
    k = length second

    one : a + m * length first < per_period first * (w + 1)
    one = first_pace c d n k a b (shift first second) m w fast

    two : b + m * length second < per_period second * (w + 1)
    two = second_pace c d n k a b (shift first second) m w fast

    joint : (x z : ℕ) → 0 < x → x + z ≡ m → back first x + position second z ≤ w
    joint x z some e = across_arith c d n k a b (shift first second) (max (n * d) (k * c)) x z w (back second 1) (position second z) (back first x)
        (back first 1)
        (back_spread first a x p1 some le1) (ahead_spread second b z p2 le2) (omega arith) (omega arith) (omega arith) some (rw e fast)
