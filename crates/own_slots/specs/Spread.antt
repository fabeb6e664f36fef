-- Spread: how unevenly the own slots are spread over a period of N slots that has c of them. Own slot number i of an even plan
-- would be at i * N / c.
use Rattle.std.specs.Prelude.{◌≡◌, ℕ, ◌+◌, ◌-◌, ◌*◌, ◌/◌, ◌<◌, ◌≤◌, Bool, cond, List, length}
use Rattle.own_slots.specs.Slots.{own_before, AtMostPerWindow, HasPace}
use Rattle.own_slots.specs.Period.{own, per_period, position}
use Rattle.own_slots.specs.Extremes.{greatest, least}

-- the greatest (c * P(i) - i * N) - (c * P(j) - j * N) over all pairs i, j of one period, P(i) the position of own slot
-- number i
abbrev pub spread : List Bool → ℕ
spread marks = greatest (per_period marks) (λ i. greatest (per_period marks) (λ j.
    (per_period marks * position marks i + j * length marks) - (per_period marks * position marks j + i * length marks)))

-- c * s - i * N, raised by c * N so that it is a natural number: where own slot number i of the period is, at slot s
abbrev pub raised : ℕ → ℕ → ℕ → ℕ → ℕ
raised c n s i = c * s + (c - i) * n

-- the greatest raised place of the own slots among the first s slots of a period, 0 if there are none
abbrev pub highest : List Bool → ℕ → ℕ
highest marks s = greatest s (λ t. cond (own marks t) (raised (per_period marks) (length marks) t (own_before (own marks) t)) 0)

-- the least, 2 * c * N if there are none
abbrev pub lowest : List Bool → ℕ → ℕ
lowest marks s = least (2 * per_period marks * length marks) s (λ t.
    cond (own marks t) (raised (per_period marks) (length marks) t (own_before (own marks) t)) (2 * per_period marks * length marks))

-- the spread is the difference of the two extremes, which one walk over the slots of the period finds
abbrev pub SpreadWalkLaw : Type 0
SpreadWalkLaw = (marks : List Bool) → 0 < per_period marks → highest marks (length marks) - lowest marks (length marks) ≡ spread marks

-- a spread of at most a gives a pace: m own slots come within (a + m * N) / c slots, rounded up
abbrev pub PaceLaw : Type 0
PaceLaw = (marks : List Bool) (a : ℕ) → 0 < per_period marks → spread marks ≤ a → HasPace (own marks) (per_period marks) (length marks) a

-- the most own slots that a window of w slots can have, w from 1 on, where c of N slots are own, with a spread of a
abbrev pub most_within : ℕ → ℕ → ℕ → ℕ → ℕ
most_within c n a w = ((w - 1) * c + a) / n + 1

abbrev pub ShareLaw : Type 0
ShareLaw = (marks : List Bool) (a w : ℕ) → 0 < per_period marks → spread marks ≤ a → 0 < w →
    AtMostPerWindow (own marks) w (most_within (per_period marks) (length marks) a w)
