-- DTS made from PTS, for a stream that carries none, or none that rise.
use Rattle.std.specs.Prelude.{ℕ, ◌+◌, ◌-◌, ◌%◌, ◌^◌, ◌==◌, max, nat_le, nat_lt, Bool, false, if◌then◌else◌, Option, Some, None, List, [], ◌∷◌, map}
use Rattle.std.specs.Option.{option_or}
use Rattle.es_moments.specs.Stamps.{distance}
use Rattle.es_moments.specs.declared.dts_from_pts.DtsFault.{DtsFault}
use Rattle.es_moments.specs.declared.dts_from_pts.DtsFault.TheVariants.{SamePts, PtsTooLate}
use Rattle.es_moments.specs.WireUnits.{CarriedUnit, unit_with}

-- 1. PTS as moments, in the order of the units

-- the moment nearest to another at which a clock shows a stamp that shows 0 at moment 0: the first from half the range
-- before that one on
unfoldable pub nearest : ℕ → ℕ → ℕ
nearest moment stamp = moment - 2 ^ 32 + distance ((moment + 2 ^ 32) % 2 ^ 33) stamp

-- each nearest to the one before
unfoldable pub moments_after : ℕ → List ℕ → List ℕ
moments_after moment [] = []
moments_after moment (stamp ∷ stamps) = nearest moment stamp ∷ moments_after (nearest moment stamp) stamps

-- the first near a moment that lies so far on that, of fewer than 2^63, none is before moment 0
abbrev pub moments_of : List ℕ → List ℕ
moments_of stamps = moments_after (2 ^ 100) stamps

-- 2. The same in order of time

unfoldable pub placed : ℕ → List ℕ → List ℕ
placed x [] = x ∷ []
placed x (y ∷ ys) = if nat_le x y then x ∷ y ∷ ys else y ∷ placed x ys

unfoldable pub in_order : List ℕ → List ℕ
in_order [] = []
in_order (x ∷ xs) = placed x (in_order xs)

-- 3. DTS

-- the greatest of the differences of two lists, place by place
unfoldable pub max_ahead : List ℕ → List ℕ → ℕ
max_ahead (x ∷ xs) (y ∷ ys) = max (x - y) (max_ahead xs ys)
max_ahead _ _ = 0

-- the least shift after which no moment in order is later than the moment in its place
abbrev pub shift_of : List ℕ → ℕ
shift_of moments = max_ahead (in_order moments) moments

-- moments that much earlier, as stamps
abbrev pub shifted : ℕ → List ℕ → List ℕ
shifted shift moments = map (λ m. (m - shift) % 2 ^ 33) moments

-- the moments in order, shifted
abbrev pub made_dts : List ℕ → List ℕ
made_dts stamps = shifted (shift_of (moments_of stamps)) (in_order (moments_of stamps))

-- 4. What can't be made

unfoldable pub is_first : ℕ → List ℕ → Bool
is_first x [] = false
is_first x (y ∷ ys) = x == y

-- the stamp of the first moment that occurs twice, among moments in order
unfoldable pub first_same_pts : List ℕ → Option DtsFault
first_same_pts [] = None
first_same_pts (x ∷ xs) = if is_first x xs then Some (SamePts (x % 2 ^ 33)) else first_same_pts xs

-- the first moment that is more than a second after the DTS in its place: its place, and how long it is after
unfoldable pub first_late_pts : ℕ → ℕ → List ℕ → List ℕ → Option DtsFault
first_late_pts shift place (x ∷ xs) (y ∷ ys) =
    if nat_lt 90_000 (y - (x - shift)) then Some (PtsTooLate place (y - (x - shift))) else first_late_pts shift (place + 1) xs ys
first_late_pts shift place _ _ = None

unfoldable pub fault_of_moments : List ℕ → Option DtsFault
fault_of_moments moments = option_or (first_same_pts (in_order moments)) (first_late_pts (shift_of moments) 0 (in_order moments) moments)

abbrev pub dts_fault : List ℕ → Option DtsFault
dts_fault stamps = fault_of_moments (moments_of stamps)

-- 5. Units with the DTS that are made

abbrev pub pts_of : List CarriedUnit → List ℕ
pts_of us = map (λ u. u.unit.pts) us

unfoldable pub with_dts : List ℕ → List CarriedUnit → List CarriedUnit
with_dts (d ∷ ds) (u ∷ us) = unit_with u.packet u.stream_id d u.unit.pts u.unit.marks u.unit.bytes ∷ with_dts ds us
with_dts _ _ = []

abbrev pub made_units : List CarriedUnit → List CarriedUnit
made_units us = with_dts (made_dts (pts_of us)) us
