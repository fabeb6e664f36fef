-- Stamps of 33 bits as moments of a run (ISO/IEC 13818-1, 2.4.3.7: PTS and DTS count periods of 90 kHz modulo 2^33).
use Rattle.std.specs.Prelude.{ℕ, ◌+◌, ◌-◌, ◌%◌, ◌^◌, ◌==◌, ◌||◌, min, nat_lt, nat_le, if◌then◌else◌, Option, Some, None, List, [], ◌∷◌, ◌≡◌, ◌≤◌, ◌<◌, map}
use Rattle.pes_packet.specs.AccessUnits.{AccessUnit}
use Rattle.es_moments.specs.declared.stamps.StampFault.{StampFault}
use Rattle.es_moments.specs.declared.stamps.StampFault.TheVariants.{DtsNotIncreasing, PtsOutOfRange, DtsTooFar}
use Rattle.pes_packet.specs.Encoding.{on_wire}

-- how long after a moment when the clock shows `from` it next shows a stamp
unfoldable pub distance : ℕ → ℕ → ℕ
distance from to = (to % 2 ^ 33 + 2 ^ 33 - from % 2 ^ 33) % 2 ^ 33

-- 1. Moments

-- the moment of a DTS: the first moment, from the DTS before it on, when the clock shows it, if it shows `base` at moment 0
unfoldable pub dts_at : ℕ → Option ℕ → ℕ → ℕ
dts_at base None stamp = distance base stamp
dts_at base (Some before) stamp = before + distance (before + base) stamp

-- the moment of a PTS: the first from the DTS on
abbrev pub pts_at : ℕ → ℕ → ℕ → ℕ
pts_at base dts stamp = dts + distance (dts + base) stamp

-- a unit with its stamps as moments
unfoldable pub unit_at : ℕ → Option ℕ → AccessUnit → AccessUnit
unit_at base before u = record { dts = dts_at base before u.dts; pts = pts_at base (dts_at base before u.dts) u.pts; marks = u.marks; bytes = u.bytes }

-- units one after another, the first after a DTS or after none
unfoldable pub moved : ℕ → Option ℕ → List AccessUnit → List AccessUnit
moved base before [] = []
moved base before (u ∷ us) = unit_at base before u ∷ moved base (Some (dts_at base before u.dts)) us

-- the last DTS after units, or the one before them
unfoldable pub dts_after : ℕ → Option ℕ → List AccessUnit → Option ℕ
dts_after base before [] = before
dts_after base before (u ∷ us) = dts_after base (Some (dts_at base before u.dts)) us

-- 2. What can't be moments of units

-- a DTS that does not rise: it is the same as the one before, or nearer before that one than after it
unfoldable pub dts_not_increasing : ℕ → Option ℕ → ℕ → Option StampFault
dts_not_increasing base None stamp = None
dts_not_increasing base (Some before) stamp =
    if distance (before + base) stamp == 0 || nat_le (2 ^ 32) (distance (before + base) stamp) then Some (DtsNotIncreasing (distance stamp (before + base)))
    else None

-- a PTS that is more than a limit after its DTS, or before it
abbrev pub pts_out_of_range : ℕ → ℕ → ℕ → ℕ → Option StampFault
pts_out_of_range limit base dts stamp = if nat_lt limit (distance (dts + base) stamp) then Some (PtsOutOfRange (distance (dts + base) stamp) limit) else None

-- a moment that no unit may have
abbrev pub dts_too_far : ℕ → Option StampFault
dts_too_far dts = if nat_lt (2 ^ 52) dts then Some DtsTooFar else None

-- the first of two faults
unfoldable pub or_fault : Option StampFault → Option StampFault → Option StampFault
or_fault (Some fault) next = Some fault
or_fault None next = next

-- the fault of a unit after a DTS or at first
abbrev pub unit_fault : ℕ → ℕ → Option ℕ → AccessUnit → Option StampFault
unit_fault limit base before u =
    or_fault (dts_not_increasing base before u.dts)
    (or_fault (pts_out_of_range limit base (dts_at base before u.dts) u.pts) (dts_too_far (dts_at base before u.dts)))

-- the place of the first unit with a fault, and its fault, among units one after another
unfoldable pub fault_or : ℕ → Option StampFault → Option (ℕ × StampFault) → Option (ℕ × StampFault)
fault_or place (Some fault) next = Some (place, fault)
fault_or place None next = next

unfoldable pub first_fault : ℕ → ℕ → Option ℕ → ℕ → List AccessUnit → Option (ℕ × StampFault)
first_fault limit base before place [] = None
first_fault limit base before place (u ∷ us) =
    fault_or place (unit_fault limit base before u) (first_fault limit base (Some (dts_at base before u.dts)) (place + 1) us)

-- 3. The constant of a clock

-- the least time from half the clock's range before the first stream's first DTS to the first DTS of a stream
unfoldable pub min_distance : ℕ → ℕ → List ℕ → ℕ
min_distance from least [] = least
min_distance from least (stamp ∷ stamps) = min_distance from (min least (distance from stamp)) stamps

-- the clock's value at moment 0, so that the earliest of the streams' first DTS is at moment `earliest`. The earliest is defined if all of them lie within half
-- the range of each other
abbrev pub constant_of : ℕ → ℕ → List ℕ → ℕ
constant_of earliest first others = distance earliest (first + 2 ^ 32 + min_distance (first + 2 ^ 32) (2 ^ 32) others)

-- the stamps on the wire are the moments with one constant, and the bytes are the same
abbrev pub MovedByOneConstant : Type 0
MovedByOneConstant = (base : ℕ) (before : Option ℕ) (us : List AccessUnit) →
    (map (λ u. on_wire (u.dts + base)) (moved base before us) ≡ map (λ u. on_wire u.dts) us)
    × (map (λ u. on_wire (u.pts + base)) (moved base before us) ≡ map (λ u. on_wire u.pts) us)
    × (map (λ u. u.marks) (moved base before us) ≡ map (λ u. u.marks) us)
    × (map (λ u. u.bytes) (moved base before us) ≡ map (λ u. u.bytes) us)

-- the first DTS of the streams on a clock, counted from half the range before the first stream's
abbrev pub after_half : ℕ → ℕ → ℕ
after_half first stamp = distance (first + 2 ^ 32) stamp

-- each first DTS is as long after `earliest` as it is after the least of them, if that is below the range
abbrev pub ConstantIsLeast : Type 0
ConstantIsLeast = (earliest first : ℕ) (others : List ℕ) (stamp : ℕ) → earliest < 2 ^ 33 →
    min_distance (first + 2 ^ 32) (2 ^ 32) others ≤ after_half first stamp →
    after_half first stamp - min_distance (first + 2 ^ 32) (2 ^ 32) others + earliest < 2 ^ 33 →
    distance (constant_of earliest first others) stamp ≡ after_half first stamp - min_distance (first + 2 ^ 32) (2 ^ 32) others + earliest
