-- The units of a stream, as far as their timing goes.
use Rattle.std.specs.Prelude.{ℕ, ◌+◌, ◌-◌, ◌*◌, ◌/◌, ◌%◌, ◌≤◌, min, List, [], ◌∷◌, ◌++◌, length, take, drop, sum_by}

-- a unit as it is sent, its PES packet, header and data (ISO/IEC 13818-1, 2.4.3.6): its bytes, and when it is due, the decoding
-- time stamp counted in units of 90 kHz from the start of the run; `front` is the size of the adaptation field for it before its
-- bytes in its first transport packet, 0 if there is none
pub record PesPacket : Type 0 where
  pub dts : ℕ
  pub size : ℕ
  pub front : ℕ

-- the transport packets that carry the unit: 184 bytes in each, `front` included, and the remaining bytes in the last one
abbrev pub packets_of_unit : PesPacket → ℕ
packets_of_unit unit = (unit.front + unit.size + 183) / 184

abbrev pub packets_of_units : List PesPacket → ℕ
packets_of_units units = sum_by packets_of_unit units

-- the first unit is due no earlier than `from`, and each further one at least `apart` after the one before
unfoldable pub Spaced : ℕ → ℕ → List PesPacket → Type 0
Spaced apart from [] = Unit {0}
Spaced apart from (unit ∷ units) = (from ≤ unit.dts) × Spaced apart (unit.dts + apart) units

-- each unit has at most n packets, and any g units in a row (all remaining units, if they are fewer) have at most
-- `most`
unfoldable pub GroupsWithin : ℕ → ℕ → ℕ → List PesPacket → Type 0
GroupsWithin g most n [] = Unit {0}
GroupsWithin g most n (unit ∷ units) = (packets_of_unit unit ≤ n) × (packets_of_units (take g (unit ∷ units)) ≤ most) × GroupsWithin g most n units

-- the most packets that m units in a row then have
abbrev pub grouped : ℕ → ℕ → ℕ → ℕ → ℕ
grouped g most n m = m / g * most + min (m % g * n) most

-- each unit has at most `largest` bytes
unfoldable pub Sized : ℕ → List PesPacket → Type 0
Sized largest [] = Unit {0}
Sized largest (unit ∷ units) = (unit.size ≤ largest) × Sized largest units

-- ---- one unit more

-- the least stamp that the next unit may have
unfoldable pub next_due : ℕ → ℕ → List PesPacket → ℕ
next_due apart from [] = from
next_due apart from (unit ∷ units) = next_due apart (unit.dts + apart) units

-- the packets of the last k units
abbrev pub last_packets : ℕ → List PesPacket → ℕ
last_packets k units = packets_of_units (drop (length units - k) units)

-- a further unit keeps its distance exactly if it is due no earlier
pub record SpacedMoreLaw : Type 0 where
  pub more : (apart from : ℕ) (units : List PesPacket) (unit : PesPacket) → Spaced apart from units → next_due apart from units ≤ unit.dts →
      Spaced apart from (units ++ unit ∷ [])
  pub back : (apart from : ℕ) (units : List PesPacket) (unit : PesPacket) → Spaced apart from (units ++ unit ∷ []) →
      Spaced apart from units × (next_due apart from units ≤ unit.dts)

-- a further unit keeps the greatest size exactly if it is not too large
pub record SizedMoreLaw : Type 0 where
  pub more : (largest : ℕ) (units : List PesPacket) (unit : PesPacket) → Sized largest units → unit.size ≤ largest → Sized largest (units ++ unit ∷ [])
  pub back : (largest : ℕ) (units : List PesPacket) (unit : PesPacket) → Sized largest (units ++ unit ∷ []) → Sized largest units × (unit.size ≤ largest)

-- with a further unit the units keep the groups of m + 1 exactly if the unit has at most n packets, and at most `most` together
-- with the m units before it
pub record GroupMoreLaw : Type 0 where
  pub more : (m most n : ℕ) (units : List PesPacket) (unit : PesPacket) → GroupsWithin (m + 1) most n units →
      packets_of_unit unit ≤ n → last_packets m units + packets_of_unit unit ≤ most → GroupsWithin (m + 1) most n (units ++ unit ∷ [])
  pub back : (m most n : ℕ) (units : List PesPacket) (unit : PesPacket) → GroupsWithin (m + 1) most n (units ++ unit ∷ []) →
      GroupsWithin (m + 1) most n units × (packets_of_unit unit ≤ n) × (last_packets m units + packets_of_unit unit ≤ most)
