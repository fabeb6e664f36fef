-- Deadlines: every unit is sent whole early enough that its last byte leaves the transport buffer by its decoding time.
--
-- Times at a buffer that is drained at r bits a second are in units of 8 / (R * r) seconds: a slot begins at 188 * r *
-- slot, and a moment x lies at or before a stamp of `due` units of 90 kHz if x * 720,000 ≤ due * R * r, 720,000
-- being 8 * 90,000.
use Rattle.std.specs.Prelude.{ℕ, suc, ◌+◌, ◌*◌, ◌<◌, ◌≤◌, min, Bool, List, [], ◌∷◌}
use Rattle.clock27.specs.Units.{slot_units_at_1bps}
use Rattle.clock27.specs.Units.{byte_units_at_1bps}
use Rattle.own_slots.specs.Slots.{own_before, AtLeastPerWindow, HasPace}
use Rattle.unit_timing.specs.PesPacket.{PesPacket, packets_of_unit, Spaced}
use Rattle.unit_timing.specs.Allowances.{group_curve, pace_curve, Allows}
use Rattle.unit_timing.specs.Schedule.{first_slot}

-- there is a slot with `number` own slots before it that begins at least `late` before the stamp `due`
pub record EndsInTime (own : ℕ → Bool) (rate r late number due : ℕ) : Type 0 where
  pub slot : ℕ
  pub sent : number ≤ own_before own slot
  pub early : slot * slot_units_at_1bps * r + late * byte_units_at_1bps ≤ due * rate * r

-- this holds for each unit and the own slots up to its last
unfoldable pub InTime : (ℕ → Bool) → ℕ → ℕ → ℕ → ℕ → ℕ → List PesPacket → Type 0
InTime own rate lead r late free [] = Unit {0}
InTime own rate lead r late free (unit ∷ units) =
    EndsInTime own rate r late (first_slot own rate lead free unit + packets_of_unit unit) unit.dts
    × InTime own rate lead r late (first_slot own rate lead free unit + packets_of_unit unit) units

-- units that are sent back to back, the first as soon as it is released and the last due `time` after it, are in time: the allowed
-- number of packets fits a window of own slots that ends `late` before the last unit is due
pub record FitsLead (own : ℕ → Bool) (allowed : ℕ → ℕ) (rate lead r late time : ℕ) : Type 0 where
  pub window : ℕ
  pub serves : AtLeastPerWindow own window (allowed time)
  pub in_time : (window + 1) * slot_units_at_1bps * r + late * byte_units_at_1bps ≤ (lead + time) * rate * r

-- it is enough to look at units that are sent back to back
abbrev pub StretchLaw : Type 0
StretchLaw = (own : ℕ → Bool) (allowed : ℕ → ℕ) (rate lead apart r late : ℕ) (units : List PesPacket) →
    ((time : ℕ) → FitsLead own allowed rate lead r late time) → Spaced apart lead units → Allows packets_of_unit allowed units →
    InTime own rate lead r late 0 units

-- a pace of own slots, `share` for `cost` slots after the first `base`, and a lead pay for the packets that are allowed in any time
abbrev pub IsPaid : ℕ → ℕ → ℕ → (ℕ → ℕ) → ℕ → ℕ → ℕ → ℕ → Type 0
IsPaid share cost base allowed rate lead r late = (time : ℕ) →
    (base + allowed time * cost + share) * slot_units_at_1bps * r + share * late * byte_units_at_1bps ≤ share * (lead + time) * rate * r

-- if the allowance is paid for, each unit is sent in time
abbrev pub DeadlineLaw : Type 0
DeadlineLaw = (own : ℕ → Bool) (share cost base : ℕ) (allowed : ℕ → ℕ) (rate lead apart r late : ℕ) (units : List PesPacket) →
    HasPace own share cost base → 0 < share → IsPaid share cost base allowed rate lead r late →
    Spaced apart lead units → Allows packets_of_unit allowed units → InTime own rate lead r late 0 units

-- groups are paid for if g units take no longer than g times their distance, and up to g units are in time
abbrev pub GroupsPaidLaw : Type 0
GroupsPaidLaw = (share cost base g most n rate lead apart r late : ℕ) → 0 < g → 0 < apart →
    most * cost * slot_units_at_1bps ≤ share * g * apart * rate →
    ((j : ℕ) → j < g → (base + min (suc j * n) most * cost + share) * slot_units_at_1bps * r
    + share * late * byte_units_at_1bps ≤ share * (lead + j * apart) * rate * r) →
    IsPaid share cost base (group_curve g most n apart) rate lead r late

-- a pace is paid for if its packets are no faster than the own slots, and the burst is in time
abbrev pub PacePaidLaw : Type 0
PacePaidLaw = (share cost base burst pace rate lead r late : ℕ) → pace * cost ≤ share * rate →
    (base + burst * cost + share) * slot_units_at_1bps * r + share * late * byte_units_at_1bps ≤ share * lead * rate * r →
    IsPaid share cost base (pace_curve burst pace) rate lead r late
