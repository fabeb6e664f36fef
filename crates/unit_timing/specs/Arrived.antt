-- Units that are due have left the transport buffer whole.
use Rattle.std.specs.Prelude.{◌≡◌, ℕ, suc, ◌*◌, ◌<◌, ◌≤◌, Bool, cond, nat_le, ◌&&◌, not, Option, Some, None, List, [], ◌∷◌, take, drop, length, All}
use Rattle.std.specs.List.{list_all}
use Rattle.clock27.specs.Units.{slot_units_at_1bps}
use Rattle.clock27.specs.Units.{byte_units_at_1bps}
use Rattle.own_slots.specs.Slots.{own_slots}
use Rattle.own_slots.specs.Work.{BoundsWork}
use Rattle.unit_timing.specs.PesPacket.{PesPacket}
use Rattle.unit_timing.specs.Schedule.{packets_in_slots}
use Rattle.unit_timing.specs.Deadline.{InTime}
use Rattle.unit_timing.specs.Transport.{pes_left}

-- a unit is due if its stamp lies within a run of n slots
abbrev pub is_due : ℕ → ℕ → PesPacket → Bool
is_due rate n unit = nat_le (unit.dts * rate) (n * slot_units_at_1bps)

-- a unit has left: `left`, the departures of the stream's written bytes from this unit on, has all bytes of the unit, and none of
-- them leaves after the unit's stamp
abbrev pub has_left : ℕ → ℕ → PesPacket → List ℕ → Bool
has_left rate r unit left = nat_le unit.size (length left) && list_all (λ d. nat_le (d * byte_units_at_1bps) (unit.dts * rate * r)) (take unit.size left)

-- each unit that is due in a run of n slots has left whole by its stamp; `left` has the departures of all bytes of
-- units that are written
unfoldable pub AllLeft : ℕ → ℕ → ℕ → List PesPacket → List ℕ → Type 0
AllLeft rate r n [] left = Unit {0}
AllLeft rate r n (unit ∷ units) left =
    (unit.dts * rate ≤ n * slot_units_at_1bps → (unit.size ≤ length left) × All (λ d. d * byte_units_at_1bps ≤ unit.dts * rate * r) (take unit.size left))
    × AllLeft rate r n units (drop unit.size left)

-- the number of the first unit that is due and late, counted from `number`; the stamps may be in any order
unfoldable pub first_late : ℕ → ℕ → ℕ → ℕ → List PesPacket → List ℕ → Option ℕ
first_late rate r n number [] left = None
first_late rate r n number (unit ∷ units) left =
    cond (is_due rate n unit && not (has_left rate r unit left)) (Some number)
    (first_late rate r n (suc number) units (drop unit.size left))

-- none is late exactly if each due unit has left
pub record LateLaw : Type 0 where
  pub none_late : (rate r n number : ℕ) (units : List PesPacket) (left : List ℕ) → AllLeft rate r n units left → first_late rate r n number units left ≡ None
  pub all_left : (rate r n number : ℕ) (units : List PesPacket) (left : List ℕ) → first_late rate r n number units left ≡ None → AllLeft rate r n units left

-- if each unit ends in time and the work after an own slot is at most the time kept for it, each due unit leaves, in
-- a run of any length
abbrev pub ArrivedLaw : Type 0
ArrivedLaw = (own : ℕ → Bool) (rate lead r room peak : ℕ) (W : ℕ → ℕ) (units : List PesPacket) (n : ℕ) → 0 < r →
    BoundsWork own rate r room peak W → InTime own rate lead r peak 0 units →
    AllLeft rate r n units (pes_left rate r 0 (packets_in_slots own rate lead 0 units (own_slots own 0 n)))
