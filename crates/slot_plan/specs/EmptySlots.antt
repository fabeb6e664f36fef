-- The slots where a buffer becomes empty: a transport buffer and a multiplexing buffer have to do so at least once a second
-- (ISO/IEC 13818-1, 2.4.2.6).
use Rattle.std.specs.Prelude.{ℕ, ◌+◌, ◌-◌, ◌*◌, ◌<◌, ◌≤◌, Bool, nat_lt, ◌&&◌, not, List, [], ◌∷◌}
use Rattle.clock27.specs.Units.{slot_seconds_at_1bps}
use Rattle.own_slots.specs.Period.{per_period, position, back}
use Rattle.own_slots.specs.Gaps.{gap}
use Rattle.own_slots.specs.Work.{work_step}

-- whether a buffer becomes empty in a slot, with that work before it: the slot is not its own, and drains all that is left. The
-- work counts a packet as if it came whole at its slot's end: so at the begin of the next slot a slot's drain is gone already
abbrev pub becomes_empty : ℕ → ℕ → Bool → Bool
becomes_empty drain work mark = not mark && nat_lt (work - 188 * drain) (188 * drain)

-- the slots of a period where the buffer becomes empty, if the period begins with this work
unfoldable pub empty_slots : ℕ → ℕ → ℕ → List Bool → List Bool
empty_slots rate drain work [] = []
empty_slots rate drain work (mark ∷ marks) = becomes_empty drain work mark ∷ empty_slots rate drain (work_step rate drain work mark) marks

-- each second of a plan has such a slot, also across the end of a period
pub record EmptiesEachSecond (rate drain start : ℕ) (marks : List Bool) : Type 0 where
  pub some : 0 < per_period (empty_slots rate drain start marks)
  pub often : gap (empty_slots rate drain start marks) 1 * slot_seconds_at_1bps ≤ rate

-- the second plan's first such slot is within a second of the first plan's last one
pub record EmptiesAcross (rate drain start : ℕ) (first : List Bool) (next_start : ℕ) (second : List Bool) : Type 0 where
  pub often : (position (empty_slots rate drain next_start second) 0 + back (empty_slots rate drain start first) 1) * slot_seconds_at_1bps ≤ rate
