-- The most bytes of payload that a stream's own slots carry in a time.
use Rattle.std.specs.Prelude.{ℕ, ◌+◌, ◌-◌, ◌*◌, ◌/◌}
use Rattle.clock27.specs.Units.{slot_units_at_1bps}
use Rattle.own_slots.specs.Spread.{most_within}
use Rattle.description_parts.specs.Described.{Described}
use Rattle.slot_plan.specs.Planned.{Planned}
use Rattle.slot_plan.specs.Claims.{stream_share}

-- the slots that begin in `time` units of 90 kHz, rounded up
abbrev pub slots_of_time : ℕ → ℕ → ℕ
slots_of_time time rate = (time * rate + (slot_units_at_1bps - 1)) / slot_units_at_1bps

-- the bytes that stream number i sends at most within `time`
abbrev pub sent_within : Described → Planned → ℕ → ℕ → ℕ
sent_within d p i time = let own = stream_share p i in 184 * most_within own.count own.period own.spread (slots_of_time time d.rate)
