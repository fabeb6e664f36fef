-- What recurs within a time: a number of own slots in a row within a gap, and each a distance after the one before it.
use Rattle.std.specs.Prelude.{ℕ, ◌+◌, ◌-◌, ◌*◌, ◌/◌, ◌==◌, [], ◌∷◌, Option, Some, None, nat_lt, if◌then◌else◌}
use Rattle.std.specs.Int.{div_ceil}
use Rattle.clock27.specs.Units.{slot_ms_at_1bps}
use Rattle.plan_maker.specs.Bounded.{product, plus, less, rounded_up, all_narrowed, most_wide}
use Rattle.plan_maker.specs.Joined.{lesser}
use Rattle.plan_maker.specs.declared.search.recurrence.Recurrence.{Recurrence}

-- the least slots from the begin of a packet to the begin of the next, such that a distance in ms is between them; 0 if
-- none is asked for
abbrev pub slots_apart : ℕ → ℕ → ℕ
slots_apart distance rate = if distance == 0 then 0 else plus (div_ceil (distance * rate) slot_ms_at_1bps) 1

-- `packets` own slots within a limit in ms, a distance in ms between two, at a rate in bits a second: the gap and the
-- distance in slots, each of 1,504 bits
abbrev pub recurrence_of : ℕ → ℕ → ℕ → ℕ → Recurrence
recurrence_of limit rate packets distance =
    record { gap = limit * rate / slot_ms_at_1bps; packets = packets; apart = slots_apart distance rate }

-- the least own slots of a period, evenly spaced, such that a gap has the packets: a slot has one packet at most
abbrev pub recurrence_count : Recurrence → ℕ → Option ℕ
recurrence_count r period = if nat_lt r.gap r.packets then None else all_narrowed (rounded_up (product (r.packets ∷ period ∷ [])) r.gap)

-- the most that `count` own slots may stray from even spacing, in slots times own slots, such that each gap still has the packets
abbrev pub gap_width : Recurrence → ℕ → ℕ → Option ℕ
gap_width r period count = less (product (count ∷ plus r.gap 1 ∷ [])) (plus (product (r.packets ∷ period ∷ [])) 1)

-- the most such that each own slot is the distance after the one before it, if one is asked for and evenly spaced slots
-- have it
abbrev pub apart_width : Recurrence → ℕ → ℕ → ℕ
apart_width r period count = if r.apart == 0 then most_wide else (if nat_lt period (product (count ∷ r.apart ∷ [])) then most_wide
    else period + (count - 1) - product (count ∷ r.apart ∷ []))

-- the most for both
abbrev pub recurrence_width : Recurrence → ℕ → ℕ → Option ℕ
recurrence_width r period count = all_narrowed (lesser (gap_width r period count) (Some (apart_width r period count)))
