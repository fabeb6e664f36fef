-- Whether the main buffer of a stream holds what waits if access units are removed one by one (ISO/IEC 13818-1, 2.4.2.3).
use Rattle.std.specs.Prelude.{ℕ, slice_index, ◌+◌, ◌-◌, ◌*◌, ◌/◌, ◌&&◌, min, max, nat_le, nat_lt, Bool, if◌then◌else◌}
use Rattle.std.specs.Int.{div_ceil}
use Rattle.own_slots.specs.Extremes.{greatest}
use Rattle.stream_choice.specs.declared.frame_counts.FrameCounts.{FrameCounts}
use Rattle.stream_choice.specs.declared.needs.Needs.{Needs}
use Rattle.unit_timing.specs.Shares.{parts}

-- the most bytes of the last j access units of a unit that has more
abbrev pub left_of : FrameCounts → ℕ → ℕ
left_of f j = slice_index f.left (j - 1)

-- these sums are in the ranges of a description: the last access unit has bytes, and all but the first of a unit have at most a unit's
abbrev pub are_sums : Needs → FrameCounts → Bool
are_sums needs f = nat_lt 0 (left_of f 1) && nat_le (left_of f (f.frames - 1)) needs.size

-- all numbers are, a unit has two access units or more, and the last one is removed before the next unit is due
unfoldable pub is_framing : Needs → FrameCounts → Bool
is_framing needs f = nat_lt 1 f.frames && nat_le f.frames 64 && nat_lt 0 f.frame && nat_le f.frame 90_000 && nat_lt 0 f.rest && nat_le f.rest 90_000
    && are_sums needs f

-- the most packets of a share that arrive within a lead, in an output whose shares have this sum, if each packet has a slot in a part of its own of
-- the time: the first in the last slot of its part, the last in the first slot of its part. So the more of all slots are the stream's, the fewer
abbrev pub framed_packets : ℕ → ℕ → ℕ → ℕ
framed_packets lead share sum = (lead * share + (parts - parts * share / max sum 1)) / parts + 1

-- the bytes of later units that arrive within a lead: by their sizes, and by the packets of the share
abbrev pub later_bytes : Needs → ℕ → ℕ → ℕ → ℕ
later_bytes needs lead share sum = min (div_ceil lead (max needs.interval 1) * (19 + needs.size)) (184 * framed_packets lead share sum)

-- how long after any moment with j access units of a unit left the next unit is due, at most the lead
abbrev pub ahead : FrameCounts → ℕ → ℕ → ℕ
ahead f lead j = min (f.rest + (j - 1) * f.frame) lead

-- the bytes that wait when j access units of a unit are left
unfoldable pub framed_bytes : Needs → FrameCounts → ℕ → ℕ → ℕ → ℕ → ℕ
framed_bytes needs f lead share sum j =
    left_of f j + (if nat_lt (ahead f lead j) lead then later_bytes needs (lead - ahead f lead j) share sum else 0)

-- the most bytes that wait when access units of a unit are left, but not all
abbrev pub most_waiting : Needs → FrameCounts → ℕ → ℕ → ℕ → ℕ
most_waiting needs f lead share sum = greatest (f.frames - 1) (λ before. framed_bytes needs f lead share sum (before + 1))

-- the longest lead with which the last access unit of a unit is in the buffers for at most a second (2.4.2.6): it comes a lead before the
-- unit's DTS, and leaves them when all others have left
abbrev pub framed_lead : FrameCounts → ℕ
framed_lead f = 90_000 - (f.frames - 1) * f.frame

abbrev pub keeps_framing : Needs → FrameCounts → ℕ → ℕ → ℕ → Bool
keeps_framing needs f lead share sum = is_framing needs f && (nat_le lead (framed_lead f) && nat_le (most_waiting needs f lead share sum) needs.main)
