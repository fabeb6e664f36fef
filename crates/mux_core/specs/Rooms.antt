-- How many units of each stream may wait.
use Rattle.std.specs.Prelude.{ℕ, ◌+◌, ◌&&◌, min, max, nat_le, Bool, true}
use Rattle.std.specs.Int.{div_ceil}
use Rattle.unit_timing.specs.Allowances.{pace_curve}
use Rattle.unit_timing.specs.declared.allowance.Allowance.{Allowance}
use Rattle.unit_timing.specs.declared.allowance.Allowance.TheVariants.{Groups, Pace}
use Rattle.description_parts.specs.Described.{DescribedStream}
use Rattle.mux_core.specs.declared.room.Room.{Room}
use Rattle.mux_core.specs.declared.room.Room.TheVariants.{Units, Due}

-- the units that may be due within a time if they are an interval apart, plus the next unit
abbrev pub spaced_units : ℕ → ℕ → ℕ
spaced_units time interval = div_ceil time (max interval 1) + 1

-- no more of them than the packets that a pace lets be due, as each unit has one
abbrev pub declared_units : Allowance → ℕ → ℕ → ℕ
declared_units (Groups units packets) time spaced = spaced
declared_units (Pace burst pace) time spaced = min spaced (pace_curve burst pace time + 1)

-- the units of a stream that may be due within a time, plus the next unit
abbrev pub needed_units : ℕ → DescribedStream → ℕ
needed_units time s = declared_units s.allowance time (spaced_units time s.interval)

-- the units of this stream that may wait: as many as there may be, but at most 1,048,576
abbrev pub room_in : Room → DescribedStream → ℕ
room_in (Units units) s = units
room_in (Due time) s = min (needed_units time s) 1048576

-- a room of units has 1 to 1,048,576 of them
abbrev pub is_room : Room → Bool
is_room (Units units) = nat_le 1 units && nat_le units 1048576
is_room (Due time) = true
