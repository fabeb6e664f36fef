-- When a unit is due (ISO/IEC 13818-1, 2.4.2.2 and 2.4.3.7).
use Rattle.std.specs.Prelude.{ℕ, ◌+◌, ◌*◌, ◌/◌}
use Rattle.tstd_rows.specs.declared.unit_seen.DueTime.{DueTime}

-- when a unit is due at `tick`, in ticks of 27 MHz after the first byte of the stream, in units of time at its buffer, 8 / (step * rx) seconds each: its
-- bytes stay until the first whole unit of time at or after the tick, and its last byte may leave the transport buffer up to the last whole unit of time at
-- or before it
abbrev pub due_on : ℕ → ℕ → ℕ → DueTime
due_on step rx tick = record { until = (tick * (step * rx) + 215999999) / 216000000; deadline = tick * (step * rx) / 216000000 }
