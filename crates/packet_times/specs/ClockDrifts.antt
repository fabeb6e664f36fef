-- By how much a program clock drifts from the clock of its stream's arrival (ETSI TR 101 290, 5.3.2): a reference PCR(i) that arrives at the moment T(i)
-- is ahead by (PCR(i) - PCR(0)) - (T(i) - T(0)) ticks, where 0 is the reference at which the clock began, or began again. How much this grows in a
-- second is the frequency offset of the program clock, PCR_FO.
use Rattle.std.specs.Prelude.{ℕ, ◌+◌, ◌-◌, ◌^◌, min, Option, Some, None}
use Rattle.arrival.specs.declared.clock.ClockStep.{ClockStep}
use Rattle.arrival.specs.declared.clock.ClockStep.TheVariants.{First, GoesOn, Announced, Jump}
use Rattle.packet_times.specs.declared.drift.ClockDrift.{ClockDrift}

-- PCR(i) - PCR(0) is the sum of the ticks from each reference to the next; it stops at 2^64 - 1
abbrev pub begun : ℕ → ClockDrift
begun moment = record { begin = moment; ticks = 0; arrived = 0 }

abbrev pub continued : ClockDrift → ℕ → ℕ → ClockDrift
continued drift ticks moment = record { begin = drift.begin; ticks = min (drift.ticks + ticks) (2 ^ 64 - 1); arrived = moment - drift.begin }

unfoldable pub on_line : Option ClockDrift → ℕ → ℕ → ClockDrift
on_line None ticks moment = begun moment
on_line (Some drift) ticks moment = continued drift ticks moment

-- after a reference that arrives at a moment: the clock begins again at each reference that does not continue it
unfoldable pub drift_at : Option ClockDrift → ClockStep → ℕ → ClockDrift
drift_at drift First moment = begun moment
drift_at drift (GoesOn line) moment = on_line drift line.ticks moment
drift_at drift Announced moment = begun moment
drift_at drift (Jump ticks) moment = begun moment

-- the drift is not known after a reference without a moment
unfoldable pub drift_after : Option ClockDrift → ClockStep → Option ℕ → Option ClockDrift
drift_after drift step None = None
drift_after drift step (Some moment) = Some (drift_at drift step moment)

-- how many ticks the program clock is ahead, or behind
unfoldable pub ahead_of : Option ClockDrift → ℕ
ahead_of None = 0
ahead_of (Some drift) = drift.ticks - drift.arrived

unfoldable pub behind_of : Option ClockDrift → ℕ
behind_of None = 0
behind_of (Some drift) = drift.arrived - drift.ticks
