use Rattle.std.proofs.Common.{◌≡◌, ◌-◌, length, find}
use Rattle.std.specs.List.{range_with_len}
use Rattle.mux_core.specs.LineUpSteps.{leaves_waiting}
use Rattle.mux_core.proofs.multiplexer.Mux.first_waiting.Given as goal

abbrev pub invariant-loop-number : goal.invariant-loop-number
invariant-loop-number g l = find (leaves_waiting l.self l.next) (range_with_len 0 (length l.self.schedule.description.streams))
    ≡ find (leaves_waiting l.self l.next) (range_with_len l.number (length l.self.schedule.description.streams - l.number))
