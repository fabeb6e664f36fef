use Rattle.std.proofs.Common.{take}
use Rattle.mux_core.specs.Exchanges.{IsEach}
use Rattle.mux_core.specs.LineUpSteps.{stream_number_before}
use Rattle.mux_core.proofs.line_up_parts.streams_before.Given as goal

abbrev pub invariant-loop-number : goal.invariant-loop-number
invariant-loop-number l = IsEach (stream_number_before l.old l.new) (take l.number l.new.streams) l.numbers.items
