use Rattle.std.proofs.Common.{take}
use Rattle.mux_core.specs.Exchanges.{IsEach}
use Rattle.mux_core.specs.LineUpSteps.{fresh_queue}
use Rattle.mux_core.proofs.line_up_parts.new_queues.Given as goal

abbrev pub invariant-loop-stream : goal.invariant-loop-stream
invariant-loop-stream g l = IsEach (fresh_queue l.old l.new l.capacity) (take l.stream-index l.new.streams) l.queues.items
