use Rattle.std.proofs.Common.{◌≡◌, map, take}
use Rattle.mux_core.specs.NewMux.{first_queue}
use Rattle.mux_core.proofs.making.first_queues.Given as goal

abbrev pub invariant-loop-stream : goal.invariant-loop-stream
invariant-loop-stream g l = l.queues.items ≡ map (first_queue l.description l.capacity) (take l.stream-index l.description.streams)
