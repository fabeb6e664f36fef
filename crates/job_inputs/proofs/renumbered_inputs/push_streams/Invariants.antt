use Rattle.std.proofs.Common.{◌≡◌, ◌++◌, map}
use Rattle.job_inputs.specs.RenumberedInputs.{stream_with}
use Rattle.job_inputs.proofs.renumbered_inputs.push_streams.Given as goal

abbrev pub invariant-loop-stream : goal.invariant-loop-stream
invariant-loop-stream l =
    (goal.iterator-loop-stream).can_next l.stream-iterator ×
    (goal.iterator-loop-stream).is_finite l.stream-iterator ×
    (l.streams.items ++ map (stream_with l.numbers) l.stream-iterator.rest.items ≡ l.initial.streams.items ++ map (stream_with l.numbers) l.fn.found.items)
