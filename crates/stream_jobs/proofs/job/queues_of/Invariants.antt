use Rattle.std.proofs.Common.{◌≡◌, ◌++◌, map}
use Rattle.stream_jobs.proofs.job.queues_of.Given as goal

abbrev pub invariant-loop-stream : goal.invariant-loop-stream
invariant-loop-stream l =
    (goal.iterator-loop-stream).can_next l.stream-iterator ×
    (goal.iterator-loop-stream).is_finite l.stream-iterator ×
    (map (λ q. q.items) l.queues.items ++ map (λ t. t.units) l.stream-iterator.rest.items ≡ map (λ t. t.units) l.fn.streams.items)
