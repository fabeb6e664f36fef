use Rattle.std.proofs.Common.{◌≡◌, ◌++◌, map}
use Rattle.job_run.proofs.files_outcome.inputs_of.Given as goal

abbrev pub invariant-loop-one : goal.invariant-loop-one
invariant-loop-one l =
    (goal.iterator-loop-one).can_next l.one-iterator ×
    (goal.iterator-loop-one).is_finite l.one-iterator ×
    (l.inputs.items ++ map (λ t. t.input) l.one-iterator.rest.items ≡ map (λ t. t.input) l.fn.taken.items)
