use Rattle.std.proofs.Common.{◌≡◌, ◌+◌, ◌<◌, ◌^◌, length}
use Rattle.job_inputs.specs.JoinedInputs.{joined_inputs, with_inputs}
use Rattle.job_inputs.proofs.joined_inputs.all_joined.Given as goal

-- The remaining inputs are joined to the inputs so far, and their number always fits.
abbrev pub invariant-inputs : goal.invariant-inputs
invariant-inputs l = record {
  most : l.number + length l.left.items < 2 ^ 64;
  same : joined_inputs l.fn.first l.fn.more.items ≡ with_inputs (l.number + 1) l.all l.left.items;
}

abbrev pub decreases-inputs : goal.decreases-inputs
decreases-inputs l = length l.left.items
