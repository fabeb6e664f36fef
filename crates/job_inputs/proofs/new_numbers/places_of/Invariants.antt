use Rattle.std.proofs.Common.{◌≡◌, [], ◌++◌, drop}
use Rattle.job_inputs.specs.NewNumbers.{places_after}
use Rattle.job_inputs.proofs.new_numbers.places_of.Given as goal

abbrev pub invariant-loop-number : goal.invariant-loop-number
invariant-loop-number l = record {
  taken : l.taken.items ≡ (l.before ++ l.own) ++ l.given.items;
  places : places_after l.least l.before l.own [] l.own ≡ places_after l.least l.before l.own l.given.items (drop l.number-index l.own);
}
