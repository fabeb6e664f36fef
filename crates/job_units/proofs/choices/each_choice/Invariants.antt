use Rattle.std.proofs.Common.{◌≡◌, IfSome, length, zip}
use Rattle.job_programs.specs.Answers.{each}
use Rattle.job_units.specs.Declarations.{chosen, own_groups}
use Rattle.job_programs.proofs.Each.{after}
use Rattle.job_units.proofs.choices.each_choice.Given as goal

abbrev pub invariant-loop-stream : goal.invariant-loop-stream
invariant-loop-stream l = record {
  each : each (chosen l.declare_by l.greatest_lead l.sum) (zip l.fn.streams l.fn.all) ≡ after l.choices.items
      (each (chosen l.declare_by l.greatest_lead l.sum) (zip l.left l.others));
  known : IfSome l.known (λ k. k.choice ≡ own_groups l.declare_by l.greatest_lead l.sum k.unit_counts.now);
}

abbrev pub decreases-loop-stream : goal.decreases-loop-stream
decreases-loop-stream l = length l.left
