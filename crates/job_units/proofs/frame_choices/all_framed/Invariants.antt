use Rattle.std.proofs.Common.{◌≡◌, ◌++◌, length}
use Rattle.job_units.specs.Declarations.{all_framed}
use Rattle.job_units.proofs.frame_choices.all_framed.Given as goal

abbrev pub invariant-streams : goal.invariant-streams
invariant-streams l =
    l.chosen.items ++ all_framed l.declare_by l.greatest_lead l.sum l.all l.first
    ≡ all_framed l.declare_by l.greatest_lead l.sum l.initial.all l.initial.first

abbrev pub decreases-streams : goal.decreases-streams
decreases-streams l = length l.all
