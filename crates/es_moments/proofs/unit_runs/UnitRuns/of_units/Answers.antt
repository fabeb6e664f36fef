use Rattle.std.proofs.Common.{◌∙◌, ap}
use Rattle.es_moments.specs.CountedUnits.{weighed_runs}
use Rattle.es_moments.proofs.UnitWeights.{runs_are}
use Rattle.es_moments.proofs.unit_runs.UnitRuns.of_units.Goals as goal

pub returns : goal.returns
returns g c = λ id.
    c.in_ok-runs.ensures ∙ ap weighed_runs (c.deref.ensures.value ∙ c.in_ok-weights.ensures.weights id) ∙ runs_are id c.args.base0 c.args.units.now
