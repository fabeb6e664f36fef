use Rattle.std.proofs.Common.{◌∙◌, ap}
use Rattle.es_moments.specs.CountedUnits.{weighed_units}
use Rattle.es_moments.proofs.UnitWeights.{units_are}
use Rattle.es_moments.proofs.counted_units.CountedUnits.of_units.Goals as goal

pub returns : goal.returns
returns g c =
    c.in_ok-units.ensures ∙ ap weighed_units (c.deref.ensures.value ∙ c.in_ok-weights.ensures.weights 0) ∙ units_are c.args.all.now
