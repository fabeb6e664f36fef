use Rattle.std.proofs.Common.{◌∙◌, ap}
use Rattle.es_moments.specs.CountedUnits.{weighed_packets}
use Rattle.es_moments.proofs.UnitWeights.{packets_are}
use Rattle.es_moments.proofs.counted_packets.CountedPackets.of_units.Goals as goal

pub returns : goal.returns
returns g c = λ id.
    c.in_ok-packets.ensures ∙ ap weighed_packets (c.deref.ensures.value ∙ c.in_ok-weights.ensures.weights id) ∙ packets_are id c.args.base0 c.args.units.now
