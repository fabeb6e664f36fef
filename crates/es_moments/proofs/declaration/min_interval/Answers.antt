use Rattle.std.proofs.Common.{◌∙◌, sym, ap, ℕ}
use Rattle.es_moments.specs.Declaration.{interval_after}
use Rattle.es_moments.proofs.UnitCounts.{least_none, least_some}
use Rattle.es_moments.proofs.declaration.min_interval.Goals as goal

pub returns-in_default-clause-value : goal.returns-in_default-clause-value
returns-in_default-clause-value g c = sym (least_none c.args.units.now c.in_default.ensures.cases)

pub returns-clause-value : goal.returns-clause-value
returns-clause-value g c =
    c.interval_after.ensures.value ∙ ap (λ (dts : ℕ). interval_after dts c.in-Some.rest.now) c.dts_of.ensures
    ∙ sym (least_some c.args.units.now c.in-Some.rest.now c.in-Some.first.now c.in-Some.ensures.cases.0)
