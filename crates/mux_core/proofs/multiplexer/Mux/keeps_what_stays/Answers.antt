use Rattle.std.proofs.Common.{◌∙◌, subst}
use Rattle.description_parts.specs.Ranges.{IsInRange}
use Rattle.mux_core.proofs.TakenLineUps.{fault_is}
use Rattle.mux_core.proofs.multiplexer.Mux.keeps_what_stays.Goals as goal

pub returns : goal.returns
returns g c = λ none.
    let before = c.in-Some.plan.now in
    let next = c.args.next.now in
    let ranges = subst IsInRange c.description.ensures.description c.keeps_ranges.ensures in
    let others = subst IsInRange c.description-2.ensures.description c.keeps_ranges-2.ensures in
    record {
      before = before;
      is = c.in-Some.ensures.plan;
      ranges = ranges;
      kept = c.kept.ensures before next ranges others c.plan-2.ensures.serving c.plan-3.ensures.serving
          (fault_is c.args.self.now.schedule before next c.in-Some.ensures.plan ∙ none);
    }
