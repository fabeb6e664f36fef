use Rattle.std.proofs.Common.{◌∙◌, ap}
use Rattle.std.specs.Prelude.{not}
use Rattle.slot_plan.specs.Entries.{first_failing}
use Rattle.slot_plan.specs.Conditions.{shape_entries}
use Rattle.plan_checker.specs.Failing.{Search, after, is_full}
use Rattle.plan_checker.proofs.FailingSearch.{done_if_one_fails, none_is}
use Rattle.plan_checker.proofs.shape.is_shaped.Goals as goal

pub returns : goal.returns
returns g c =
    let shape = shape_entries c.args.description.now c.args.plan.now in
    ap not (c.is_done.ensures ∙ ap is_full (c.shape.ensures ∙ ap (λ (s : Search). after s shape) c.new-search.ensures) ∙ done_if_one_fails shape)
    ∙ none_is (first_failing shape)
