use Rattle.std.proofs.Common.{◌∙◌, ap, sym}
use Rattle.std.specs.Prelude.{List, slice_get}
use Rattle.slot_plan.specs.Entries.{Entry}
use Rattle.slot_plan.specs.Conditions.{entries}
use Rattle.plan_checker.specs.Failing.{Search, after, asked_entries}
use Rattle.plan_checker.proofs.FailingSearch.{asked_fail, first_is, found_first}
use Rattle.plan_checker.proofs.checking.first_failing.Goals as goal

pub returns : goal.returns
returns g c =
    let asked = asked_entries c.args.description.now c.args.plan.now in
    c.first.ensures ∙ ap (λ (s : Search). slice_get s.found 0) (c.search_conditions.ensures ∙ ap (λ (s : Search). after s asked) c.new-search.ensures)
    ∙ found_first asked ∙ sym (first_is asked)
    ∙ ap (λ (es : List Entry). slice_get es 0) (asked_fail c.args.description.now c.args.plan.now) ∙ first_is (entries c.args.description.now c.args.plan.now)
