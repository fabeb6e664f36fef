use Rattle.std.proofs.Common.{◌∙◌, ap}
use Rattle.std.specs.Prelude.{List, drop, take}
use Rattle.slot_plan.specs.Entries.{Entry}
use Rattle.plan_checker.specs.Failing.{Search, after, asked_entries}
use Rattle.plan_checker.proofs.FailingSearch.{asked_fail, found_from}
use Rattle.plan_checker.proofs.checking.failing_from.Goals as goal

pub returns : goal.returns
returns g c =
    let asked = asked_entries c.args.description.now c.args.plan.now in
    ap (λ (s : Search). s.found) (c.search_conditions.ensures ∙ ap (λ (s : Search). after s asked) c.new-search.ensures)
    ∙ found_from asked c.args.number 1024 ∙ ap (λ (es : List Entry). take 1024 (drop c.args.number es)) (asked_fail c.args.description.now c.args.plan.now)
