use Rattle.std.proofs.Common.{◌∙◌, map, rules, tests}
use Rattle.std.proofs.lemmas.Iterator.{YieldsList-from_slice}
use Rattle.std.proofs.lemmas.Iterator.Search.{all_from_yields_List}
use Rattle.other_tables.specs.SteadySections.{section_view, comes_again}
use Rattle.other_tables.specs.declared.steady.FoundSection.{FoundSection}
use Rattle.other_tables.proofs.SectionSteps.{all_view}
use Rattle.other_tables.proofs.steady.all_come_again.Goals as goal

pub returns : goal.returns
unfolding comes_again
returns c =
    let all = map section_view c.args.all.now in
    let known = c.args.known.now in
    all_from_yields_List (λ (x : FoundSection). comes_again all (section_view x)) _ _ _ c.all.ensures.ran (YieldsList-from_slice known cc)
    (λ x b q k. search (rules, tests))
    ∙ all_view section_view (comes_again all) known
