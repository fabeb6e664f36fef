use Rattle.std.proofs.Common.{◌∙◌, rules, tests}
use Rattle.std.proofs.lemmas.Iterator.{YieldsList-from_slice}
use Rattle.std.proofs.lemmas.Iterator.Search.{any_from_yields_List}
use Rattle.other_tables.specs.SteadySections.{section_view, is_same_section}
use Rattle.other_tables.specs.declared.steady.FoundSection.{FoundSection}
use Rattle.other_tables.proofs.SectionSteps.{any_view}
use Rattle.other_tables.proofs.steady.has_same.Goals as goal

pub returns : goal.returns
returns c =
    let all = c.args.others.now in
    let s = c.args.section.now in
    any_from_yields_List (λ (x : FoundSection). is_same_section (section_view s) (section_view x)) _ _ _ c.any.ensures.ran (YieldsList-from_slice all cc)
    (λ x b q k. search (rules, tests))
    ∙ any_view section_view (is_same_section (section_view s)) all
