use Rattle.std.proofs.Common.{◌∙◌, rules, tests}
use Rattle.std.specs.Str.{bytes_eq}
use Rattle.std.proofs.lemmas.Iterator.{YieldsList-from_slice}
use Rattle.std.proofs.lemmas.Iterator.Search.{any_from_yields_List}
use Rattle.other_tables.specs.SteadySections.{PidSection, section_view, is_known}
use Rattle.other_tables.specs.declared.steady.FoundSection.{FoundSection}
use Rattle.other_tables.proofs.SectionSteps.{any_view}
use Rattle.other_tables.proofs.steady.is_known.Goals as goal

pub returns : goal.returns
unfolding is_known
returns c =
    let all = c.args.known.now in
    let s = c.args.section.now in
    any_from_yields_List (λ (x : FoundSection). bytes_eq x.bytes.now s.bytes.now) _ _ _ c.any.ensures.ran (YieldsList-from_slice all cc)
    (λ x b q k. search (rules, tests))
    ∙ any_view section_view (λ (k : PidSection). bytes_eq k.bytes s.bytes.now) all
