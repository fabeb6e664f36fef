use Rattle.std.proofs.Common.{◌∙◌, List, get_or, map, ap, sym}
use Rattle.other_tables.specs.SteadySections.{section_view, distinct_sections}
use Rattle.other_tables.specs.declared.steady.FoundSection.{FoundSection}
use Rattle.other_tables.proofs.SectionSteps.{new_more, new_end, no_section, same_default}
use Rattle.other_tables.proofs.steady.distinct_sections.Goals as goal

pub loop-section-init : goal.loop-section-init
loop-section-init c = ap (λ (l : List FoundSection). distinct_sections (map section_view l) (map section_view c.args.all.now)) (sym c.new-known.ensures.items)

pub loop-section-preserved : goal.loop-section-preserved
loop-section-preserved c =
    let l = c.loop-section in
    let all = c.args.all.now in
    let s = get_or all l.section-index no_section in
    l.invariant
    ∙ new_more l.section-index all s (map section_view l.known.items) (map section_view c.push_new.new.known.items) c.loop-section-test.true
    (same_default l.section-index all no_section c.loop-section-test.true) c.in_ok-push_new.ensures

pub returns : goal.returns
returns c =
    sym (c.loop-section.invariant ∙ new_end c.loop-section.section-index c.args.all.now (map section_view c.loop-section.known.items) c.loop-section-test.false)
