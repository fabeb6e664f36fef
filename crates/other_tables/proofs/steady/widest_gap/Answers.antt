use Rattle.std.proofs.Common.{◌∙◌, ℕ, ap, sym, map, max, get_or}
use Rattle.other_tables.specs.SteadySections.{section_view}
use Rattle.other_tables.proofs.SectionSteps.{no_section, same_default, widest_more, widest_end}
use Rattle.other_tables.proofs.steady.widest_gap.Goals as goal

pub loop-section-preserved : goal.loop-section-preserved
loop-section-preserved c =
    let l = c.loop-section in
    let all = map section_view c.args.all.now in
    let known = c.args.known.now in
    let k = get_or known l.section-index no_section in
    l.invariant
    ∙ widest_more all l.section-index known k l.widest c.max-widest.result c.loop-section-test.true
    (same_default l.section-index known no_section c.loop-section-test.true)
    (c.max-widest.ensures ∙ ap (λ (gap : ℕ). max gap l.widest) c.greatest_gap.ensures)

pub returns : goal.returns
returns c =
    let l = c.loop-section in
    sym (l.invariant ∙ widest_end (map section_view c.args.all.now) l.section-index c.args.known.now l.widest c.loop-section-test.false)
