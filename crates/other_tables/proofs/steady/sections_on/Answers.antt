use Rattle.std.proofs.Common.{◌≡◌, ◌∙◌, ◌++◌, List, Global, Some, None, map, ap, sym, rules}
use Rattle.std.proofs.lemmas.List.{map-append}
use Rattle.std.specs.Prelude.{option_to_list}
use Rattle.pid_findings.specs.Shown.{finding_view}
use Rattle.other_tables.specs.SteadySections.{section_on, section_view, sections_on}
use Rattle.other_tables.specs.declared.steady.FoundSection.{FoundSection}
use Rattle.other_tables.proofs.SectionSteps.{sections_more, sections_none, sections_end}
use Rattle.other_tables.proofs.steady.sections_on.Goals as goal

pub loop-finding-init : goal.loop-finding-init
loop-finding-init c =
    ap (λ (l : List FoundSection). sections_on c.args.count c.args.pid (map section_view l) (map (finding_view {A = Global}) c.args.findings.now))
    (sym c.new-sections.ensures.items)

pub returns-in_default : goal.returns-in_default
returns-in_default c =
    let l = c.loop-finding in
    let is : section_on c.args.count c.args.pid (finding_view {A = Global} c.finding-item.result) ≡ None = search rules in
    sym (l.invariant ∙ sections_none (finding_view {A = Global}) c.args.count c.args.pid l.finding-index c.args.findings.now c.finding-item.result
    (map section_view l.sections.items)
    c.loop-finding-test.true c.finding-item.is is)

pub loop-finding-preserved : goal.loop-finding-preserved
loop-finding-preserved c =
    let l = c.loop-finding in
    let one = map section_view (option_to_list c.in-Some.one) in
    let is : section_on c.args.count c.args.pid (finding_view {A = Global} c.finding-item.result) ≡ Some one = search rules in
    let made : map section_view c.push_if.new.sections.items ≡ map section_view l.sections.items ++ one =
    ap (map section_view) c.in_ok-push_if.ensures ∙ map-append section_view l.sections.items (option_to_list c.in-Some.one) in
    l.invariant
    ∙ sections_more (finding_view {A = Global}) c.args.count c.args.pid l.finding-index c.args.findings.now c.finding-item.result
    (map section_view l.sections.items) one
    (map section_view c.push_if.new.sections.items) c.loop-finding-test.true c.finding-item.is is made

pub returns : goal.returns
returns c =
    sym (c.loop-finding.invariant
    ∙ sections_end (finding_view {A = Global}) c.args.count c.args.pid c.loop-finding.finding-index c.args.findings.now
    (map section_view c.loop-finding.sections.items) c.loop-finding-test.false)
