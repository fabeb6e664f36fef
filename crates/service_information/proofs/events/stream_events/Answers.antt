use Rattle.std.proofs.Common.{◌≡◌, ◌∙◌, List, [], Global, map, sym, ap}
use Rattle.pid_findings.specs.Shown.{finding_view}
use Rattle.service_information.specs.EventSections.{event_section_found}
use Rattle.service_information.specs.Events.{FoundEventView, stream_events, with_findings, with_section}
use Rattle.service_information.proofs.EventSteps.{events_more, events_end}
use Rattle.service_information.proofs.events.stream_events.Goals as goal

pub loop-finding-init : goal.loop-finding-init
loop-finding-init c =
    ap (λ (taken : List FoundEventView). with_findings c.args.numbers.now taken (map (finding_view {A = Global}) c.args.findings.now))
    (sym c.new-taken.ensures.items)

pub loop-finding-preserved : goal.loop-finding-preserved
loop-finding-preserved c =
    c.loop-finding.invariant
    ∙ events_more (finding_view {A = Global}) c.args.numbers.now c.loop-finding.finding-index c.args.findings.now c.finding-item.result
    c.loop-finding.taken.items c.take_section.new.taken.items c.loop-finding-test.true c.finding-item.is
    (c.in_ok-take_section.ensures ∙ ap (with_section c.args.numbers.now c.loop-finding.taken.items) c.event_section_found.ensures)

pub returns : goal.returns
unfolding stream_events
returns c =
    sym (c.loop-finding.invariant
    ∙ events_end (finding_view {A = Global}) c.args.numbers.now c.loop-finding.finding-index c.args.findings.now c.loop-finding.taken.items
    c.loop-finding-test.false)
