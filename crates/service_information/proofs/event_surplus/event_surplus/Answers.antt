use Rattle.std.proofs.Common.{◌≡◌, ◌∙◌, Global, sym, true, false, rules}
use Rattle.pid_findings.specs.Shown.{finding_view}
use Rattle.service_information.specs.EventSurplus.{is_surplus, event_surplus}
use Rattle.service_information.proofs.FirstPackets.{packet_later, packet_here, packet_end}
use Rattle.service_information.proofs.event_surplus.event_surplus.Goals as goal

pub loop-finding-preserved : goal.loop-finding-preserved
loop-finding-preserved c =
    let not : c.is_surplus.result ≡ false = search rules in
    c.loop-finding.invariant
    ∙ packet_later (finding_view {A = Global}) (is_surplus c.args.numbers.now c.args.taken.now) c.loop-finding.finding-index c.args.findings.now
    c.finding-item.result
    c.loop-finding-test.true c.finding-item.is (sym c.is_surplus.ensures ∙ not)

pub returns-then-is_surplus : goal.returns-then-is_surplus
unfolding event_surplus
returns-then-is_surplus c =
    let is : c.is_surplus.result ≡ true = search rules in
    sym (c.loop-finding.invariant
    ∙ packet_here (finding_view {A = Global}) (is_surplus c.args.numbers.now c.args.taken.now) c.loop-finding.finding-index c.args.findings.now
    c.finding-item.result
    c.loop-finding-test.true c.finding-item.is (sym c.is_surplus.ensures ∙ is))

pub returns : goal.returns
unfolding event_surplus
returns c =
    sym (c.loop-finding.invariant ∙ packet_end (finding_view {A = Global}) (is_surplus c.args.numbers.now c.args.taken.now) c.loop-finding.finding-index
    c.args.findings.now c.loop-finding-test.false)
