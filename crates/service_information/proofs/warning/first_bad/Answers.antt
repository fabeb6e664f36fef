use Rattle.std.proofs.Common.{◌≡◌, ◌∙◌, Global, sym, true, false, rules}
use Rattle.pid_findings.specs.Shown.{finding_view}
use Rattle.service_information.specs.Warnings.{is_bad_on}
use Rattle.service_information.proofs.FirstPackets.{packet_later, packet_here, packet_end}
use Rattle.service_information.proofs.warning.first_bad.Goals as goal

pub loop-finding-preserved : goal.loop-finding-preserved
loop-finding-preserved c =
    let not : c.is_bad_on.result ≡ false = search rules in
    c.loop-finding.invariant
    ∙ packet_later (finding_view {A = Global}) (is_bad_on c.args.pid) c.loop-finding.finding-index c.args.findings.now c.finding-item.result
    c.loop-finding-test.true c.finding-item.is (sym c.is_bad_on.ensures ∙ not)

pub returns-then-is_bad_on : goal.returns-then-is_bad_on
returns-then-is_bad_on c =
    let is : c.is_bad_on.result ≡ true = search rules in
    sym (c.loop-finding.invariant
    ∙ packet_here (finding_view {A = Global}) (is_bad_on c.args.pid) c.loop-finding.finding-index c.args.findings.now c.finding-item.result
    c.loop-finding-test.true c.finding-item.is (sym c.is_bad_on.ensures ∙ is))

pub returns : goal.returns
returns c =
    sym (c.loop-finding.invariant ∙ packet_end (finding_view {A = Global}) (is_bad_on c.args.pid) c.loop-finding.finding-index c.args.findings.now
    c.loop-finding-test.false)
