use Rattle.std.proofs.Common.{◌≡◌, ◌∙◌, Global, sym, true, false, rules}
use Rattle.std.specs.Prelude.{option_map}
use Rattle.pid_findings.specs.Shown.{finding_view}
use Rattle.ts_services.specs.NetworkInformation.{found_network_view}
use Rattle.job_programs.proofs.NetworkSteps.{surplus_later, surplus_here, surplus_end}
use Rattle.job_programs.proofs.other_streams.surplus_from.Goals as goal

pub loop-finding-preserved : goal.loop-finding-preserved
loop-finding-preserved c =
    let stays : c.is_surplus.result ≡ false = search rules in
    c.loop-finding.invariant
    ∙ surplus_later (finding_view {A = Global}) c.args.id (option_map found_network_view c.args.network) c.args.others.now c.loop-finding.finding-index
    c.args.findings.now c.finding-item.result c.loop-finding-test.true c.finding-item.is (sym c.is_surplus.ensures ∙ stays)

pub returns-then-is_surplus : goal.returns-then-is_surplus
returns-then-is_surplus c =
    let differs : c.is_surplus.result ≡ true = search rules in
    sym (c.loop-finding.invariant
    ∙ surplus_here (finding_view {A = Global}) c.args.id (option_map found_network_view c.args.network) c.args.others.now c.loop-finding.finding-index
    c.args.findings.now c.finding-item.result c.loop-finding-test.true c.finding-item.is (sym c.is_surplus.ensures ∙ differs))

pub returns : goal.returns
returns c =
    sym (c.loop-finding.invariant
    ∙ surplus_end (finding_view {A = Global}) c.args.id (option_map found_network_view c.args.network) c.args.others.now c.loop-finding.finding-index
    c.args.findings.now c.loop-finding-test.false)
