use Rattle.std.proofs.Common.{◌≡◌, ◌∙◌, ◌+◌, Option, None, Some, map, drop, sym, ap, rules}
use Rattle.std.specs.Prelude.{option_map}
use Rattle.std.specs.Option.{option_or}
use Rattle.pid_findings.specs.Shown.{finding_view}
use Rattle.ts_services.specs.NetworkInformation.{FoundNetworkView, found_network_view, first_network}
use Rattle.ts_services.specs.declared.network_information.FoundNetwork.{FoundNetwork}
use Rattle.ts_services.proofs.NetworkSteps.{first_more, first_end}
use Rattle.ts_services.proofs.network_information.first_network.Goals as goal

pub loop-finding-preserved : goal.loop-finding-preserved
loop-finding-preserved g c =
    let i = c.loop-finding.finding-index in
    let fs = c.args.findings.now in
    let none : c.network_said.result ≡ None = search rules in
    c.loop-finding.invariant
    ∙ first_more (finding_view {A = g.row.A.Denot}) c.args.stream i fs c.finding-item.result c.loop-finding-test.true c.finding-item.is
    ∙ ap (λ (o : Option FoundNetworkView). option_or o (first_network c.args.stream (map (finding_view {A = g.row.A.Denot}) (drop (i + 1) fs))))
    (sym c.network_said.ensures ∙ ap (option_map found_network_view) none)

pub returns-in-Some : goal.returns-in-Some
returns-in-Some g c =
    let i = c.loop-finding.finding-index in
    let fs = c.args.findings.now in
    sym (c.loop-finding.invariant
    ∙ first_more (finding_view {A = g.row.A.Denot}) c.args.stream i fs c.finding-item.result c.loop-finding-test.true c.finding-item.is
    ∙ ap (λ (o : Option FoundNetworkView). option_or o (first_network c.args.stream (map (finding_view {A = g.row.A.Denot}) (drop (i + 1) fs))))
    (sym c.network_said.ensures ∙ ap (option_map found_network_view) c.in-Some.is))

pub returns : goal.returns
returns g c =
    sym (c.loop-finding.invariant ∙ first_end (finding_view {A = g.row.A.Denot}) c.args.stream c.loop-finding.finding-index c.args.findings.now
    c.loop-finding-test.false)
