use Rattle.std.proofs.Common.{◌≡◌, ◌∙◌, ℕ, ◌+◌, Option, None, map, drop, sym, ap, rules}
use Rattle.std.specs.Option.{option_or}
use Rattle.pid_findings.specs.Shown.{finding_view}
use Rattle.ts_services.specs.Networks.{network}
use Rattle.ts_services.proofs.FirstNetworks.{network_more, network_end}
use Rattle.ts_services.proofs.networks.original_network.Goals as goal

pub loop-finding-preserved : goal.loop-finding-preserved
loop-finding-preserved g c =
    let i = c.loop-finding.finding-index in
    let fs = c.args.findings.now in
    let none : c.network_found.result ≡ None = search rules in
    c.loop-finding.invariant
    ∙ network_more (finding_view {A = g.row.A.Denot}) i fs c.finding-item.result c.loop-finding-test.true c.finding-item.is
    ∙ ap (λ (o : Option ℕ). option_or o (network (map (finding_view {A = g.row.A.Denot}) (drop (i + 1) fs)))) (sym c.network_found.ensures ∙ none)

pub returns-in-Some : goal.returns-in-Some
returns-in-Some g c =
    let i = c.loop-finding.finding-index in
    let fs = c.args.findings.now in
    sym (c.loop-finding.invariant
    ∙ network_more (finding_view {A = g.row.A.Denot}) i fs c.finding-item.result c.loop-finding-test.true c.finding-item.is
    ∙ ap (λ (o : Option ℕ). option_or o (network (map (finding_view {A = g.row.A.Denot}) (drop (i + 1) fs)))) (sym c.network_found.ensures ∙ c.in-Some.is))

pub returns : goal.returns
returns g c =
    sym (c.loop-finding.invariant ∙ network_end (finding_view {A = g.row.A.Denot}) c.loop-finding.finding-index c.args.findings.now c.loop-finding-test.false)
