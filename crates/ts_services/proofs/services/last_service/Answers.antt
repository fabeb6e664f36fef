use Rattle.std.proofs.Common.{◌≡◌, ◌∙◌, None, refl, sym, map, rules}
use Rattle.std.specs.Option.{option_or}
use Rattle.pid_findings.specs.Shown.{finding_view}
use Rattle.ts_services.specs.Services.{service, found_service_view}
use Rattle.program_tables.proofs.LastMaps.{or_none}
use Rattle.ts_services.proofs.LastServices.{says_nothing, service_more, service_end}
use Rattle.ts_services.proofs.services.last_service.Goals as goal

pub loop-finding-init : goal.loop-finding-init
loop-finding-init g c = or_none (service c.args.number (map (finding_view {A = g.row.A.Denot}) c.args.findings.now))

pub loop-finding-preserved-then-not-is_on : goal.loop-finding-preserved-then-not-is_on
loop-finding-preserved-then-not-is_on g c =
    let view = finding_view {A = g.row.A.Denot} in
    c.loop-finding.invariant
    ∙ service_more view found_service_view c.args.number c.loop-finding.finding-index c.args.findings.now c.finding-item.result None c.loop-finding.last
    c.loop-finding.last
    c.loop-finding-test.true c.finding-item.is (sym (says_nothing c.args.number (view c.finding-item.result) (c.is_on.ensures c.if-not-is_on.true))) refl

pub loop-finding-preserved : goal.loop-finding-preserved
loop-finding-preserved g c =
    let next : c.or-last.result ≡ option_or c.service_found.result c.loop-finding.last = search rules in
    c.loop-finding.invariant
    ∙ service_more (finding_view {A = g.row.A.Denot}) found_service_view c.args.number c.loop-finding.finding-index c.args.findings.now c.finding-item.result
    c.service_found.result c.loop-finding.last c.or-last.result c.loop-finding-test.true c.finding-item.is c.service_found.ensures next

pub returns : goal.returns
returns g c =
    sym (c.loop-finding.invariant
    ∙ service_end (finding_view {A = g.row.A.Denot}) found_service_view c.args.number c.loop-finding.finding-index c.args.findings.now c.loop-finding.last
    c.loop-finding-test.false)
