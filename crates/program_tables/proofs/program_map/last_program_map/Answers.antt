use Rattle.std.proofs.Common.{◌≡◌, ◌∙◌, None, refl, sym, map, rules}
use Rattle.std.specs.Option.{option_or}
use Rattle.psi_tables.specs.ProgramMap.{pmt_view}
use Rattle.pid_findings.specs.Shown.{finding_view}
use Rattle.program_tables.specs.ProgramMaps.{program_map}
use Rattle.program_tables.proofs.LastMaps.{last_more, last_end, not_found, or_none}
use Rattle.program_tables.proofs.program_map.last_program_map.Goals as goal

pub loop-finding-init : goal.loop-finding-init
loop-finding-init g c = or_none (program_map c.args.program (map (finding_view {A = g.row.A.Denot}) c.args.findings.now))

pub loop-finding-preserved-then-not-is_on : goal.loop-finding-preserved-then-not-is_on
loop-finding-preserved-then-not-is_on g c =
    let view = finding_view {A = g.row.A.Denot} in
    c.loop-finding.invariant
    ∙ last_more view pmt_view c.args.program c.loop-finding.finding-index c.args.findings.now c.finding-item.result None c.loop-finding.last c.loop-finding.last
    c.loop-finding-test.true c.finding-item.is (sym (not_found c.args.program (view c.finding-item.result) (c.is_on.ensures c.if-not-is_on.true))) refl

pub loop-finding-preserved : goal.loop-finding-preserved
loop-finding-preserved g c =
    let next : c.or-last.result ≡ option_or c.pmt_found.result c.loop-finding.last = search rules in
    c.loop-finding.invariant
    ∙ last_more (finding_view {A = g.row.A.Denot}) pmt_view c.args.program c.loop-finding.finding-index c.args.findings.now c.finding-item.result
    c.pmt_found.result c.loop-finding.last c.or-last.result c.loop-finding-test.true c.finding-item.is c.pmt_found.ensures next

pub returns : goal.returns
returns g c =
    sym (c.loop-finding.invariant
    ∙ last_end (finding_view {A = g.row.A.Denot}) pmt_view c.args.program c.loop-finding.finding-index c.args.findings.now c.loop-finding.last
    c.loop-finding-test.false)
