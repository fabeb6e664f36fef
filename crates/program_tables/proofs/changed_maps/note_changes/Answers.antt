use Rattle.std.proofs.Common.{◌∙◌, map, sym}
use Rattle.pid_findings.specs.Shown.{finding_view}
use Rattle.program_tables.proofs.NotedChanges.{changes_more, changes_end}
use Rattle.program_tables.proofs.changed_maps.note_changes.Goals as goal

pub loop-finding-preserved : goal.loop-finding-preserved
loop-finding-preserved g c =
    let view = finding_view {A = g.row.A.Denot} in
    c.loop-finding.invariant
    ∙ changes_more view c.args.part (map view c.args.findings.now) c.loop-finding.packets.entries c.note_change.new.packets.entries c.loop-finding.finding-index
    c.args.findings.now c.finding-item.result c.loop-finding-test.true c.finding-item.is c.in_ok-note_change.ensures

pub returns : goal.returns
returns g c =
    let view = finding_view {A = g.row.A.Denot} in
    sym (c.loop-finding.invariant
    ∙ changes_end view c.args.part (map view c.args.findings.now) c.loop-finding.packets.entries c.loop-finding.finding-index c.args.findings.now
    c.loop-finding-test.false)
