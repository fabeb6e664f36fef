use Rattle.std.proofs.Common.{◌∙◌, ap, map, sym, arith}
use Rattle.pid_findings.specs.Shown.{finding_view}
use Rattle.es_units.specs.Marking.{all_marked, marked}
use Rattle.es_units.proofs.MarkedFindings.{marked_more, marked_whole}
use Rattle.es_units.proofs.marking.Marking.mark_all.Goals as goal

pub loop-finding-preserved : goal.loop-finding-preserved
loop-finding-preserved c =
    marked_more finding_view c.args.self.now c.loop-finding.findings c.loop-finding.finding-index c.finding-item.result c.mark.new.finding
    (all_marked c.args.self.now (map finding_view c.args.findings.now)) (omega arith) c.finding-item.is
    (c.mark.ensures ∙ ap (λ (f : _). marked c.args.self.now (finding_view f)) (sym c.finding-item.is)) c.loop-finding.invariant

pub returns : goal.returns
returns c =
    marked_whole finding_view c.args.self.now c.loop-finding.findings c.loop-finding.finding-index
    (all_marked c.args.self.now (map finding_view c.args.findings.now))
    (omega (arith, c.loop-finding-test.false, c.loop-finding.auto.finding-index-end)) c.loop-finding.invariant
