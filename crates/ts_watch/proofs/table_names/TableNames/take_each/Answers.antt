use Rattle.std.proofs.Common.{◌∙◌, ℕ, ap, map}
use Rattle.pid_findings.specs.Shown.{finding_view, what_view}
use Rattle.ts_watch.specs.TableNames.{with_each, with_found}
use Rattle.ts_watch.proofs.Sections.{names_end, names_step}
use Rattle.ts_watch.proofs.table_names.TableNames.take_each.Goals as goal

pub loop-finding-preserved : goal.loop-finding-preserved
loop-finding-preserved c =
    names_step finding_view (with_each c.args.self.now (map finding_view c.args.findings.now)) c.loop-finding.self c.take_found.new.self
    c.loop-finding.finding-index c.args.findings.now c.finding-item.result c.loop-finding-test.true c.finding-item.is c.loop-finding.invariant
    (c.in_ok-take_found.ensures ∙ ap (λ (pid : ℕ). with_found c.loop-finding.self pid (what_view c.finding-item.result.what)) c.unwrap_or.ensures)

pub returns : goal.returns
returns c =
    names_end finding_view (with_each c.args.self.now (map finding_view c.args.findings.now)) c.loop-finding.self c.loop-finding.finding-index
    c.args.findings.now c.loop-finding-test.false c.loop-finding.invariant
