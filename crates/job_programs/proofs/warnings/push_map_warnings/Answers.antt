use Rattle.std.proofs.Common.{map}
use Rattle.pid_findings.specs.Shown.{finding_view}
use Rattle.job_programs.proofs.warnings.push_map_warnings.Goals as goal

pub returns : goal.returns
returns c = c.push_each_map_warning.ensures (map finding_view c.args.findings.now) c.in_ok-changes.ensures
