use Rattle.std.proofs.Common.{◌≡◌, ◌++◌, map, take, drop}
use Rattle.pid_findings.specs.Shown.{finding_view}
use Rattle.ts_tables.specs.ServiceNames.{with_later}
use Rattle.ts_tables.proofs.service_names.take_each.Given as goal

abbrev pub invariant-loop-at : goal.invariant-loop-at
invariant-loop-at l = l.names ≡ map (with_later (map finding_view l.findings)) (take l.at l.fn.names) ++ drop l.at l.fn.names
