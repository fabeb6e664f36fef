use Rattle.std.proofs.Common.{◌≡◌, true, map, take}
use Rattle.pid_findings.specs.Shown.{finding_view}
use Rattle.ts_tables.specs.NamedStreams.{have_maps}
use Rattle.ts_tables.proofs.mapped.mapped_from.Given as goal

abbrev pub invariant-loop-at : goal.invariant-loop-at
invariant-loop-at l = have_maps (map finding_view l.findings) (take l.at l.programs) ≡ true
