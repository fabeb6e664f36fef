use Rattle.std.proofs.Common.{◌≡◌, drop, map}
use Rattle.pid_findings.specs.Shown.{finding_view}
use Rattle.program_tables.specs.MapPlaces.{changes_from}
use Rattle.program_tables.proofs.changed_maps.note_changes.Given as goal

abbrev pub invariant-loop-finding : goal.invariant-loop-finding
invariant-loop-finding g l =
    changes_from l.part (map finding_view l.findings) l.fn.packets.entries (map finding_view l.findings)
    ≡ changes_from l.part (map finding_view l.findings) l.packets.entries (map finding_view (drop l.finding-index l.findings))
