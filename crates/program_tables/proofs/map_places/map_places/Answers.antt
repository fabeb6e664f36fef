use Rattle.std.proofs.Common.{◌∙◌, sym}
use Rattle.pid_findings.specs.Shown.{finding_view}
use Rattle.program_tables.proofs.MapPlaces.{places_more, places_end}
use Rattle.program_tables.proofs.map_places.map_places.Goals as goal

pub loop-at-preserved : goal.loop-at-preserved
loop-at-preserved g c =
    c.loop-at.invariant
    ∙ places_more (finding_view {A = g.row.A.Denot}) c.loop-at.places.entries c.note_place.new.places.entries c.loop-at.at c.args.findings.now
    c.index-findings-at.result
    c.loop-at-test.true c.index-findings-at.is c.in_ok-note_place.ensures

pub returns : goal.returns
returns g c =
    sym (c.loop-at.invariant ∙ places_end (finding_view {A = g.row.A.Denot}) c.loop-at.places.entries c.loop-at.at c.args.findings.now c.loop-at-test.false)
