use Rattle.std.proofs.Common.{◌∙◌, Option, ap, sym}
use Rattle.dvb_tables.specs.ServiceDescription.{SdtView}
use Rattle.pid_findings.specs.Shown.{finding_view}
use Rattle.ts_services.specs.ServicePlaces.{with_table}
use Rattle.ts_services.proofs.ServicePlaces.{services_more, services_end}
use Rattle.ts_services.proofs.service_index.places_in.Goals as goal

pub loop-at-preserved : goal.loop-at-preserved
loop-at-preserved g c =
    c.loop-at.invariant
    ∙ services_more (finding_view {A = g.row.A.Denot}) c.loop-at.places.entries c.note_table.new.places.entries c.loop-at.at c.args.findings.now
    c.index-findings-at.result
    c.loop-at-test.true c.index-findings-at.is
    (c.in_ok-note_table.ensures ∙ ap (λ (t : Option SdtView). with_table c.loop-at.places.entries c.loop-at.at t) c.sdt_found.ensures)

pub returns : goal.returns
returns g c =
    sym (c.loop-at.invariant ∙ services_end (finding_view {A = g.row.A.Denot}) c.loop-at.places.entries c.loop-at.at c.args.findings.now c.loop-at-test.false)
