use Rattle.std.proofs.Common.{◌∙◌, ap, sym, true, false}
use Rattle.std.specs.Prelude.{is_some}
use Rattle.pid_findings.specs.Shown.{finding_view}
use Rattle.fed_streams.specs.Maps.{MapView, current_found}
use Rattle.fed_streams.proofs.FedMaps.{map_at, map_end}
use Rattle.fed_streams.proofs.fed_map.map_place.Goals as goal

pub returns-then-has_map-clause-value : goal.returns-then-has_map-clause-value
returns-then-has_map-clause-value c =
    sym (c.loop-k.invariant ∙ map_at c.index-maps-k.result (finding_view c.args.finding.now) c.loop-k.k c.args.maps.now c.has_map.result true c.loop-k-test.true
    (c.has_map.ensures ∙ ap (λ (m : MapView). is_some (current_found m.program_number (finding_view c.args.finding.now))) c.index-maps-k.is)
    c.if-has_map.true)

pub loop-k-preserved : goal.loop-k-preserved
loop-k-preserved c =
    c.loop-k.invariant ∙ map_at c.index-maps-k.result (finding_view c.args.finding.now) c.loop-k.k c.args.maps.now c.has_map.result false c.loop-k-test.true
    (c.has_map.ensures ∙ ap (λ (m : MapView). is_some (current_found m.program_number (finding_view c.args.finding.now))) c.index-maps-k.is)
    c.if-has_map.false

pub returns-clause-value : goal.returns-clause-value
returns-clause-value c = sym (c.loop-k.invariant ∙ map_end (finding_view c.args.finding.now) c.loop-k.k c.args.maps.now c.loop-k-test.false)
