use Rattle.std.proofs.Common.{◌≡◌, ◌++◌, map, drop}
use Rattle.toml.specs.View.{view}
use Rattle.description_parts.specs.Contents.{described_events}
use Rattle.description_parts.proofs.building.events_of.Given as goal

abbrev pub invariant-loop-event : goal.invariant-loop-event
invariant-loop-event l = described_events l.number (map view l.events) ≡ l.owned.items
    ++ described_events l.number (map view (drop l.event-index l.events))
