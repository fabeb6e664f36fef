use Rattle.std.proofs.Common.{◌≡◌, ◌++◌, drop}
use Rattle.std.specs.Prelude.{flat_map}
use Rattle.tsview_cli.specs.CapturedStreams.{notes_on}
use Rattle.tsview_cli.proofs.captured.push_notes.Given as goal

abbrev pub invariant-loop-event : goal.invariant-loop-event
invariant-loop-event l = l.events.items ++ flat_map (notes_on l.rate l.form) (drop l.event-index l.found) ≡ l.fn.events.items
    ++ flat_map (notes_on l.rate l.form) l.found
