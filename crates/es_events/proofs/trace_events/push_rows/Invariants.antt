use Rattle.std.proofs.Common.{◌≡◌, ◌++◌, drop}
use Rattle.std.specs.Prelude.{flat_map}
use Rattle.es_events.specs.TraceEvents.{points_of}
use Rattle.es_events.proofs.trace_events.push_rows.Given as goal

abbrev pub invariant-loop-row : goal.invariant-loop-row
invariant-loop-row l = l.events.items ++ flat_map (points_of l.options l.place l.buffer l.peak) (drop l.row-index l.rows)
    ≡ l.fn.events.items ++ flat_map (points_of l.options l.place l.buffer l.peak) l.rows
