-- The line of the marks of a stream's units (docs/VIEW.md): random access points and alignment (ISO/IEC 13818-1, 2.4.3.5 and 2.4.3.7).
use Rattle.std.specs.Prelude.{ℕ, Bool, List, [], ◌∷◌, codes}
use Rattle.events.specs.declared.mark_event.MarkTotals.{MarkTotals}
use Rattle.event_lines.specs.ReportLines.{line_of, number_field}

abbrev pub marks_line : Bool → MarkTotals → List ℕ
marks_line json e = line_of json (codes "marks")
    (number_field (codes "pid") e.pid ∷ number_field (codes "units") e.units ∷ number_field (codes "access") e.access
    ∷ number_field (codes "distance") e.distance ∷ number_field (codes "aligned") e.aligned ∷ [])
