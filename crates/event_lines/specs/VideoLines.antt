-- The line of a unit of video that is late in its elementary stream buffer (docs/VIEW.md; ISO/IEC 13818-1, 2.4.2.3).
use Rattle.std.specs.Prelude.{ℕ, Bool, List, [], ◌∷◌, codes}
use Rattle.events.specs.declared.video_event.ElementaryLate.{ElementaryLate}
use Rattle.events.specs.LateCauses.{word_of}
use Rattle.event_lines.specs.ReportLines.{line_of, number_field, word_field}

abbrev pub elementary_late_line : Bool → ElementaryLate → List ℕ
elementary_late_line json e = line_of json (codes "elementary_late")
    (number_field (codes "pid") e.pid ∷ number_field (codes "packet") e.packet ∷ number_field (codes "due") e.due
    ∷ number_field (codes "left") e.left ∷ number_field (codes "by") e.by ∷ number_field (codes "bytes") e.bytes
    ∷ word_field (codes "cause") (word_of e.cause) ∷ [])
