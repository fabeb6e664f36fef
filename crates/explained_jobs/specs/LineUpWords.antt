-- Why a line-up may not take the place of the one on air: a word with what it is about, and a sentence with the way out.
use Rattle.std.specs.Prelude.{ℕ, List, codes}
use Rattle.changed_texts.specs.declared.fault.TextFault.TheVariants as text
use Rattle.line_ups.specs.declared.fault.LineUpFault.{LineUpFault}
use Rattle.line_ups.specs.declared.fault.LineUpFault.TheVariants.{Rate, Clock, Stream, Pid, Period, Moved, Shape, Order}
use Rattle.explained_jobs.specs.TextWords.{part_words, text_words}

-- rate and base0 are to be kept as new texts keep them; a PID, a table by its number from 0, a program by its program_number
unfoldable pub line_up_words : LineUpFault → List ℕ
line_up_words Rate = text_words text.Rate
line_up_words Clock = text_words text.Clock
line_up_words Stream = codes "stream: transport_stream_id, original_network_id and transponder have to be as in the first description\n"
line_up_words (Pid p) = part_words (codes "pid") p (codes "it was on air for something else, or with another declaration: choose another")
line_up_words Period = codes "period: neither a multiple nor a part of the one on air: tsjob next --plan makes such a plan\n"
line_up_words (Moved p) = part_words (codes "moved") p (codes "its slots have to stay: tsjob next --plan keeps them")
line_up_words (Shape t) =
    part_words (codes "shape") t (codes "it needs as many sections and packets as on air: reserve them as for texts, a program by on_air = false")
line_up_words (Order p) =
    part_words (codes "order") p (codes "later in the list of programs than on air: put new ones at its end")

-- a stream goes, and units of it have not been sent
unfoldable pub waiting_words : ℕ → List ℕ
waiting_words p = part_words (codes "waiting") p (codes "units of it wait: end its feed, send a tick that settles the last one, then the record")
