-- The lines of faults by checks of ETSI TR 101 290 (docs/VIEW.md).
use Rattle.std.specs.Prelude.{ℕ, Bool, List, [], ◌∷◌, codes}
use Rattle.events.specs.declared.rule_event.AbsentTable.{AbsentTable}
use Rattle.events.specs.declared.rule_event.BufferStay.{BufferStay}
use Rattle.events.specs.declared.rule_event.ClockFigures.{ClockFigures}
use Rattle.events.specs.declared.rule_event.OtherTable.{OtherTable}
use Rattle.events.specs.declared.rule_event.RuleEvent.{RuleEvent}
use Rattle.events.specs.declared.rule_event.RuleEvent.TheVariants as rules
use Rattle.events.specs.declared.rule_event.ScrambledPacket.{ScrambledPacket}
use Rattle.events.specs.declared.rule_event.VariableRate.{VariableRate}
use Rattle.events.specs.BufferKinds.{owner_word, word_of}
use Rattle.event_lines.specs.ReportLines.{line_of, number_field, signed_field, word_field}
use Rattle.event_lines.specs.TraceLines.{trace_line}

abbrev pub other_table_line : Bool → OtherTable → List ℕ
other_table_line json e = line_of json (codes "other_table")
    (number_field (codes "pid") e.pid ∷ number_field (codes "table") e.table
    ∷ number_field (codes "packet") e.packet ∷ [])

abbrev pub scrambled_line : Bool → List ℕ → ScrambledPacket → List ℕ
scrambled_line json word e = line_of json word
    (number_field (codes "pid") e.pid ∷ number_field (codes "packet") e.packet ∷ [])

abbrev pub no_table_line : Bool → AbsentTable → List ℕ
no_table_line json e = line_of json (codes "no_table") (number_field (codes "pid") e.pid ∷ number_field (codes "table") e.table ∷ [])

abbrev pub stay_line : Bool → List ℕ → BufferStay → List ℕ
stay_line json word e = line_of json word
    (number_field (owner_word e.buffer) e.number ∷ word_field (codes "buffer") (word_of e.buffer)
    ∷ number_field (codes "packet") e.packet ∷ number_field (codes "begin") e.begin
    ∷ number_field (codes "end") e.end ∷ number_field (codes "limit") e.limit ∷ [])

abbrev pub variable_line : Bool → VariableRate → List ℕ
variable_line json e = line_of json (codes "variable_rate")
    (number_field (codes "packet") e.packet ∷ number_field (codes "pairs") e.pairs
    ∷ number_field (codes "apart") e.apart ∷ [])

abbrev pub clock_window_line : Bool → ClockFigures → List ℕ
clock_window_line json e = line_of json (codes "clock_window")
    (number_field (codes "number") e.number ∷ number_field (codes "pid") e.pid
    ∷ number_field (codes "references") e.references ∷ number_field (codes "interval") e.interval
    ∷ number_field (codes "inaccuracy") e.inaccuracy ∷ signed_field (codes "drift") e.ahead e.behind ∷ [])

unfoldable pub rule_line : Bool → RuleEvent → List ℕ
rule_line json (rules.OtherTable e) = other_table_line json e
rule_line json (rules.ScrambledTable e) = scrambled_line json (codes "scrambled_table") e
rule_line json (rules.NoCat e) = scrambled_line json (codes "no_cat") e
rule_line json (rules.NoTable e) = no_table_line json e
rule_line json (rules.NotEmpty e) = stay_line json (codes "not_empty") e
rule_line json (rules.Delayed e) = stay_line json (codes "delayed") e
rule_line json (rules.VariableRate e) = variable_line json e
rule_line json (rules.ClockWindow e) = clock_window_line json e
rule_line json (rules.FaultTrace e) = trace_line json e
