-- The lines of the totals of a stream's faults, of the checks of ETSI TR 101 290, and of the verdict (docs/VIEW.md).
use Rattle.std.specs.Prelude.{ℕ, ◌==◌, if◌then◌else◌, Bool, true, false, List, [], ◌∷◌, ◌++◌, codes, flat_map, Option, Some, None}
use Rattle.events.specs.declared.check_counts.CheckTotals.{CheckTotals}
use Rattle.events.specs.declared.check_counts.FaultCount.{FaultCount}
use Rattle.events.specs.declared.check_counts.NoVerdict.{NoVerdict}
use Rattle.events.specs.declared.check_counts.NoVerdict.TheVariants.{NoClock, VariableRate}
use Rattle.events.specs.declared.fault.Fault.{Fault}
use Rattle.events.specs.declared.fault.Measured.{Measured}
use Rattle.events.specs.declared.fault_kind.FaultSource.{FaultSource}
use Rattle.events.specs.declared.fault_kind.FaultSource.TheVariants.{Whole, Stream, Program, Table}
use Rattle.events.specs.declared.summary.FaultTotals.{FaultTotals}
use Rattle.events.specs.declared.summary.SummaryEvent.{SummaryEvent}
use Rattle.events.specs.declared.summary.SummaryEvent.TheVariants as summaries
use Rattle.events.specs.declared.summary.Verdict.{Verdict}
use Rattle.events.specs.declared.summary.Verdict.TheVariants.{NoFault, Faults, Buffers, Units, Checks}
use Rattle.events.specs.declared.summary.WorstBuffer.{WorstBuffer}
use Rattle.events.specs.BufferKinds.{owner_word, word_of as buffer_word}
use Rattle.events.specs.Checks.{name_of, number_of}
use Rattle.events.specs.FaultKinds.{word_of}
use Rattle.event_lines.specs.FieldViews.{FieldView}
use Rattle.event_lines.specs.ReportLines.{field_text, first_text, number_field, quote, seconds_field, word_field}
use Rattle.event_lines.specs.VerdictTexts.{sentence}

-- 1. Times in seconds

unfoldable pub moment_text : Bool → List ℕ → Option ℕ → List ℕ
moment_text json name None = []
moment_text json name (Some ticks) = field_text json (seconds_field name ticks)

abbrev pub times_text : Bool → Option ℕ → Option ℕ → List ℕ
times_text json from to = moment_text json (codes "from") from ++ moment_text json (codes "to") to

-- the time of a fault: a moment, or from when to when
unfoldable pub span_text : Bool → Option ℕ → Option ℕ → List ℕ
span_text json None to = []
span_text json (Some from) None = []
span_text json (Some from) (Some to) = if from == to then moment_text json (codes "at") (Some from) else times_text json (Some from) (Some to)

unfoldable pub fault_time : Bool → Option Fault → List ℕ
fault_time json None = []
fault_time json (Some fault) = span_text json fault.from fault.to

-- 2. Faults by kind and stream

abbrev pub table_fields : ℕ → ℕ → List FieldView
table_fields pid table = number_field (codes "pid") pid ∷ number_field (codes "table") table ∷ []

unfoldable pub source_text : Bool → FaultSource → List ℕ
source_text json Whole = []
source_text json (Stream pid) = field_text json (number_field (codes "pid") pid)
source_text json (Program program) = field_text json (number_field (codes "program") program)
source_text json (Table pid table) = flat_map (field_text json) (table_fields pid table)

abbrev pub count_fields : List ℕ → FaultCount → List FieldView
count_fields name c = number_field name c.faults ∷ number_field (codes "first") c.first ∷ number_field (codes "last") c.last ∷ []

abbrev pub limit_fields : Measured → List FieldView
limit_fields worst = number_field (codes "worst") worst.value ∷ number_field (codes "limit") worst.limit ∷ []

unfoldable pub worst_text : Bool → Option Measured → List ℕ
worst_text json None = []
worst_text json (Some worst) = flat_map (field_text json) (limit_fields worst)

abbrev pub faults_line : Bool → FaultTotals → List ℕ
faults_line json e = first_text json (codes "faults") ++ (field_text json (word_field (codes "kind") (word_of e.kind)) ++ (source_text json e.source
    ++ (flat_map (field_text json) (count_fields (codes "count") e.count) ++ (worst_text json e.worst ++ times_text json e.count.from e.count.to))))

-- 3. Checks

unfoldable pub no_verdict_word : NoVerdict → List ℕ
no_verdict_word NoClock = codes "no_clock"
no_verdict_word VariableRate = codes "variable_rate"

abbrev pub check_fields : CheckTotals → List FieldView
check_fields e = word_field (codes "number") (number_of e.check) ∷ word_field (codes "name") (name_of e.check) ∷ []

abbrev pub counted_text : Bool → FaultCount → List ℕ
counted_text json count = flat_map (field_text json) (count_fields (codes "faults") count) ++ times_text json count.from count.to

unfoldable pub result_text : Bool → FaultCount → Option NoVerdict → List ℕ
result_text json count None = counted_text json count
result_text json count (Some reason) = field_text json (word_field (codes "untold") (no_verdict_word reason))

abbrev pub check_line : Bool → CheckTotals → List ℕ
check_line json e = first_text json (codes "check") ++ (flat_map (field_text json) (check_fields e) ++ result_text json e.count e.no_verdict)

-- 4. The verdict, as a sentence; an object has its numbers too

abbrev pub two_numbers : List ℕ → ℕ → List ℕ → ℕ → List ℕ
two_numbers one n other m = flat_map (field_text true) (number_field one n ∷ number_field other m ∷ [])

-- the buffer that is furthest over its size
abbrev pub worst_fields : WorstBuffer → List FieldView
worst_fields w = number_field (owner_word w.buffer) w.number ∷ word_field (codes "buffer") (buffer_word w.buffer)
    ∷ number_field (codes "most") w.most ∷ number_field (codes "size") w.size ∷ []

unfoldable pub worst_numbers : Option WorstBuffer → List ℕ
worst_numbers None = []
worst_numbers (Some w) = flat_map (field_text true) (worst_fields w) ++ times_text true w.from w.to

unfoldable pub verdict_numbers : Verdict → List ℕ
verdict_numbers NoFault = two_numbers (codes "faults") 0 (codes "rows") 0
verdict_numbers (Faults e) = two_numbers (codes "faults") e.faults (codes "rows") e.rows
verdict_numbers (Buffers e) = two_numbers (codes "buffers") e.buffers (codes "over") e.over ++ worst_numbers e.worst
verdict_numbers (Units e) = two_numbers (codes "units") e.units (codes "late") e.late
verdict_numbers (Checks e) = two_numbers (codes "checks") e.checks (codes "failed") e.failed

abbrev pub text_begin : Bool → List ℕ
text_begin json = if json then codes "," ++ (quote ++ (codes "text" ++ (quote ++ (codes ":" ++ quote)))) else codes " "

abbrev pub text_end : Bool → Verdict → List ℕ
text_end json e = if json then quote ++ verdict_numbers e else []

abbrev pub verdict_line : Bool → Verdict → List ℕ
verdict_line json e = first_text json (codes "verdict") ++ (text_begin json ++ (sentence e ++ text_end json e))

unfoldable pub is_sentence : SummaryEvent → Bool
is_sentence (summaries.Verdict e) = true
is_sentence (summaries.Faults e) = false

unfoldable pub summary_line : Bool → SummaryEvent → List ℕ
summary_line json (summaries.Faults e) = faults_line json e
summary_line json (summaries.Verdict e) = verdict_line json e
