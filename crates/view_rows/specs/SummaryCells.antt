-- The cells of faults by kind and stream, of a fault of a rule, and the sentences of the verdict.
use Rattle.std.specs.Prelude.{ℕ, ◌==◌, ◌&&◌, not, is_none, Bool, if◌then◌else◌, List, [], ◌∷◌, ◌++◌, codes, decimal, Option, Some, None}
use Rattle.events.specs.Checks.{name_of, number_of}
use Rattle.events.specs.declared.check_counts.CheckTotals.{CheckTotals}
use Rattle.events.specs.declared.fault.Fault.{Fault}
use Rattle.events.specs.declared.fault.Measured.{Measured}
use Rattle.events.specs.declared.fault_kind.FaultKind.{FaultKind}
use Rattle.events.specs.declared.fault_kind.FaultKind.TheVariants as kinds
use Rattle.events.specs.declared.summary.FaultTotals.{FaultTotals}
use Rattle.events.specs.declared.summary.Verdict.{Verdict}
use Rattle.events.specs.declared.summary.Verdict.TheVariants.{NoFault, Faults, Buffers, Units, Checks}
use Rattle.event_lines.specs.VerdictTexts.{sentence}
use Rattle.view_rows.specs.declared.cells.Cell.{Cell}
use Rattle.view_rows.specs.declared.cells.Cell.TheVariants.{Number, Word, Source}
use Rattle.view_rows.specs.declared.cells.CellUnit.{CellUnit}
use Rattle.view_rows.specs.declared.cells.CellUnit.TheVariants.{Same, Ticks}
use Rattle.view_rows.specs.declared.cells.CellWord.{CellWord}
use Rattle.view_rows.specs.declared.cells.CellWord.TheVariants as words
use Rattle.view_rows.specs.declared.summary_cells.ValueUnit.{ValueUnit}
use Rattle.view_rows.specs.declared.summary_cells.TheConstants.{KINDS}
use Rattle.view_rows.specs.Cells.{short}

unfoldable pub kinds_text : List ℕ
kinds_text = KINDS.now

-- the unit of the value of a kind of fault: bytes, a time in ms, nanoseconds, or none
abbrev pub in_unit : CellUnit → CellWord → ValueUnit
in_unit scale word = record { scale = scale; unit = word }

unfoldable pub unit_of : FaultKind → ValueUnit
unit_of kinds.Excess = in_unit Same words.Bytes
unit_of kinds.MainExcess = in_unit Same words.Bytes
unit_of kinds.MultiplexingExcess = in_unit Same words.Bytes
unit_of kinds.ElementaryExcess = in_unit Same words.Bytes
unit_of kinds.SystemExcess = in_unit Same words.Bytes
unit_of kinds.SystemMainExcess = in_unit Same words.Bytes
unit_of kinds.Late = in_unit Ticks words.Millis
unit_of kinds.ElementaryLate = in_unit Ticks words.Millis
unit_of kinds.Ahead = in_unit Ticks words.Millis
unit_of kinds.PcrRepetition = in_unit Ticks words.Millis
unit_of kinds.PcrDiscontinuity = in_unit Ticks words.Millis
unit_of kinds.PtsRepetition = in_unit Ticks words.Millis
unit_of kinds.TableRepetition = in_unit Ticks words.Millis
unit_of kinds.SectionDistance = in_unit Ticks words.Millis
unit_of kinds.NotEmpty = in_unit Ticks words.Millis
unit_of kinds.Delayed = in_unit Ticks words.Millis
unit_of kinds.StampJump = in_unit Ticks words.Millis
unit_of kinds.PidRepetition = in_unit Ticks words.Millis
unit_of kinds.PcrAccuracy = in_unit Same words.Nanos
unit_of _ = in_unit Same words.Nothing

-- a moment in ms, if it is known
unfoldable pub moment_cell : Option ℕ → Cell
moment_cell None = Word words.Nothing
moment_cell (Some at) = Number (short at) Ticks

-- when a fault is: from when to when
unfoldable pub time_cells : Option Fault → List Cell
time_cells None = Word words.Nothing ∷ Word words.Nothing ∷ []
time_cells (Some fault) = moment_cell fault.from ∷ moment_cell fault.to ∷ []

unfoldable pub value_cell : Option Measured → CellUnit → Cell
value_cell None scale = Word words.Nothing
value_cell (Some m) scale = Number (short m.value) scale

unfoldable pub limit_cell : Option Measured → CellUnit → Cell
limit_cell None scale = Word words.Nothing
limit_cell (Some m) scale = Number m.limit scale

-- all faults of a kind at one place: how many, the first and the last, the worst value and its limit
abbrev pub totals_cells : FaultTotals → List Cell
totals_cells e = let value = unit_of e.kind in
    Word (words.Fault e.kind) ∷ Source e.source ∷ Number e.count.faults Same ∷ Number e.count.first Same ∷ Number e.count.last Same
    ∷ moment_cell e.count.from ∷ moment_cell e.count.to ∷ value_cell e.worst value.scale ∷ limit_cell e.worst value.scale ∷ Word value.unit ∷ []

abbrev pub fault_cells : Fault → List Cell
fault_cells e = let value = unit_of e.kind in
    Word (words.Fault e.kind) ∷ Source e.source ∷ Number e.packet Same ∷ value_cell e.measured value.scale ∷ limit_cell e.measured value.scale
    ∷ Word value.unit ∷ []

-- the sentence of faults is marked
unfoldable pub sentence_head : Verdict → List ℕ
sentence_head NoFault = codes "<p>"
sentence_head (Faults e) = codes "<p class=\"bad\">&#9650; "
sentence_head (Buffers e) = codes "<p>"
sentence_head (Units e) = codes "<p>"
sentence_head (Checks e) = codes "<p>"

abbrev pub sentence_text : Verdict → List ℕ
sentence_text verdict = sentence_head verdict ++ (sentence verdict ++ codes ".</p>\n")

-- a sentence on each check that was made and has failed
abbrev pub has_failed : CheckTotals → Bool
has_failed e = is_none e.no_verdict && not (e.count.faults == 0)

abbrev pub failure_text : List ℕ → List ℕ → ℕ → List ℕ
failure_text number name faults =
    codes "<p class=\"bad\">&#9650; check "
    ++ (number ++ (codes " " ++ (name ++ (codes ": faults " ++ (decimal faults ++ codes ".</p>\n")))))

abbrev pub failure_if : CheckTotals → List ℕ
failure_if e = if has_failed e then failure_text (number_of e.check) (name_of e.check) e.count.faults else []
