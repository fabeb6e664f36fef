-- The sentences of the verdict.
use Rattle.std.specs.Prelude.{ℕ, ◌==◌, if◌then◌else◌, List, [], ◌++◌, codes, decimal, Option, Some, None}
use Rattle.events.specs.declared.check_counts.CheckTotals.{CheckTotals}
use Rattle.events.specs.declared.check_counts.NoVerdict.{NoVerdict}
use Rattle.events.specs.declared.check_counts.NoVerdict.TheVariants.{NoClock, VariableRate}
use Rattle.events.specs.declared.summary.BufferVerdict.{BufferVerdict}
use Rattle.events.specs.declared.summary.CheckVerdict.{CheckVerdict}
use Rattle.events.specs.declared.summary.FaultVerdict.{FaultVerdict}
use Rattle.events.specs.declared.summary.UnitVerdict.{UnitVerdict}
use Rattle.events.specs.declared.summary.Verdict.{Verdict}
use Rattle.events.specs.declared.summary.Verdict.TheVariants.{NoFault, Faults, Buffers, Units, Checks}
use Rattle.events.specs.declared.summary.WorstBuffer.{WorstBuffer}
use Rattle.events.specs.BufferKinds.{owner_word, word_of}
use Rattle.events.specs.Checks.{name_of, number_of}
use Rattle.event_lines.specs.ReportLines.{seconds_text}

-- a time in seconds, if both ends are known
unfoldable pub time_text : Option ℕ → Option ℕ → List ℕ
time_text None to = []
time_text (Some from) None = []
time_text (Some from) (Some to) = codes ", from " ++ (seconds_text from ++ (codes " s to " ++ (seconds_text to ++ codes " s")))

abbrev pub whose_size : ℕ → List ℕ
whose_size over = if over == 1 then codes "its" else codes "their"

abbrev pub worst_text : WorstBuffer → List ℕ
worst_text w = codes ": " ++ (owner_word w.buffer ++ (codes " " ++ (decimal w.number ++ (codes " " ++ (word_of w.buffer ++ (codes ", "
    ++ (decimal w.most ++ (codes " of " ++ (decimal w.size ++ (codes " bytes" ++ time_text w.from w.to))))))))))

unfoldable pub buffers_by : ℕ → ℕ → Option WorstBuffer → List ℕ
buffers_by buffers over None = codes "buffers: " ++ (decimal buffers ++ (codes " of " ++ (decimal buffers ++ codes " within their size")))
buffers_by buffers over (Some worst) =
    codes "buffers: " ++ (decimal over ++ (codes " of " ++ (decimal buffers ++ (codes " over " ++ (whose_size over ++ (codes " size" ++ worst_text worst))))))

abbrev pub buffers_text : BufferVerdict → List ℕ
buffers_text e = buffers_by e.buffers e.over e.worst

abbrev pub units_text : UnitVerdict → List ℕ
units_text e = codes "units: " ++ (decimal e.late ++ (codes " of " ++ (decimal e.units ++ codes " late")))

unfoldable pub checks_by : Option CheckTotals → List ℕ
checks_by None = []
checks_by (Some e) =
    codes ": " ++
    (number_of e.check ++ (codes " " ++ (name_of e.check ++ (codes ", faults " ++ (decimal e.count.faults ++ time_text e.count.from e.count.to)))))

-- the checks that are not made: without a clock the checks of times, and at a rate that varies PCR_accuracy_error
unfoldable pub unmade_text : Option NoVerdict → List ℕ
unmade_text None = []
unmade_text (Some NoClock) =
    codes "; not made (no_clock): 1.3.a, 1.5.a, 2.3.a, 2.4, 2.5, 3.1 to 3.3, 3.5 to 3.10"
unmade_text (Some VariableRate) = codes "; not made (variable_rate): 2.4"

abbrev pub checks_text : CheckVerdict → List ℕ
checks_text e = codes "checks: " ++
    (decimal e.failed ++ (codes " of " ++ (decimal e.checks ++ (codes " failed" ++ (checks_by e.first ++ unmade_text e.unmade)))))

abbrev pub faults_text : FaultVerdict → List ℕ
faults_text e = codes "faults: " ++ (decimal e.faults ++ (codes " (" ++ (decimal e.rows ++ codes " by kind and stream)")))

unfoldable pub sentence : Verdict → List ℕ
sentence NoFault = codes "no fault"
sentence (Faults e) = faults_text e
sentence (Buffers e) = buffers_text e
sentence (Units e) = units_text e
sentence (Checks e) = checks_text e
