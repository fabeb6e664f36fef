-- A report on a writer.
use Rattle.std.specs.Prelude.{◌≡◌, ℕ, ◌<◌, List, length, Result, Ok, Err, ⊤}
use Rattle.counted_io.specs.Device.{CountsOne}
use Rattle.monitor.specs.declared.report_output.ReportWriteError.{ReportWriteError}
use Rattle.monitor.specs.declared.report_output.ReportWriteError.TheVariants.{Device, Memory}

-- how many bytes of a text of this size the writer took
abbrev pub sent_of : Result ℕ ReportWriteError → ℕ
sent_of (Ok sent) = sent
sent_of (Err (Device sent)) = sent
sent_of (Err Memory) = 0

-- the whole text was written; or a call of the writer failed within it; or there was no memory, and nothing is written
abbrev pub CountsSent : List ℕ → Result ℕ ReportWriteError → Type 0
CountsSent text (Ok sent) = sent ≡ length text
CountsSent text (Err (Device sent)) = sent < length text
CountsSent text (Err Memory) = ⊤

-- a call of the writer failed exactly if the answer says so; `before` and `after` count the calls that failed
abbrev pub NamesDevice : Result ℕ ReportWriteError → ℕ → ℕ → Type 0
NamesDevice (Ok sent) before after = after ≡ before
NamesDevice (Err (Device sent)) before after = CountsOne before after
NamesDevice (Err Memory) before after = after ≡ before
