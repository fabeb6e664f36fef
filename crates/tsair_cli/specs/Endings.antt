-- The report at the end of a run, and its status.
use Rattle.std.specs.Prelude.{ℕ, Bool, if◌then◌else◌, [], Option, Some, None, codes}
use Rattle.devices.specs.Lines.{line_text}
use Rattle.devices.specs.Outcomes.{Outcome, printed, reported}
use Rattle.checked_jobs.specs.FaultLines.{record_outcome}
use Rattle.on_air.specs.declared.answers.Ending.{Ending}
use Rattle.on_air.specs.declared.answers.Ending.TheVariants.{Input, Unread, Slots, Records, TextsMemory}
use Rattle.unit_records.specs.declared.reading.UnitFileError.TheVariants.{Memory}
use Rattle.tsair_cli.specs.declared.hearing.RecordsEnd.{RecordsEnd}

-- no report: status 1 if a record was refused
abbrev pub quiet : Bool → Outcome
quiet refused = printed [] (if refused then 1 else 0)

-- after the slots that were asked for, or after all slots that a run may have
unfoldable pub slots_outcome : Option ℕ → Bool → Outcome
slots_outcome None refused = reported (line_text (codes "slots") [])
slots_outcome (Some slots) refused = quiet refused

unfoldable pub why_outcome : Option ℕ → ℕ → Bool → Option Ending → Outcome
why_outcome slots records refused None = quiet refused
why_outcome slots records refused (Some Input) = quiet refused
why_outcome slots records refused (Some (Unread fault)) = record_outcome records fault
why_outcome slots records refused (Some Slots) = slots_outcome slots refused
why_outcome slots records refused (Some Records) = reported (line_text (codes "records") [])
why_outcome slots records refused (Some TextsMemory) = record_outcome records Memory

-- if versions of texts are lost, the status is that of a device that failed
abbrev pub lost_status : Bool → ℕ → ℕ
lost_status lost status = if lost then 3 else status

-- by the slots that were asked for, and the number of records heard
unfoldable pub end_outcome : Option ℕ → ℕ → RecordsEnd → Outcome
end_outcome slots records end =
    let why = why_outcome slots records end.has_refused end.why in
    record { output = why.output; report = why.report; status = lost_status end.has_lost why.status }
