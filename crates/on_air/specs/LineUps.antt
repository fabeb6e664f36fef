-- A record that brings a line-up: a description and the plan that serves it, as at the front of a job. What its bytes are read as, why it is refused, and which
-- PIDs a change of the line-up leaves unused.
use Rattle.std.specs.Prelude.{◌≡◌, ℕ, ◌==◌, Bool, false, List, find, is_some, if◌then◌else◌, ⊤}
use Rattle.std.specs.Prelude.{Option, Some, None, option_map, option_and_then, Result, Ok, Err}
use Rattle.std.specs.List.{filter_map, list_any}
use Rattle.std.specs.Option.{option_or}
use Rattle.description_parts.specs.Described.{Described}
use Rattle.description_keys.specs.declared.fault.DescFault.TheVariants as key
use Rattle.description_keys.specs.declared.fault.DescError.{DescError}
use Rattle.description_keys.specs.declared.fault.DescError.TheVariants as unread
use Rattle.changed_texts.specs.Reading.{description_in}
use Rattle.slot_plan.specs.Entries.{Entry}
use Rattle.slot_plan.specs.Planned.{Planned}
use Rattle.plan_checker.specs.Served.{Served}
use Rattle.plan_checker.specs.declared.refusal.Refusal.{Refusal}
use Rattle.job_parts.specs.Parts.{fault_of, parts_of, planned}
use Rattle.line_ups.specs.Kept.{has_listed, slot_pids}
use Rattle.mux_core.specs.Scheduled.{Scheduled}
use Rattle.mux_core.specs.Histories.{History}
use Rattle.mux_core.specs.LineUps as mux
use Rattle.mux_core.specs.declared.line_up.TakeOverError.{TakeOverError}
use Rattle.mux_core.specs.declared.line_up.TakeOverError.TheVariants as over
use Rattle.on_air.specs.declared.line_up.LineUpError.{LineUpError}
use Rattle.on_air.specs.declared.line_up.LineUpError.TheVariants as error
use Rattle.on_air.specs.declared.line_up.NewLineUp.{NewLineUp}
use Rattle.on_air.specs.declared.refusals.LineUpRefusal.{LineUpRefusal}
use Rattle.on_air.specs.declared.refusals.LineUpRefusal.TheVariants.{Unread, PlanLine, Plan, Returned, Fault, Waiting}

-- ---- what the bytes are read as

-- a plan begins in these bytes: they are a line-up, not texts
abbrev pub has_plan : List ℕ → Bool
has_plan bytes = is_some (parts_of bytes)

-- a condition that fails, as a refusal names it
abbrev pub refusal_by : Entry → Refusal
refusal_by e = record { condition = e.condition; part = e.part; item = e.item; relation = e.relation; left = e.left; right = e.right }

-- a plan that serves the description before it; bytes after the plan have no effect
unfoldable pub unless_failed : Described → Planned → Option Entry → Result Served LineUpRefusal
unless_failed d plan None = Ok (record { description = d; plan = plan })
unless_failed d plan (Some e) = Err (Plan (refusal_by e))

unfoldable pub with_plan : Described → Result (Planned × List ℕ) ℕ → Result Served LineUpRefusal
with_plan d (Ok read) = unless_failed d read.0 (fault_of d read.0)
with_plan d (Err line) = Err (PlanLine line)

-- a description is never refused when out of memory
unfoldable pub with_description : Result Described DescError → List ℕ → Result Served LineUpRefusal
with_description (Ok d) text = with_plan d (planned text)
with_description (Err (unread.Refused fault)) text = Err (Unread fault)
with_description (Err unread.Memory) text = Err (Unread key.Text)

unfoldable pub of_parts : Option (List ℕ × List ℕ) → Result Served LineUpRefusal
of_parts None = Err (PlanLine 1)
of_parts (Some parts) = with_description (description_in parts.0) parts.1

-- the line-up in these bytes, or the first fault in them
abbrev pub line_up_in : List ℕ → Result Served LineUpRefusal
line_up_in bytes = of_parts (parts_of bytes)

-- ---- PIDs

-- the PID is one of these
abbrev pub is_among : List ℕ → Option ℕ → Bool
is_among pids None = false
is_among pids (Some pid) = list_any (λ p. p == pid) pids

-- the first PID of a description that has gone: packets of something else were on it, and its continuity counter would begin anew
abbrev pub returned_pid : List ℕ → Described → Option ℕ
returned_pid gone d = option_and_then (λ pid. pid) (find (is_among gone) (slot_pids d))

-- the PIDs of the old description that the new one does not have
abbrev pub unless_listed : List (Option ℕ) → Option ℕ → Option ℕ
unless_listed pids pid = if has_listed pids pid then None else pid

abbrev pub pids_gone : Described → Described → List ℕ
pids_gone old new = filter_map (unless_listed (slot_pids new)) (slot_pids old)

-- ---- refusals

-- a cause of the multiplexer. Out of memory is none: a line-up is not refused for it
abbrev pub over_cause : TakeOverError → Option LineUpRefusal
over_cause (over.Fault fault) = Some (Fault fault)
over_cause (over.Waiting pid) = Some (Waiting pid)
over_cause over.Memory = None

abbrev pub over_error : TakeOverError → LineUpError
over_error (over.Fault fault) = error.Refused (Fault fault)
over_error (over.Waiting pid) = error.Refused (Waiting pid)
over_error over.Memory = error.Memory

-- why a line-up that bytes are read as is refused, in a run with this schedule and history, in which these PIDs have gone: the bytes have a fault, a PID returns,
-- or the multiplexer has a cause
unfoldable pub line_up_cause : Scheduled → History → List ℕ → Result Served LineUpRefusal → Option LineUpRefusal
line_up_cause d h gone (Err refusal) = Some refusal
line_up_cause d h gone (Ok next) =
    option_or (option_map Returned (returned_pid gone next.description)) (option_and_then over_cause (mux.line_up_cause d h next))

-- ---- what is read

-- the description in these bytes, or why there is none
abbrev pub ReadsDescription : List ℕ → Result Described LineUpError → Type 0
ReadsDescription bytes (Ok d) = description_in bytes ≡ Ok d
ReadsDescription bytes (Err (error.Refused refusal)) = (text : List ℕ) → with_description (description_in bytes) text ≡ Err refusal
ReadsDescription bytes (Err error.Memory) = ⊤

-- the description with the plan at the front of a text, or why there is none
abbrev pub ReadsPlan : Described → List ℕ → Result Served LineUpError → Type 0
ReadsPlan d text (Ok served) = (with_plan d (planned text) ≡ Ok served) × (served.description ≡ d)
ReadsPlan d text (Err (error.Refused refusal)) = with_plan d (planned text) ≡ Err refusal
ReadsPlan d text (Err error.Memory) = ⊤

-- a line-up with a copy of the description in these bytes
abbrev pub CopiesTexts : List ℕ → Served → Result NewLineUp LineUpError → Type 0
CopiesTexts bytes served (Ok next) = (next.plan ≡ served) × (description_in bytes ≡ Ok next.texts)
CopiesTexts bytes served (Err (error.Refused refusal)) = (text : List ℕ) → with_description (description_in bytes) text ≡ Err refusal
CopiesTexts bytes served (Err error.Memory) = ⊤

-- the line-up in these bytes, with a copy of its description, or why there is none
abbrev pub ReadsLineUp : List ℕ → Result NewLineUp LineUpError → Type 0
ReadsLineUp bytes (Ok next) = (line_up_in bytes ≡ Ok next.plan) × (next.texts ≡ next.plan.description)
ReadsLineUp bytes (Err (error.Refused refusal)) = line_up_in bytes ≡ Err refusal
ReadsLineUp bytes (Err error.Memory) = ⊤
