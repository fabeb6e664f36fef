-- What PIDs carry, by the events of their windows: the last program of a PID counts, if it has any, and the last name of a program's service.
use Rattle.std.specs.Prelude.{ℕ, ◌==◌, if◌then◌else◌, unwrap_or, List, Option, Some, None}
use Rattle.events.specs.declared.event.Event.{Event}
use Rattle.events.specs.declared.event.Event.TheVariants.{Window}
use Rattle.events.specs.Windows.{WindowView}
use Rattle.page_curves.specs.PidLabels.{LabelsState, with_pid, with_program, with_service}
use Rattle.view_rows.specs.HtmlTexts.{html_text}

unfoldable pub with_name : ℕ → Option (List ℕ) → LabelsState → LabelsState
with_name program None l = l
with_name program (Some name) l = with_service program (html_text name) l

abbrev pub with_named : LabelsState → WindowView → ℕ → LabelsState
with_named l w program = with_name program w.service (with_program w.pid (record { program = program; name = w.coding }) l)

abbrev pub with_named_if : LabelsState → WindowView → ℕ → LabelsState
with_named_if l w program = if program == 0 then l else with_named l w program

-- `window`: 0 is no program
abbrev pub with_window : LabelsState → WindowView → LabelsState
with_window l w = with_named_if (with_pid w.pid w.coding l) w (unwrap_or w.program 0)

unfoldable pub with_event : LabelsState → Event → LabelsState
with_event l (Window w) = with_window l w
with_event l _ = l
