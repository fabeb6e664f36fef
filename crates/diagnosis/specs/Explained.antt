-- The explanation of a description, or of a description and its plan.
use Rattle.std.specs.Prelude.{◌≡◌, ℕ, ◌==◌, List, [], ◌++◌, length, Option, Some, None, Result, Ok, Err, codes, decimal, if◌then◌else◌}
use Rattle.std.specs.Str.{is_utf8}
use Rattle.description_parts.specs.Described.{Described}
use Rattle.description_keys.specs.declared.fault.DescError.{DescError}
use Rattle.description_keys.specs.declared.fault.DescFault.{DescFault}
use Rattle.description_keys.specs.declared.fault.DescFault.TheVariants.{Text, UnknownKey}
use Rattle.description_keys.specs.declared.fault.DescError.TheVariants.{Refused, Memory}
use Rattle.slot_plan.specs.Planned.{Planned}
use Rattle.checked_jobs.specs.Jobs.{described}
use Rattle.job_parts.specs.Parts.{parts_of, planned}
use Rattle.plan_diagnosis.specs.ConditionLines.{condition_lines}
use Rattle.diagnosis.specs.FaultLines.{fault_line}
use Rattle.diagnosis.specs.KeyPlaces.{lines_of}
use Rattle.plan_diagnosis.specs.ReasonLines.{reason_lines}
use Rattle.diagnosis.specs.TomlNotes.{TomlNoteView, note_line}
use Rattle.diagnosis.specs.UnknownWords.{unknown_line}

-- the lines of a text; bytes that are no UTF-8 have none
abbrev pub text_lines : List ℕ → List (List ℕ)
text_lines bytes = if is_utf8 bytes then lines_of bytes else []

unfoldable pub bad_line_words : ℕ → List ℕ
bad_line_words line = codes "line " ++ decimal line ++ codes " of the plan is not as a plan has it\n"

-- for a plan: its first line with a syntax error; otherwise lines of the conditions that it does not keep, and what to do if there are any
abbrev pub remedy_line : List ℕ
remedy_line = codes "the plan is of another description, or it was changed: tsmux plan makes a plan for this one\n"

unfoldable pub with_remedy : List ℕ → List ℕ
with_remedy lines = if length lines == 0 then [] else lines ++ remedy_line

abbrev pub served_words : Described → Planned → List ℕ
served_words d p = with_remedy (condition_lines d p)

unfoldable pub plan_words : Described → Result (Planned × List ℕ) ℕ → List ℕ
plan_words d (Err line) = bad_line_words line
plan_words d (Ok read) = served_words d read.0

-- for a description without a plan: the numbers that no plan can meet
unfoldable pub with_description : Option (List ℕ) → Described → List ℕ
with_description None d = reason_lines d
with_description (Some plan) d = plan_words d (planned plan)

-- why a description is refused: the TOML reader's message, if it is not valid TOML; the first word that no description has; or the fault's line
unfoldable pub refusal_words : TomlNoteView → List (List ℕ) → DescFault → List ℕ
refusal_words note lines Text = note_line lines note
refusal_words note lines UnknownKey = unknown_line lines
refusal_words note lines fault = fault_line lines fault

-- why the description is refused; otherwise the explanation of the description and the plan
unfoldable pub description_words : TomlNoteView → List ℕ → Option (List ℕ) → Result Described DescError → List ℕ
description_words note bytes plan (Err (Refused fault)) = refusal_words note (text_lines bytes) fault
description_words note bytes plan (Err Memory) = []
description_words note bytes plan (Ok d) = with_description plan d

-- the description ends where a plan's text begins
unfoldable pub parts_words : TomlNoteView → List ℕ → Option (List ℕ × List ℕ) → List ℕ
parts_words note bytes None = description_words note bytes None (described bytes)
parts_words note bytes (Some parts) = description_words note parts.0 (Some parts.1) (described parts.0)

abbrev pub explained : TomlNoteView → List ℕ → List ℕ
explained note bytes = parts_words note bytes (parts_of bytes)

-- for any message of the TOML reader
abbrev pub IsExplained : List ℕ → List ℕ → Type 0
IsExplained bytes text = (note : TomlNoteView) × (text ≡ explained note bytes)
