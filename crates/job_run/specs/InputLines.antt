-- The lines about one input of several: each has the number of the input, from 1 on, and the name of its file.
use Rattle.std.specs.Prelude.{ℕ, ◌+◌, ◌-◌, ◌^◌, min, Bool, true, false, List, [], ◌++◌, flat_map, codes, decimal, unwrap_or, slice_get}
use Rattle.std.specs.List.{list_any}
use Rattle.job_inputs.specs.declared.joined_inputs.InputNote.{InputNote}
use Rattle.job_inputs.specs.declared.joined_inputs.NoteCause.{NoteCause}
use Rattle.job_inputs.specs.declared.joined_inputs.NoteCause.TheVariants.{Events, Network, Pid, Program, Time}

-- 1. Which input

-- inputs are numbered from 0 on
unfoldable pub input_head : ℕ → List ℕ → List ℕ
input_head number name = codes "input " ++ decimal (min (number + 1) (2 ^ 64 - 1)) ++ codes " " ++ name ++ codes ":"

-- the line above the lines of an input
unfoldable pub input_line : ℕ → List ℕ → List ℕ
input_line number name = input_head number name ++ codes "\n"

-- 2. What changes in an input beside the inputs before it

-- a program or a PID has a new number; the job has the network and the time of the first input; this many events are too many
unfoldable pub cause_text : NoteCause → List ℕ
cause_text (Program n) = codes " program " ++ decimal n.from ++ codes " is " ++ decimal n.to ++ codes "\n"
cause_text (Pid n) = codes " pid " ++ decimal n.from ++ codes " is " ++ decimal n.to ++ codes "\n"
cause_text Network = codes " NIT left out\n"
cause_text Time = codes " TDT left out\n"
cause_text (Events count) = codes " " ++ decimal count ++ codes " events left out\n"

-- the name of the input of a number; none where there is no such input
abbrev pub name_of : List (List ℕ) → ℕ → List ℕ
name_of names number = unwrap_or (slice_get names number) []

-- a line each
unfoldable pub note_line : List (List ℕ) → InputNote → List ℕ
note_line names n = input_head n.input (name_of names n.input) ++ cause_text n.cause

abbrev pub note_lines : List (List ℕ) → List InputNote → List ℕ
note_lines names notes = flat_map (note_line names) notes

-- 3. Losses

-- whether a note reports a loss: a network, or events; a new number is no loss, and a job has one time
unfoldable pub is_cause_loss : NoteCause → Bool
is_cause_loss (Program n) = false
is_cause_loss (Pid n) = false
is_cause_loss Network = true
is_cause_loss Time = false
is_cause_loss (Events count) = true

abbrev pub are_lost : List InputNote → Bool
are_lost notes = list_any (λ n. is_cause_loss n.cause) notes
