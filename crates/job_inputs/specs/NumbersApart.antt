-- The programs of a transport stream have distinct program_numbers, and its streams, maps and tables distinct PIDs (ISO/IEC 13818-1, 2.4.4).
use Rattle.std.specs.Prelude.{◌≡◌, nat_eq, List, ◌∷◌, Ok, All}
use Rattle.std.specs.List.{IsDistinct}
use Rattle.job_inputs.specs.JobInput.{JobInputView}
use Rattle.job_inputs.specs.JoinedInputs.{JoinedInputsView, joined_inputs}
use Rattle.job_inputs.specs.RenumberedInputs.{all_pids, program_numbers}

-- no two programs have one program_number, and no two of the PIDs of maps, streams, private sections and clock references are equal
pub record AreApart (m : JobInputView) : Type 0 where
  pub programs : IsDistinct nat_eq (program_numbers m)
  pub pids : IsDistinct nat_eq (all_pids m)

-- the numbers and PIDs of joined inputs are distinct, if they are distinct in each input
abbrev pub JoinedAreApart : Type 0
JoinedAreApart = (first : JobInputView) (more : List JobInputView) (j : JoinedInputsView) → All AreApart (first ∷ more) → joined_inputs first more ≡ Ok j →
    AreApart j.input
