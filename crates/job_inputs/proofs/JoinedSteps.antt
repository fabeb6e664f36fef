-- Inputs that are joined one after another
use Rattle.std.proofs.Common.{◌≡◌, ◌∙◌, ℕ, ◌+◌, List, [], ◌∷◌, length, Result, Ok, refl, sym, ap}
use Rattle.job_programs.specs.Answers.{Refuses, and_then}
use Rattle.job_inputs.specs.JobInput.{JobInputView}
use Rattle.job_inputs.specs.JoinedInputs.{JoinedInputsView, with_input, with_inputs}
use Rattle.job_programs.specs.declared.refusal.JobError.{JobError}
use Rattle.job_programs.specs.declared.refusal.JobError.TheVariants.{Memory, Refused}
use Rattle.job_programs.specs.declared.refusal.JobRefusal.{JobRefusal}

pub joins_on : (whole : Result JoinedInputsView JobRefusal) (number next : ℕ) (j more : JoinedInputsView) (left later : List JobInputView) (m : JobInputView) →
    whole ≡ with_inputs (number + 1) j left → left ≡ m ∷ later → next ≡ number + 1 → with_input next j m ≡ Ok more → whole ≡ with_inputs (next + 1) more later
unfolding with_inputs and_then
joins_on whole number next j more left later m so_far first here is =
    so_far ∙ ap (λ (n : ℕ). with_inputs n j left) (sym here) ∙ ap (with_inputs next j) first ∙ rw is refl

pub joins_refused : (whole : Result JoinedInputsView JobRefusal) (number next : ℕ) (j : JoinedInputsView) (left later : List JobInputView) (m : JobInputView)
    (error : JobError) →
    whole ≡ with_inputs (number + 1) j left → left ≡ m ∷ later → next ≡ number + 1 → Refuses (with_input next j m) error → Refuses whole error
unfolding with_inputs and_then Refuses
joins_refused whole number next j left later m Memory so_far first here is = tt
joins_refused whole number next j left later m (Refused refusal) so_far first here is =
    so_far ∙ ap (λ (n : ℕ). with_inputs n j left) (sym here) ∙ ap (with_inputs next j) first ∙ rw is refl

pub joins_done : (whole : Result JoinedInputsView JobRefusal) (number : ℕ) (j : JoinedInputsView) (left : List JobInputView) →
    whole ≡ with_inputs (number + 1) j left → length left ≡ 0 →
    whole ≡ Ok j
unfolding with_inputs
joins_done whole number j [] so_far none = so_far
joins_done whole number j (m ∷ left) so_far none = absurd cc
