-- Each clock of each input has one constant, and keeps it when inputs are joined.
use Rattle.std.proofs.Common.{◌≡◌, ◌≤◌, ℕ, ◌+◌, ◌==◌, Bool, if◌then◌else◌, List, [], ◌∷◌, ◌++◌, length, All, refl, sym, ap, subst, ◌∙◌, arith, append_assoc}
use Rattle.std.specs.List.{AllZip}
use Rattle.std.proofs.lemmas.Bool.{eq-eqb, ne_eqb}
use Rattle.std.proofs.lemmas.List.{length-append}
use Rattle.pid_findings.specs.Views.{FindingView}
use Rattle.job_inputs.specs.ClockConstants.{IsMovedBy, clock_of}
use Rattle.job_inputs.specs.JobInput.{JobInputView}
use Rattle.job_programs.specs.JobOptions.{JobOptionsView}
use Rattle.job_inputs.specs.JoinedInputs.{AreMovedByOne, findings_in}
use Rattle.job_programs.specs.declared.program_clock.ProgramClock.{ProgramClock}
use Rattle.job_inputs.proofs.ClockConstants.{constants_of}
use Rattle.laws_pipe.specs.PipedFiles.{TakesInput}

-- 1. A constant for each clock of one more input

-- The input with this number has its own constants; any other input has the given constants.
abbrev with_own : ℕ → (ProgramClock → ℕ) → (ℕ → ProgramClock → ℕ) → ℕ → ProgramClock → ℕ
with_own number own others n = if n == number then own else others n

own_there : (number : ℕ) (own : ProgramClock → ℕ) (others : ℕ → ProgramClock → ℕ) → with_own number own others number ≡ own
own_there number own others = ap (λ (b : Bool). if b then own else others number) (eq-eqb number number refl)

other_there : (number : ℕ) (own : ProgramClock → ℕ) (others : ℕ → ProgramClock → ℕ) (n : ℕ) → number + 1 ≤ n → others n ≡ with_own number own others n
other_there number own others n later = sym (ap (λ (b : Bool). if b then own else others n) (ne_eqb n number (λ same. omega (arith, same, later))))

-- The streams of the input with this number are moved by these constants of its clocks.
abbrev MovedBy : Bool → List (List FindingView) → ℕ → JobInputView → (ProgramClock → ℕ) → Type 0
MovedBy made inputs number m own = All (λ t. IsMovedBy made (findings_in inputs number) (own (clock_of m.programs t)) t) m.streams

-- Inputs numbered from `number` on use no constant of an earlier input.
same_moved : (made : Bool) (inputs : List (List FindingView)) (one other : ℕ → ProgramClock → ℕ) (number : ℕ) (ms : List JobInputView) →
    ((n : ℕ) → number ≤ n → one n ≡ other n) →
    AreMovedByOne made inputs one number ms → AreMovedByOne made inputs other number ms
unfolding AreMovedByOne
same_moved made inputs one other number [] same moved = tt
same_moved made inputs one other number (m ∷ ms) same moved = (
  subst (MovedBy made inputs number m) (same number (omega arith)) moved.0,
  same_moved made inputs one other (number + 1) ms (λ n later. same n (omega (arith, later))) moved.1,
)

-- 2. All inputs

-- The findings of an input are found by its number.
found_at : (before : List (List FindingView)) (f : List FindingView) (after : List (List FindingView)) → findings_in (before ++ f ∷ after) (length before) ≡ f
unfolding findings_in
found_at [] f after = refl
found_at (b ∷ bs) f after = found_at bs f after

-- Constants of the clocks of the inputs numbered from `number` on
pub record HaveConstants (made : Bool) (inputs : List (List FindingView)) (number : ℕ) (ms : List JobInputView) : Type 0 where
  pub constant : ℕ → ProgramClock → ℕ
  pub moved : AreMovedByOne made inputs constant number ms

no_constants : (made : Bool) (inputs : List (List FindingView)) (number : ℕ) → HaveConstants made inputs number []
unfolding AreMovedByOne
no_constants made inputs number = record { constant = λ n clock. 0; moved = tt }

one_more : (made : Bool) (inputs : List (List FindingView)) (number : ℕ) (m : JobInputView) (ms : List JobInputView) (own : ProgramClock → ℕ) →
    MovedBy made inputs number m own → HaveConstants made inputs (number + 1) ms → HaveConstants made inputs number (m ∷ ms)
unfolding AreMovedByOne
one_more made inputs number m ms own streams rest = record {
  constant = with_own number own rest.constant;
  moved = (
    subst (MovedBy made inputs number m) (sym (own_there number own rest.constant)) streams,
    same_moved made inputs rest.constant (with_own number own rest.constant) (number + 1) ms (other_there number own rest.constant) rest.moved,
  );
}

constants_from : (w : JobOptionsView) (before : List (List FindingView)) (number : ℕ) (inputs : List (List FindingView)) (ms : List JobInputView) →
    length before ≡ number →
    AllZip (TakesInput w) inputs ms → HaveConstants w.make_dts (before ++ inputs) number ms
constants_from w before number [] [] at all = no_constants w.make_dts (before ++ []) number
constants_from w before number [] (m ∷ ms) at all = absurd all
constants_from w before number (f ∷ fs) [] at all = absurd all
constants_from w before number (f ∷ fs) (m ∷ ms) at all =
    let takes = all.0 in
    let own = constants_of w takes.count f m takes.is in
    let here : findings_in (before ++ f ∷ fs) number ≡ f = ap (λ (n : ℕ). findings_in (before ++ f ∷ fs) n) (sym at) ∙ found_at before f fs in
    let longer : length (before ++ f ∷ []) ≡ number + 1 = length-append before (f ∷ []) ∙ ap (λ (n : ℕ). n + 1) at in
    let rest = constants_from w (before ++ f ∷ []) (number + 1) fs ms longer all.1 in
    one_more w.make_dts (before ++ f ∷ fs) number m ms own.constant
    (subst (λ (x : List FindingView). All (λ t. IsMovedBy w.make_dts x (own.constant (clock_of m.programs t)) t) m.streams) (sym here) own.streams)
    (subst (λ (l : List (List FindingView)). HaveConstants w.make_dts l (number + 1) ms) (append_assoc before (f ∷ []) fs) rest)

pub constants_for : (w : JobOptionsView) (inputs : List (List FindingView)) (ms : List JobInputView) → AllZip (TakesInput w) inputs ms →
    HaveConstants w.make_dts inputs 0 ms
constants_for w inputs ms all = constants_from w [] 0 inputs ms refl all
