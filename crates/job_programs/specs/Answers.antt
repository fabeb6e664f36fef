-- The result of a call: a value, or a refusal.
use Rattle.std.specs.Prelude.{◌≡◌, ⊤, List, [], ◌∷◌, Option, Some, None, Result, Ok, Err}
use Rattle.job_programs.specs.declared.refusal.JobRefusal.{JobRefusal}
use Rattle.job_programs.specs.declared.refusal.JobError.{JobError}
use Rattle.job_programs.specs.declared.refusal.JobError.TheVariants.{Memory, Refused}

-- the next step, if there is a value
unfoldable pub and_then : {A B : Type 0} → (A → Result B JobRefusal) → Result A JobRefusal → Result B JobRefusal
and_then next (Ok value) = next value
and_then next (Err refusal) = Err refusal

-- a result, unless there is a refusal before it
unfoldable pub unless : {A : Type 0} → Option JobRefusal → Result A JobRefusal → Result A JobRefusal
unless (Some refusal) answer = Err refusal
unless None answer = answer

-- the results for each element, in order; or the first refusal
unfoldable pub each : {A B : Type 0} → (A → Result B JobRefusal) → List A → Result (List B) JobRefusal
each f [] = Ok []
each f (x ∷ xs) = and_then (λ y. and_then (λ ys. Ok (y ∷ ys)) (each f xs)) (f x)

-- the error of a call that gives no value: out of memory, or this refusal
unfoldable pub Refuses : {A : Type 0} → Result A JobRefusal → JobError → Type 0
Refuses answer Memory = ⊤
Refuses answer (Refused refusal) = answer ≡ Err refusal

-- a call gives exactly this, unless it is out of memory
unfoldable pub Answers : {A : Type 0} → Result A JobRefusal → Result A JobError → Type 0
Answers answer (Ok value) = answer ≡ Ok value
Answers answer (Err error) = Refuses answer error

-- the steps `next` lead from a call's value to exactly this answer, unless the call is out of memory or gives the same refusal
unfoldable pub Leads : {A B : Type 0} → Result B JobRefusal → (A → Result B JobRefusal) → Result A JobError → Type 0
Leads answer next (Ok value) = answer ≡ next value
Leads answer next (Err error) = Refuses answer error
