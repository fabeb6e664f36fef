-- The line of a fault in a job that a program has found: the number of the fault, and the words for it.
use Rattle.std.specs.Prelude.{◌≡◌, ℕ, List, [], ◌∷◌, ◌++◌, codes, decimal}
use Rattle.checked_jobs.specs.Jobs.{BadDescription, BadLine, BadSecondLine, Fails, HasNoPlan, JobFaultView, SecondFails}
use Rattle.description_keys.specs.Codes.{fault_code}
use Rattle.slot_plan.specs.Entries.{code_of}
use Rattle.diagnosis.specs.Explained.{IsExplained}
use Rattle.explained_jobs.specs.JobWords.{IsJobExplained, or_words}

-- a name, and a number of this kind
unfoldable pub numbered_head : List ℕ → List ℕ → ℕ → List ℕ
numbered_head name kind n = name ++ codes " (" ++ kind ++ codes " " ++ decimal n ++ codes "): "

-- the fault: the number of its refusal, or of its line
unfoldable pub fault_head : JobFaultView → List ℕ
fault_head HasNoPlan = codes "job: "
fault_head (BadDescription f) = numbered_head (codes "description") (codes "code") (fault_code f)
fault_head (BadLine line) = numbered_head (codes "plan") (codes "line") line
fault_head (Fails e) = numbered_head (codes "refused") (codes "code") (code_of e.condition)
fault_head (BadSecondLine line) = numbered_head (codes "second plan") (codes "line") line
fault_head (SecondFails e) = numbered_head (codes "second refused") (codes "code") (code_of e.condition)

-- words for the description and the plan in the bytes of a job, as whole lines; and for the whole job
pub record AreExplained (bytes words : List ℕ) : Type 0 where
  pub said : List ℕ
  pub explained : IsExplained bytes said
  pub is : words ≡ or_words said (10 ∷ [])

pub record AreJobExplained (bytes words : List ℕ) : Type 0 where
  pub said : List ℕ
  pub explained : IsJobExplained bytes said
  pub is : words ≡ or_words said (10 ∷ [])

abbrev pub AreFaultWords : List ℕ → JobFaultView → List ℕ → Type 0
AreFaultWords bytes HasNoPlan words = words ≡ codes "no line is tsplan 1, so there is no plan: tsmux plan < DESCRIPTION makes a plan\n"
AreFaultWords bytes (BadDescription f) words = AreExplained bytes words
AreFaultWords bytes (BadLine line) words = words ≡ codes "not as a plan has it: tsmux plan < DESCRIPTION makes a plan\n"
AreFaultWords bytes (Fails e) words = AreExplained bytes words
AreFaultWords bytes (BadSecondLine line) words = words ≡ codes "not as a plan has it: --switch takes two plans\n"
AreFaultWords bytes (SecondFails e) words = AreJobExplained bytes words

-- the line of a fault in the job that these bytes begin
pub record IsFaultLine (bytes : List ℕ) (fault : JobFaultView) (line : List ℕ) : Type 0 where
  pub words : List ℕ
  pub are : AreFaultWords bytes fault words
  pub is : line ≡ fault_head fault ++ words
