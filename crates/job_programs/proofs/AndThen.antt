-- One step after another.
use Rattle.std.proofs.Common.{ap, Result}
use Rattle.job_programs.specs.declared.refusal.JobRefusal.{JobRefusal}
use Rattle.job_programs.specs.declared.refusal.JobError.{JobError}
use Rattle.job_programs.specs.declared.refusal.JobError.TheVariants.{Memory, Refused}
use Rattle.job_programs.specs.Answers.{and_then, Refuses}

-- If the first step is refused, the next step does not run.
pub then_refuses : {A B : Type 0} (next : A → Result B JobRefusal) (first : Result A JobRefusal) (error : JobError) →
    Refuses first error → Refuses (and_then next first) error
unfolding and_then Refuses
then_refuses next first Memory is = tt
then_refuses next first (Refused refusal) is = ap (and_then next) is
