-- An input made from found streams has these streams.
use Rattle.std.proofs.Common.{◌≡◌, ◌≤◌, Bool, List, Result, Ok, Err, IfOk, All, length, sym, subst}
use Rattle.pid_findings.specs.Views.{FindingView}
use Rattle.job_programs.specs.FoundUnits.{FitsQueue, IsMoved}
use Rattle.job_programs.specs.declared.refusal.JobError.{JobError}
use Rattle.job_inputs.specs.JobInput.{JobInputView, AreStreams}
use Rattle.job_programs.specs.JobStreams.{TimedStreamView}

-- The streams of the input are these streams.
pub are_streams : (made : Bool) (findings : List FindingView) (streams : List TimedStreamView) (r : Result JobInputView JobError) →
    All (IsMoved made findings) streams →
    IfOk r (λ i. i.streams ≡ streams) → IfOk r (λ i. All FitsQueue i.streams) → IfOk r (λ i. length i.streams ≤ 254) → IfOk r (AreStreams made findings)
are_streams made findings streams (Ok i) all same fits count =
    record { moved = subst (All (IsMoved made findings)) (sym same) all; fits = fits; stream_count = count }
are_streams made findings streams (Err error) all same fits count = tt
