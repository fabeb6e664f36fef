-- The findings of a job, from those of its parts
use Rattle.std.proofs.Common.{◌≡◌, ◌∙◌, ℕ, Bool, List, Option, ap, refl}
use Rattle.pid_findings.specs.Views.{FindingView}
use Rattle.stamp_repair.specs.DataTimes.{timed}
use Rattle.packet_pcr.specs.declared.pcr_reading.FoundPcr.{FoundPcr}
use Rattle.stamp_repair.specs.LoneStamps.{lone_damaged}
use Rattle.job_programs.specs.JobOptions.{JobOptionsView}
use Rattle.job_run.specs.FramePackets.{framed_by}
use Rattle.job_run.specs.Streams.{falling_by, findings_by, mended_by, parts_by, references_by}

pub made_findings : (joined : Bool) (references own : List FoundPcr) (findings parts made : List FindingView) (falling : List ℕ) →
    falling ≡ falling_by joined references findings → own ≡ references_by joined references findings → parts ≡ parts_by joined references findings →
    made ≡ lone_damaged falling (timed own parts) → made ≡ mended_by joined references findings
made_findings joined references own findings parts made falling a b c is = is ∙ rw (a, b, c) refl

-- Their PES packets of sound, cut
pub framed_findings : (options : JobOptionsView) (references : List FoundPcr) (findings mended made : List FindingView) →
    mended ≡ mended_by options.joined references findings → made ≡ framed_by options.frames mended → made ≡ findings_by options references findings
framed_findings options references findings mended made a is = is ∙ ap (framed_by options.frames) a
