-- Which lines are reported about a stream changes nothing in the job that is made from it.
use Rattle.std.specs.Prelude.{◌≡◌, Bool, List}
use Rattle.pid_findings.specs.Views.{FindingView}
use Rattle.job_inputs.specs.JobInput.{JobInputView}
use Rattle.job_run.specs.Outcomes.{reports_loss}
use Rattle.job_run.specs.Streams.{PacketNotesView}

-- whether something is lost, whichever lines are reported
abbrev pub StatusStays : Type 0
StatusStays = (whole quiet all other_quiet other_all : Bool) (notes : PacketNotesView) (findings : List FindingView) (m : JobInputView) →
    reports_loss (record { whole = whole; quiet = quiet; all = all }) notes findings m
    ≡ reports_loss (record { whole = whole; quiet = other_quiet; all = other_all }) notes findings m
