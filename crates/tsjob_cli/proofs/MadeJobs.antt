-- The job that the program makes in memory.
use Rattle.std.proofs.Common.{◌≡◌, ℕ, List, [], Some}
use Rattle.word_faults.specs.CommandLine.{Text}
use Rattle.devices.specs.Devices.{Device}
use Rattle.devices.specs.Files.{Files}
use Rattle.tsjob_cli.specs.MadeJobs.{MakesJob, RunsJob}

-- The program makes the job.
pub made : (words : List Text) (files : Files) (input job faults : Device) (bytes : List ℕ) (status : ℕ) → job.before.bytes ≡ Some [] →
    job.after.bytes ≡ Some bytes →
    RunsJob words files input job faults status → MakesJob words files input faults bytes status
made words files input job faults bytes status empty are runs = record { job = job; empty = empty; bytes_are = are; runs = runs }
