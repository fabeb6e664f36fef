-- Both programs in sequence.
use Rattle.std.proofs.Common.{◌≡◌, ℕ, true, false, List, Some, Result, Ok, Err, refl, inl, inr, subst}
use Rattle.word_faults.specs.CommandLine.{Text}
use Rattle.devices.specs.Devices.{Device, Port, between, IsUntouched}
use Rattle.devices.specs.Files.{Files}
use Rattle.tsremux_cli.specs.Muxing.{IsMuxed, MuxesBytes}
use Rattle.tsjob_cli.specs.MadeJobs.{MakesJob, is_job}
use Rattle.tsremux_cli.specs.Remuxing.{Remuxes}
use Rattle.tsremux_cli.specs.declared.figures.Figures.{Figures}
use Rattle.tsremux_cli.specs.declared.figures.Remuxed.TheVariants.{Whole, Ended}

-- The bytes are the job.
pub held : (bytes : List ℕ) (job packets faults : Device) (result : Result Figures ℕ) → job.before.bytes ≡ Some bytes → IsMuxed job packets faults result →
    MuxesBytes bytes packets faults result
held bytes job packets faults result begins muxed = record { job = job; begins = begins; muxed = muxed }

-- There is no job.
pub stopped : (words : List Text) (files : Files) (input packets : Device) (before after : Port) (bytes : List ℕ) (status : ℕ) →
    MakesJob words files input (between before after) bytes status → is_job bytes status ≡ false → IsUntouched packets →
    Remuxes words files input packets (between before after) (Ended status)
stopped words files input packets before after bytes status makes none unwritten = record {
  bytes = bytes;
  job_status = status;
  so_far = after;
  makes = makes;
  goes_on = inl (record { none = none; unwritten = unwritten; silent = refl; status_is = refl });
}

-- There is a job, and not all its packets are written.
pub failed_then : (words : List Text) (files : Files) (input packets : Device) (before mid after : Port) (bytes shown : List ℕ) (job_status status : ℕ) →
    MakesJob words files input (between before mid) bytes job_status → is_job bytes job_status ≡ true → shown ≡ bytes →
    MuxesBytes shown packets (between mid after) (Err status) → Remuxes words files input packets (between before after) (Ended status)
failed_then words files input packets before mid after bytes shown job_status status makes is same muxed = record {
  bytes = bytes;
  job_status = job_status;
  so_far = mid;
  makes = makes;
  goes_on = inr (record { is = is; muxed = subst (λ (xs : List ℕ). MuxesBytes xs packets (between mid after) (Err status)) same muxed });
}

-- There is a job, and all its packets are written.
pub whole : (words : List Text) (files : Files) (input packets : Device) (before mid after : Port) (bytes shown : List ℕ) (status : ℕ) (figures : Figures) →
    MakesJob words files input (between before mid) bytes status → is_job bytes status ≡ true → shown ≡ bytes →
    MuxesBytes shown packets (between mid after) (Ok figures) →
    Remuxes words files input packets (between before after) (Whole figures status)
whole words files input packets before mid after bytes shown status figures makes is same muxed = record {
  bytes = bytes;
  job_status = status;
  so_far = mid;
  makes = makes;
  goes_on = record { is = is; muxed = subst (λ (xs : List ℕ). MuxesBytes xs packets (between mid after) (Ok figures)) same muxed; status_is = refl };
}
