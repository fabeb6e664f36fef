-- What `mux` and `carry` wrote if they ended with status 0.
use Rattle.std.specs.Prelude.{◌≡◌, ℕ, List, None, Ok, is_some}
use Rattle.devices.specs.Devices.{Device, Takes}
use Rattle.devices.specs.Runs.{Performs}
use Rattle.devices.specs.WholeInput.{ReadsInput}
use Rattle.checked_jobs.specs.MuxJobs.{MuxJobView, mux_job_of}
use Rattle.checked_jobs.specs.Multiplexing.{IsKept, Muxes, cause_of, packets_of}
use Rattle.mux_core.specs.RecordRuns.{Finished, IsOwn, carried, run_of}
use Rattle.tsmux_cli.specs.Carrying.{Carries}
use Rattle.tsmux_cli.specs.declared.request.CarryOptions.{CarryOptions}
use Rattle.checked_jobs.specs.declared.multiplexing.MuxOptions.{MuxOptions}

-- an input was read to its end, and its bytes are a job with nothing that is refused: the packets of this job are written, and they keep every promise
pub record MuxesJob (o : MuxOptions) (input packets : Device) : Type 0 where
  pub bytes : List ℕ
  pub read : ReadsInput input (Ok bytes)
  pub job : MuxJobView
  pub job_is : mux_job_of (is_some o.periods) bytes ≡ Ok job
  pub taken : cause_of o job ≡ None
  pub written : Takes packets (packets_of o job)
  pub kept : IsKept o job

-- this is so whatever the input is, also if its bytes are not known, as at a standard input
abbrev pub GoodRuns : Type 0
GoodRuns = (o : MuxOptions) (input packets faults : Device) (status : ℕ) → Performs (Muxes o) input packets faults status → status ≡ 0 →
    MuxesJob o input packets

-- the bytes that were read are whole records, none of them refused, and the packets of all their units are written; the bytes are the input's own, if these
-- are known
pub record CarriesAll (c : CarryOptions) (input output : Device) : Type 0 where
  pub bytes : List ℕ
  pub own : IsOwn input.before.bytes bytes
  pub finished : (run_of c.id bytes).ending ≡ Finished
  pub written : Takes output (carried c.hex c.pid c.id (run_of c.id bytes).units)

abbrev pub GoodCarries : Type 0
GoodCarries = (c : CarryOptions) (input output faults : Device) (status : ℕ) → Carries c input output faults status → status ≡ 0 → CarriesAll c input output
