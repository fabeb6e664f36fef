-- `carry`: its output, its report and its status.
use Rattle.std.specs.Prelude.{◌≡◌, ℕ, List, [], Some, Result, Ok, Err}
use Rattle.mux_core.specs.RecordRuns.{Leaves, NamesDevice, Carries as CarriesBytes}
use Rattle.mux_core.specs.declared.carrying.CarryError.{CarryError}
use Rattle.mux_core.specs.declared.carrying.CarryError.TheVariants.{Unit as AtUnit, File as AtRecord, Device as AtWriter, Memory as NoMemory}
use Rattle.tsmux_cli.specs.declared.request.CarryOptions.{CarryOptions}
use Rattle.devices.specs.Devices.{Device}
use Rattle.checked_jobs.specs.FaultLines.{record_outcome, unit_outcome}
use Rattle.devices.specs.Lines.{Reports}
use Rattle.devices.specs.Outcomes.{Outcome, printed, halted}
use Rattle.devices.specs.declared.halt.Halt.TheVariants.{Write, Memory}

-- the line and the status for an answer: no line and 0 where all was carried
unfoldable pub carry_outcome : Result ℕ CarryError → Outcome
carry_outcome (Ok sent) = printed [] 0
carry_outcome (Err (AtUnit index cause)) = unit_outcome index cause
carry_outcome (Err (AtRecord index fault)) = record_outcome index fault
carry_outcome (Err (AtWriter sent)) = halted Write
carry_outcome (Err (NoMemory index)) = halted Memory

-- a run of `carry`: the output has the packets of the records, before the first refused one, of the bytes that were read, as `carried` gives them; the bytes
-- are the input's own, if these are known. The line and the status are the answer's, and a device is named if a call of it failed
pub record Carries (c : CarryOptions) (input output faults : Device) (status : ℕ) : Type 0 where
  pub answer : Result ℕ CarryError
  pub carries : CarriesBytes c.hex c.pid c.id input.before.bytes output.before.bytes output.after.bytes answer
  pub leaves : (xs : List ℕ) → input.before.bytes ≡ Some xs → Leaves xs input.after.bytes answer
  pub device : NamesDevice answer input.before.failed input.after.failed output.before.failed output.after.failed
  pub reports : Reports faults (carry_outcome answer).report
  pub status_is : status ≡ (carry_outcome answer).status
