-- A run of `carry` with status 0.
use Rattle.std.proofs.Common.{◌≡◌, ℕ, Result, Ok, Err, sym, ◌∙◌}
use Rattle.mux_core.specs.RecordRuns.{Carries as CarriesBytes}
use Rattle.mux_core.specs.declared.carrying.CarryError.{CarryError}
use Rattle.mux_core.specs.declared.carrying.CarryError.TheVariants.{Unit as AtUnit, File as AtRecord, Device as AtWriter, Memory as NoMemory}
use Rattle.unit_records.specs.declared.reading.UnitFileError.{UnitFileError}
use Rattle.unit_records.specs.declared.reading.UnitFileError.TheVariants as unread
use Rattle.checked_jobs.specs.FaultLines.{record_outcome}
use Rattle.devices.specs.Devices.{Device}
use Rattle.tsmux_cli.specs.Carrying.{carry_outcome}
use Rattle.tsmux_cli.specs.Laws.{CarriesAll, GoodCarries}
use Rattle.tsmux_cli.specs.declared.request.CarryOptions.{CarryOptions}

record_status : (index : ℕ) (fault : UnitFileError) → (record_outcome index fault).status ≡ 0 → ⊥
unfolding record_outcome
record_status index unread.Cut e = cc
record_status index unread.Size e = cc
record_status index unread.Device e = cc
record_status index unread.Memory e = cc

of_answer : (c : CarryOptions) (input output : Device) (answer : Result ℕ CarryError) →
    CarriesBytes c.hex c.pid c.id input.before.bytes output.before.bytes output.after.bytes answer → (carry_outcome answer).status ≡ 0 →
    CarriesAll c input output
unfolding carry_outcome
of_answer c input output (Ok sent) r good = record { bytes = r.bytes; own = r.own; finished = r.answers; written = r.writes.1 }
of_answer c input output (Err (AtUnit index cause)) r good = absurd (let no : 1 ≡ 0 = good in cc)
of_answer c input output (Err (AtRecord index fault)) r good = absurd (record_status index fault good)
of_answer c input output (Err (AtWriter sent)) r good = absurd (let no : 3 ≡ 0 = good in cc)
of_answer c input output (Err (NoMemory index)) r good = absurd (let no : 3 ≡ 0 = good in cc)

pub good_carries : GoodCarries
good_carries c input output faults status r good = of_answer c input output r.answer r.carries (sym r.status_is ∙ good)
