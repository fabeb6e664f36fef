-- A subcommand that reads its whole input: its outcome if no device fails, and if a device does.
use Rattle.std.specs.Prelude.{◌≡◌, ◌⊎◌, ℕ, List, take}
use Rattle.devices.specs.Devices.{Device, HasFailed, IsClean, IsUntouched, Takes}
use Rattle.devices.specs.Lines.{Reports}
use Rattle.devices.specs.Outcomes.{Outcome, halt_line}
use Rattle.devices.specs.WholeInput.{IsLong, IsReadAs}
use Rattle.devices.specs.declared.halt.Halt.TheVariants.{Read, Write, Memory}

-- the input was read to its end, and bytes lead to this outcome: the input's own bytes if these are known, and otherwise some bytes, as at a standard input
abbrev pub IsLedTo : (List ℕ → Outcome → Type 0) → Device → Outcome → Type 0
IsLedTo Leads input outcome = IsReadAs input (λ bytes. Leads bytes outcome)

-- it ran to its end
pub record Ends (Leads : List ℕ → Outcome → Type 0) (input output faults : Device) (status : ℕ) : Type 0 where
  pub outcome : Outcome
  pub leads : IsLedTo Leads input outcome
  pub written : Takes output outcome.output
  pub clean : IsClean output
  pub reports : Reports faults outcome.report
  pub status_is : status ≡ outcome.status

-- a call of the reader failed, or the input is too long: nothing is written
pub record FailsToRead (input output faults : Device) (status : ℕ) : Type 0 where
  pub unread : HasFailed input ⊎ IsLong input.before.bytes
  pub unwritten : IsUntouched output
  pub reports : Reports faults (halt_line Read)
  pub status_is : status ≡ 3

-- there was no memory: nothing is written
pub record LacksMemory (input output faults : Device) (status : ℕ) : Type 0 where
  pub clean : IsClean input
  pub unwritten : IsUntouched output
  pub reports : Reports faults (halt_line Memory)
  pub status_is : status ≡ 3

-- a call of the writer failed: a front of the output is written
pub record FailsToWrite (Leads : List ℕ → Outcome → Type 0) (input output faults : Device) (status : ℕ) : Type 0 where
  pub outcome : Outcome
  pub leads : IsLedTo Leads input outcome
  pub taken : ℕ
  pub written : Takes output (take taken outcome.output)
  pub failed : HasFailed output
  pub reports : Reports faults (halt_line Write)
  pub status_is : status ≡ 3

-- a run of a subcommand that takes all its memory before the first byte of its output
abbrev pub Performs : (List ℕ → Outcome → Type 0) → Device → Device → Device → ℕ → Type 0
Performs Leads input output faults status =
    Ends Leads input output faults status ⊎ (FailsToRead input output faults status
    ⊎ (LacksMemory input output faults status ⊎ FailsToWrite Leads input output faults status))
