-- Records of access units on an output.
use Rattle.std.specs.Prelude.{◌≡◌, ℕ, List, ◌++◌, Result, Ok, Err}
use Rattle.std.specs.List.{flat_map}
use Rattle.pes_packet.specs.AccessUnits.{AccessUnit}
use Rattle.unit_records.specs.Records.{record_bytes}
use Rattle.devices.specs.Devices.{Device, HasFailed, IsClean, Takes}
use Rattle.devices.specs.declared.halt.Halt.{Halt}
use Rattle.devices.specs.declared.halt.Halt.TheVariants.{Read, Write, Memory}

-- the record of a unit with the number of its stream, and of units one after another
abbrev pub record_of : ℕ × AccessUnit → List ℕ
record_of u = record_bytes u.0 u.1

abbrev pub records_of : List (ℕ × AccessUnit) → List ℕ
records_of units = flat_map record_of units

-- a text, another one after it, and the records of units
abbrev pub written : List ℕ → List ℕ → List (ℕ × AccessUnit) → List ℕ
written text plan units = (text ++ plan) ++ records_of units

-- bytes that wait for a write
pub record PendingView : Type 0 where
  pub items : List ℕ

-- a front of a text is written, and this is left of it
pub record Sends (output : Device) (text left : List ℕ) : Type 0 where
  pub sent : List ℕ
  pub takes : Takes output sent
  pub is : text ≡ sent ++ left

-- a front of a text is written, and the rest is pending; or the writer failed within it
abbrev pub Puts : Device → List ℕ → List ℕ → Result (Unit {0}) Halt → Type 0
Puts output text pending (Ok x) = Sends output text pending × IsClean output
Puts output text pending (Err Read) = ⊥
Puts output text pending (Err Write) = (left : List ℕ) × Sends output text left × HasFailed output
Puts output text pending (Err Memory) = ⊥
