-- The unit records after a job's plans.
use Rattle.std.specs.Prelude.{◌≡◌, ◌+◌, ◌≤◌, ℕ, zero, suc, List, [], ◌∷◌, ◌++◌, length, Option, Some, None, Result, Ok, Err}
use Rattle.pes_packet.specs.AccessUnits.{AccessUnit}
use Rattle.unit_records.specs.OpenRecords.{IsOpen, come_of}
use Rattle.unit_records.specs.Records.{after_record, record_at}
use Rattle.unit_records.specs.declared.taking.OpenRecord.{OpenRecord}
use Rattle.unit_records.specs.declared.reading.UnitFileError.{UnitFileError}
use Rattle.unit_records.specs.declared.reading.UnitFileError.TheVariants.{Memory as NoMemory}
use Rattle.devices.specs.declared.halt.Halt.{Halt}
use Rattle.devices.specs.declared.halt.Halt.TheVariants.{Memory}
use Rattle.checked_jobs.specs.declared.unit_list.RecordFault.{RecordFault}

-- the units with the numbers of their streams; or the index of a faulty record, and its fault
abbrev pub Units : Type 0
Units = Result (List (ℕ × AccessUnit)) (ℕ × UnitFileError)

unfoldable pub with_first : ℕ × AccessUnit → Units → Units
with_first entry (Ok entries) = Ok (entry ∷ entries)
with_first entry (Err fault) = Err fault

-- the record at the front, and the records after it
unfoldable pub units_step : ℕ → Result (Option (ℕ × AccessUnit)) UnitFileError → Units → Units
units_step index (Err fault) after = Err (index, fault)
units_step index (Ok None) after = Ok []
units_step index (Ok (Some entry)) after = with_first entry after

-- the units of at most n records; the first record has this index
unfoldable pub units_from : ℕ → ℕ → List ℕ → Units
units_from zero index xs = Ok []
units_from (suc n) index xs = units_step index (record_at xs) (units_from n (index + 1) (after_record xs))

-- the units of all bytes: there are no more records than bytes
abbrev pub units_in : List ℕ → Units
units_in xs = units_from (1 + length xs) 0 xs

-- units before further units
unfoldable pub joined : List (ℕ × AccessUnit) → Units → Units
joined done (Ok entries) = Ok (done ++ entries)
joined done (Err fault) = Err fault

-- these units were read, and these bytes are left, with no more further records than bytes
pub record ReadSoFar (xs : List ℕ) (done : List (ℕ × AccessUnit)) (left : List ℕ) : Type 0 where
  pub spare : ℕ
  pub enough : length left ≤ spare
  pub is : units_in xs ≡ joined done (units_from (suc spare) (length done) left)

-- all but the last ones of these bytes have come: whole units and an open record, or the first record that is none
abbrev pub IsReadUpTo : List ℕ → List ℕ → List (ℕ × AccessUnit) → OpenRecord → Option RecordFault → Type 0
IsReadUpTo xs left units begun None = IsOpen begun × ReadSoFar xs units (come_of begun ++ left)
IsReadUpTo xs left units begun (Some f) = Err (f.index, f.fault) ≡ units_in xs

-- these bytes have come, whatever bytes follow
abbrev pub TakesRecords : List ℕ → List (ℕ × AccessUnit) → OpenRecord → Option RecordFault → Type 0
TakesRecords bytes units begun fault = (more : List ℕ) → IsReadUpTo (bytes ++ more) more units begun fault

-- the units are returned, or the faulty record
abbrev pub IsList : Units → Result (List (ℕ × AccessUnit)) RecordFault → Type 0
IsList wanted (Ok entries) = Ok entries ≡ wanted
IsList wanted (Err f) = Err (f.index, f.fault) ≡ wanted

-- the fault of the record of this index; out of memory is none
abbrev pub NamesFault : ℕ → UnitFileError → Result RecordFault Halt → Type 0
NamesFault index NoMemory r = r ≡ Err Memory
NamesFault index refusal r = r ≡ Ok (record { index = index; fault = refusal })
