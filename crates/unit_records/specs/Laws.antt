-- What the law of this crate says.
use Rattle.std.specs.Prelude.{◌≡◌, ◌<◌, ◌≤◌, ◌+◌, ◌^◌, ℕ, List, ◌++◌, length, Some, Ok}
use Rattle.pes_packet.specs.AccessUnits.{AccessUnit}
use Rattle.pes_packet.specs.Laws.{HasSixteen}
use Rattle.pes_packet.specs.Marks.{no_marks}
use Rattle.unit_records.specs.Records.{record_at, after_record, record_bytes, private_size, max_unit_size}

-- the numbers of a unit fit their fields in a record, and only a unit with bytes has marks
pub record FitsRecord (unit : AccessUnit) : Type 0 where
  pub size : private_size unit.marks + length unit.bytes ≤ max_unit_size
  pub dts : unit.dts < 2 ^ 64
  pub pts : unit.pts < 2 ^ 64
  pub marked : length unit.bytes ≡ 0 → unit.marks ≡ no_marks
  pub sixteen : HasSixteen unit.marks

-- a record, whatever follows it, is read as its stream and its unit, and the bytes after it remain
pub record RecordIsRead (stream : ℕ) (unit : AccessUnit) (rest : List ℕ) : Type 0 where
  pub record_is : record_at (record_bytes stream unit ++ rest) ≡ Ok (Some (stream, unit))
  pub rest_is : after_record (record_bytes stream unit ++ rest) ≡ rest

-- this holds for each unit of at most 4,000,000 bytes, including PES_private_data, with stamps of 64 bits, if a unit without bytes has no marks
abbrev pub RecordsAreRead : Type 0
RecordsAreRead = (stream : ℕ) (unit : AccessUnit) (rest : List ℕ) → FitsRecord unit → RecordIsRead stream unit rest
