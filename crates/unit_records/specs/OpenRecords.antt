-- A record whose bytes arrive one after another.
use Rattle.std.specs.Prelude.{◌≡◌, ◌≤◌, ◌<◌, ℕ, ◌+◌, List, [], ◌++◌, length, drop, slice_index, Option, Some, None, Result, Ok, Err, ⊤}
use Rattle.byteorder.specs.Endian.{big_number}
use Rattle.pes_packet.specs.AccessUnits.{AccessUnit}
use Rattle.unit_records.specs.Records.{after_record, byte_at, bytes_in, head_size, marks_in, max_unit_size, record_at, size_at}
use Rattle.unit_records.specs.declared.reading.UnitFileError.{UnitFileError}
use Rattle.unit_records.specs.declared.reading.UnitFileError.TheVariants.{Cut, Size, Device, Memory}
use Rattle.unit_records.specs.declared.taking.OpenRecord.{OpenRecord}

-- the bytes of the record that have arrived
abbrev pub come_of : OpenRecord → List ℕ
come_of begun = begun.head.items ++ begun.unit.items

-- fewer bytes than a record has, without a refused size
pub record IsPart (xs : List ℕ) : Type 0 where
  pub size : 5 ≤ length xs → size_at xs ≤ max_unit_size
  pub short : length xs < head_size + size_at xs

-- a part of a record has arrived, its head before its unit
pub record IsOpen (begun : OpenRecord) : Type 0 where
  pub part : IsPart (come_of begun)
  pub head_first : length begun.head.items < head_size → begun.unit.items ≡ []

-- the record at the front of the bytes `come` and `bytes` ends after the first n bytes of `bytes`
pub record EndsRecord (come bytes : List ℕ) (n : ℕ) (entry : ℕ × AccessUnit) : Type 0 where
  pub record_is : (more : List ℕ) → record_at (come ++ (bytes ++ more)) ≡ Ok (Some entry)
  pub rest_is : (more : List ℕ) → after_record (come ++ (bytes ++ more)) ≡ drop n bytes ++ more

-- the record at the front of these bytes is refused, whatever bytes follow
abbrev pub StaysRefused : List ℕ → List ℕ → UnitFileError → Type 0
StaysRefused come bytes Memory = ⊤
StaysRefused come bytes refusal = (more : List ℕ) → record_at (come ++ (bytes ++ more)) ≡ Err refusal

-- the answer after `bytes` have arrived behind the bytes `come`: the record is still open, or it ends among the new bytes, or it is refused
abbrev pub TakesBytes : List ℕ → List ℕ → OpenRecord → Result (Option (ℕ × (ℕ × AccessUnit))) UnitFileError → Type 0
TakesBytes come bytes new (Ok None) = IsOpen new × (come_of new ≡ come ++ bytes)
TakesBytes come bytes new (Ok (Some whole)) = IsOpen new × ((come_of new ≡ []) × EndsRecord come bytes whole.0 whole.1)
TakesBytes come bytes new (Err refusal) = StaysRefused come bytes refusal

-- the size in a whole head, or the refusal if it is too large
abbrev pub NamesSize : List ℕ → Result (Option ℕ) UnitFileError → Type 0
NamesSize head (Ok None) = (length head < head_size) × (5 ≤ length head → size_at head ≤ max_unit_size)
NamesSize head (Ok (Some size)) = (head_size ≤ length head) × ((size ≡ size_at head) × (size ≤ max_unit_size))
NamesSize head (Err Size) = (5 ≤ length head) × (max_unit_size < size_at head)
NamesSize head (Err Cut) = ⊥
NamesSize head (Err Device) = ⊥
NamesSize head (Err Memory) = ⊥

-- the entry of a whole head and the bytes behind it
abbrev pub entry_of : List ℕ → List ℕ → ℕ × AccessUnit
entry_of head unit = (
  slice_index head 0,
  record {
    dts = big_number 8 (drop 5 head);
    pts = big_number 8 (drop 13 head);
    marks = marks_in (byte_at head) unit;
    bytes = bytes_in (byte_at head) unit;
  },
)

-- the entry is taken out, or its unit still lacks bytes
abbrev pub ClosesRecord : ℕ → OpenRecord → OpenRecord → Option (ℕ × AccessUnit) → Type 0
ClosesRecord size old new None = (length old.unit.items < size) × ((new.head.items ≡ old.head.items) × (new.unit.items ≡ old.unit.items))
ClosesRecord size old new (Some entry) =
    (size ≤ length old.unit.items) × ((entry ≡ entry_of old.head.items old.unit.items) × ((new.head.items ≡ []) × (new.unit.items ≡ [])))
