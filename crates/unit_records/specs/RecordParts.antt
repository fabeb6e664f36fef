-- The parts of a record, read one by one.
use Rattle.std.specs.Prelude.{◌≡◌, ◌≤◌, ◌<◌, ℕ, List, [], length, take, drop, slice_index, Option, Some, None, Result, Ok, Err}
use Rattle.byteorder.specs.Endian.{big_number}
use Rattle.unit_records.specs.Records.{StopsWithin, byte_at, max_unit_size, size_at}
use Rattle.unit_records.specs.declared.reading.UnitFileError.{UnitFileError}
use Rattle.unit_records.specs.declared.reading.UnitFileError.TheVariants.{Cut, Size, Device, Memory}

-- a part was filled, or the input ended within it
abbrev pub FillsWhole : List ℕ → Option (List ℕ) → List ℕ → Result (Unit {0}) UnitFileError → Type 0
FillsWhole xs left part (Ok x) = (length part ≤ length xs) × (part ≡ take (length part) xs) × (left ≡ Some (drop (length part) xs))
FillsWhole xs left part (Err Cut) = (length xs < length part) × (left ≡ Some [])
FillsWhole xs left part (Err Size) = ⊥
FillsWhole xs left part (Err Device) = StopsWithin (length part) xs left
FillsWhole xs left part (Err Memory) = ⊥

-- the stream, the byte of marks and the size
abbrev pub ReadsStart : List ℕ → Option (List ℕ) → Result (Option (ℕ × ℕ × ℕ)) UnitFileError → Type 0
ReadsStart xs left (Ok None) = (xs ≡ []) × (left ≡ Some [])
ReadsStart xs left (Ok (Some start)) =
    (5 ≤ length xs) × (start ≡ (slice_index xs 0, byte_at xs, size_at xs)) × (size_at xs ≤ max_unit_size) × (left ≡ Some (drop 5 xs))
ReadsStart xs left (Err Cut) = (0 < length xs) × (length xs < 5) × (left ≡ Some [])
ReadsStart xs left (Err Size) = (5 ≤ length xs) × (max_unit_size < size_at xs) × (left ≡ Some (drop 5 xs))
ReadsStart xs left (Err Device) = StopsWithin 5 xs left
ReadsStart xs left (Err Memory) = ⊥

-- these five bytes hold the stream, the byte of marks and the size
abbrev pub HoldsStart : List ℕ → ℕ × ℕ × ℕ → Type 0
HoldsStart bytes start = (length bytes ≡ 5) × (start ≡ (slice_index bytes 0, byte_at bytes, size_at bytes)) × (size_at bytes ≤ max_unit_size)

-- these 16 bytes hold the DTS and the PTS
abbrev pub HoldsStamps : List ℕ → ℕ × ℕ → Type 0
HoldsStamps bytes stamps = (length bytes ≡ 16) × (stamps.0 ≡ big_number 8 bytes) × (stamps.1 ≡ big_number 8 (drop 8 bytes))

-- the DTS and the PTS
abbrev pub ReadsStamps : List ℕ → Option (List ℕ) → Result (ℕ × ℕ) UnitFileError → Type 0
ReadsStamps xs left (Ok stamps) =
    (16 ≤ length xs) × (stamps.0 ≡ big_number 8 xs) × (stamps.1 ≡ big_number 8 (drop 8 xs)) × (left ≡ Some (drop 16 xs))
ReadsStamps xs left (Err Cut) = (length xs < 16) × (left ≡ Some [])
ReadsStamps xs left (Err Size) = ⊥
ReadsStamps xs left (Err Device) = StopsWithin 16 xs left
ReadsStamps xs left (Err Memory) = ⊥

-- the bytes behind the head
abbrev pub ReadsBytes : List ℕ → ℕ → Option (List ℕ) → Result (List ℕ) UnitFileError → Type 0
ReadsBytes xs size left (Ok bytes) = (size ≤ length xs) × (bytes ≡ take size xs) × (left ≡ Some (drop size xs))
ReadsBytes xs size left (Err Cut) = (length xs < size) × (left ≡ Some [])
ReadsBytes xs size left (Err Size) = ⊥
ReadsBytes xs size left (Err Device) = StopsWithin size xs left
ReadsBytes xs size left (Err Memory) = left ≡ Some xs
