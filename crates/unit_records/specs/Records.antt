-- Records of access units: stream 1 byte, marks 1, size 3, DTS 8, PTS 8, the highest byte first, then PES_private_data, if it is a mark, and
-- the unit's bytes; the size counts both.
use Rattle.std.specs.Prelude.{◌≡◌, ◌≤◌, ◌<◌, ℕ, ◌+◌, ◌-◌, ◌*◌, ◌/◌, ◌%◌, ◌^◌, ◌==◌, ◌&&◌, nat_le, nat_lt, Bool, if◌then◌else◌, List, [], ◌∷◌, ◌++◌, length}
use Rattle.std.specs.Prelude.{take, drop, slice_index, Option, Some, None, is_some, Result, Ok, Err}
use Rattle.byteorder.specs.Endian.{big_number, big_bytes}
use Rattle.counted_io.specs.Device.{Failed}
use Rattle.bit_fields.specs.Fields.{bit, flag}
use Rattle.pes_packet.specs.Marks.{first_sixteen, flag_bits, flags_in, sixteen}
use Rattle.pes_packet.specs.declared.marks.Marks.{Marks}
use Rattle.pes_packet.specs.AccessUnits.{AccessUnit}
use Rattle.unit_records.specs.declared.reading.UnitFileError.{UnitFileError}
use Rattle.unit_records.specs.declared.reading.UnitFileError.TheVariants.{Cut, Size, Device, Memory}

-- the size of the head of a record: the bytes before PES_private_data and the unit
abbrev pub head_size : ℕ
head_size = 21

-- the maximum size that a record names
abbrev pub max_unit_size : ℕ
max_unit_size = 4_000_000

-- the marks of a unit in one byte: 0x40 the random_access_indicator, the bit that it has in an adaptation field, 0x20 PES_private_data, 0x10 a
-- header of 45 bytes, the four flags as in the first flag byte of a PES header
abbrev pub marks_byte : Marks → ℕ
marks_byte marks = bit marks.random_access * 64 + bit (is_some marks.private_data) * 32 + bit marks.long * 16 + flag_bits marks.flags

-- the bytes of PES_private_data in a record
abbrev pub private_bytes : Option (List ℕ) → List ℕ
private_bytes None = []
private_bytes (Some bytes) = sixteen bytes

-- the number of bytes of PES_private_data in a record
abbrev pub private_size : Marks → ℕ
private_size marks = if is_some marks.private_data then 16 else 0

-- the marks in a byte, together with the bytes behind the head of a record
unfoldable pub marks_in : ℕ → List ℕ → Marks
marks_in byte bytes = record {
  random_access = flag byte 64;
  flags = flags_in byte;
  long = flag byte 16;
  private_data = if flag byte 32 then first_sixteen bytes else None;
}

-- the bytes of the unit among the bytes behind the head
abbrev pub bytes_in : ℕ → List ℕ → List ℕ
bytes_in byte bytes = if flag byte 32 then drop 16 bytes else bytes

-- the word of a record: a byte of marks and three bytes of size; if the size does not fit in three bytes, a word that no reader takes
abbrev pub word_of : Marks → ℕ → ℕ
word_of marks size = if nat_lt size (2 ^ 24) then marks_byte marks * 2 ^ 24 + size else 2 ^ 32 - 1

-- the least number of bytes behind the head of a record with marks: PES_private_data, if present, and one byte of the unit
abbrev pub least_size : ℕ → ℕ
least_size byte = if flag byte 32 then 17 else 1

-- each bit set in the byte of marks has a meaning, and there are enough bytes
abbrev pub is_known : ℕ → Bool
is_known word = nat_lt (word / 2 ^ 24) 128 && nat_le (least_size (word / 2 ^ 24)) (word % 2 ^ 24)

-- the size in a word; the whole word, which is 0 or over each size, if a bit without a meaning is set or the unit has no bytes
unfoldable pub size_in : ℕ → ℕ
size_in word = if is_known word then word % 2 ^ 24 else word

-- the word of a record
abbrev pub word_at : List ℕ → ℕ
word_at xs = big_number 4 (drop 1 xs)

-- the size that a record names
abbrev pub size_at : List ℕ → ℕ
size_at xs = size_in (word_at xs)

-- the byte of marks of a record
abbrev pub byte_at : List ℕ → ℕ
byte_at xs = word_at xs / 2 ^ 24

-- the bytes behind the head of a record
abbrev pub body_at : List ℕ → List ℕ
body_at xs = take (size_at xs) (drop head_size xs)

-- the unit of a record that is whole
abbrev pub unit_at : List ℕ → AccessUnit
unit_at xs = record {
  dts = big_number 8 (drop 5 xs);
  pts = big_number 8 (drop 13 xs);
  marks = marks_in (byte_at xs) (body_at xs);
  bytes = bytes_in (byte_at xs) (body_at xs);
}

-- the front of an input: nothing if it is empty, a record, or the fault that was found; the size is tested as soon as it is read
unfoldable pub record_at : List ℕ → Result (Option (ℕ × AccessUnit)) UnitFileError
record_at xs =
    if length xs == 0 then Ok None
    else (if nat_lt (length xs) 5 then Err Cut
    else (if nat_lt max_unit_size (size_at xs) then Err Size
    else (if nat_lt (length xs) (head_size + size_at xs) then Err Cut
    else Ok (Some (slice_index xs 0, unit_at xs)))))

-- the bytes of an input after the record at its front
abbrev pub after_record : List ℕ → List ℕ
after_record xs = drop (head_size + size_at xs) xs

-- these bytes are a record with this stream and unit, whatever bytes follow
pub record IsRecord (bytes : List ℕ) (entry : ℕ × AccessUnit) : Type 0 where
  pub record_is : (later : List ℕ) → record_at (bytes ++ later) ≡ Ok (Some entry)
  pub rest_is : (later : List ℕ) → after_record (bytes ++ later) ≡ later

-- the bytes of a record in front of its unit, which has `size` bytes
unfoldable pub record_head : ℕ → Marks → ℕ → ℕ → ℕ → List ℕ
record_head stream marks size dts pts =
    stream ∷ (big_bytes 4 (word_of marks (private_size marks + size)) ++ (big_bytes 8 dts ++ (big_bytes 8 pts ++ private_bytes marks.private_data)))

-- a record as it is written
abbrev pub record_bytes : ℕ → AccessUnit → List ℕ
record_bytes stream unit = record_head stream unit.marks (length unit.bytes) unit.dts unit.pts ++ unit.bytes

-- fewer than `size` bytes of an input were read, and the rest remains
pub record StopsWithin (size : ℕ) (xs : List ℕ) (left : Option (List ℕ)) : Type 0 where
  pub read : ℕ
  pub within : read < size
  pub some : read ≤ length xs
  pub rest : left ≡ Some (drop read xs)

-- the answer of a call for an input of these bytes, and the bytes that remain: a cut record is read to the end of the input, a too large record up to its
-- size field, and a record whose read fails no further than its own end; memory is requested after the head of a record is read, and never for a refused size
abbrev pub ReadsRecord : List ℕ → Option (List ℕ) → Result (Option (ℕ × AccessUnit)) UnitFileError → Type 0
ReadsRecord xs left (Ok None) = (record_at xs ≡ Ok None) × (left ≡ Some [])
ReadsRecord xs left (Ok (Some entry)) = (record_at xs ≡ Ok (Some entry)) × (left ≡ Some (after_record xs))
ReadsRecord xs left (Err Cut) = (record_at xs ≡ Err Cut) × (left ≡ Some [])
ReadsRecord xs left (Err Size) = (record_at xs ≡ Err Size) × (left ≡ Some (drop 5 xs))
ReadsRecord xs left (Err Device) = StopsWithin (head_size + size_at xs) xs left
ReadsRecord xs left (Err Memory) = (head_size ≤ length xs) × (size_at xs ≤ max_unit_size) × (left ≡ Some (drop head_size xs))

-- the answer is a fault of the reader exactly if a call of it failed
abbrev pub NamesReader : {V : Type 0} → Result V UnitFileError → ℕ → ℕ → Type 0
NamesReader (Err Device) old new = Failed old new
NamesReader (Err Cut) old new = new ≡ old
NamesReader (Err Size) old new = new ≡ old
NamesReader (Err Memory) old new = new ≡ old
NamesReader (Ok x) old new = new ≡ old
