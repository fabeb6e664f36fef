-- Frames of records. The bytes of a record follow a mark, which never occurs in their written form: a reader that loses its place finds the next record at the
-- next mark. Bytes are written as in a packet of RFC 1055 (END, ESC, ESC_END and ESC_ESC of its section "Protocol"), with END before them.
use Rattle.std.specs.Prelude.{ℕ, ◌==◌, if◌then◌else◌, List, [], ◌∷◌, ◌++◌, length, Option, Some, None, Result, Ok, Err}
use Rattle.pes_packet.specs.AccessUnits.{AccessUnit}
use Rattle.unit_records.specs.Records.{record_at, record_bytes}
use Rattle.unit_records.specs.declared.reading.UnitFileError.{UnitFileError}
use Rattle.unit_records.specs.declared.reading.UnitFileError.TheVariants.{Cut, Size, Device, Memory}
use Rattle.tsair_cli.specs.declared.frame_fault.FrameFault.{FrameFault}
use Rattle.tsair_cli.specs.declared.frame_fault.FrameFault.TheVariants.{Dropped}

-- 1. Writing

-- END, ESC, ESC_END, ESC_ESC
abbrev pub mark : ℕ
mark = 192

abbrev pub escape : ℕ
escape = 219

abbrev pub escaped_mark : ℕ
escaped_mark = 220

abbrev pub escaped_escape : ℕ
escaped_escape = 221

-- a byte of a record
unfoldable pub stuffed_byte : ℕ → List ℕ
stuffed_byte b = if b == mark then escape ∷ escaped_mark ∷ [] else (if b == escape then escape ∷ escaped_escape ∷ [] else b ∷ [])

-- bytes of a record
unfoldable pub stuffed : List ℕ → List ℕ
stuffed [] = []
stuffed (b ∷ bs) = stuffed_byte b ++ stuffed bs

-- the number of a stream and a unit as a record, in its frame
abbrev pub frame_of : ℕ × AccessUnit → List ℕ
frame_of entry = mark ∷ stuffed (record_bytes entry.0 entry.1)

unfoldable pub frames_of : List (ℕ × AccessUnit) → List ℕ
frames_of [] = []
frames_of (entry ∷ entries) = frame_of entry ++ frames_of entries

-- 2. Reading

-- the state of a reader
pub data FrameState : Type 0 where
  -- no mark has come since the last record
  Outside : FrameState
  -- these bytes of a record have come after a mark
  Within : List ℕ → FrameState
  -- these bytes, and then an escape
  Escaped : List ℕ → FrameState
  -- the bytes up to the next mark are dropped
  Lost : FrameState

-- the answer at a byte: nothing yet, a record, or that bytes are dropped
abbrev pub FrameAnswer : Type 0
FrameAnswer = Result (Option (ℕ × AccessUnit)) FrameFault

-- at a mark: a record that has begun is dropped
unfoldable pub at_mark : FrameState → FrameAnswer
at_mark Outside = Ok None
at_mark (Within come) = if length come == 0 then Ok None else Err Dropped
at_mark (Escaped come) = Err Dropped
at_mark Lost = Ok None

-- after the bytes of a record so far, by what they are
unfoldable pub by_record : List ℕ → Result (Option (ℕ × AccessUnit)) UnitFileError → FrameState × FrameAnswer
by_record come (Ok (Some entry)) = (Outside, Ok (Some entry))
by_record come (Ok None) = (Within come, Ok None)
by_record come (Err Cut) = (Within come, Ok None)
by_record come (Err Size) = (Lost, Err Dropped)
by_record come (Err Device) = (Lost, Err Dropped)
by_record come (Err Memory) = (Lost, Err Dropped)

abbrev pub with_bytes : List ℕ → FrameState × FrameAnswer
with_bytes come = by_record come (record_at come)

-- at a byte that is no mark
unfoldable pub at_byte : FrameState → ℕ → FrameState × FrameAnswer
at_byte Outside b = (Lost, Err Dropped)
at_byte (Within come) b = if b == escape then (Escaped come, Ok None) else with_bytes (come ++ b ∷ [])
at_byte (Escaped come) b =
    if b == escaped_mark then with_bytes (come ++ mark ∷ [])
    else (if b == escaped_escape then with_bytes (come ++ escape ∷ []) else (Lost, Err Dropped))
at_byte Lost b = (Lost, Ok None)

-- at a byte: the state after it, and the answer
unfoldable pub frame_step : FrameState → ℕ → FrameState × FrameAnswer
frame_step s b = if b == mark then (Within [], at_mark s) else at_byte s b

-- the record of an answer
unfoldable pub kept : FrameAnswer → List (ℕ × AccessUnit)
kept (Ok (Some entry)) = entry ∷ []
kept (Ok None) = []
kept (Err fault) = []

-- the records that are read from bytes
unfoldable pub entries_read : FrameState → List ℕ → List (ℕ × AccessUnit)
entries_read s [] = []
entries_read s (b ∷ bs) = kept (frame_step s b).1 ++ entries_read (frame_step s b).0 bs
