-- Frames that are read as they arrive: each whole record is written before the next read, and a line says where bytes are dropped.
use Rattle.std.specs.Prelude.{◌≡◌, ◌⊎◌, ◌<◌, ◌≤◌, ◌-◌, ◌^◌, ◌||◌, ℕ, Bool, true, false, if◌then◌else◌, List, [], ◌∷◌, ◌++◌, length, map, Option, Some, None}
use Rattle.std.specs.Prelude.{Result, Ok, Err, codes, ⊤}
use Rattle.std.specs.Io.KnownBytes.{Consumes, IsAtEnd, Keeps}
use Rattle.counted_io.specs.Device.{CountsOne}
use Rattle.devices.specs.Devices.{Device, Port, HasFailed, IsClean, Takes, between}
use Rattle.devices.specs.Lines.{Reports, Stopped, ReportsAll, line_text}
use Rattle.devices.specs.Outcomes.{halt_line}
use Rattle.devices.specs.declared.halt.Halt.{Halt}
use Rattle.devices.specs.declared.halt.Halt.TheVariants.{Read, Write, Memory}
use Rattle.tsair_cli.specs.declared.frame_feed.FrameFeed.{FrameFeed}
use Rattle.tsair_cli.specs.Frames.{FrameAnswer, Outside, at_mark, entries_read}
use Rattle.tsair_cli.specs.Readings.{Reading, Unframes, after, bytes_of, drops_in, first, reading_of, records_in}

-- 1. Lines

-- bytes are dropped after this number of records
abbrev pub cut_line : ℕ → List ℕ
cut_line n = line_text (codes "cut") (n ∷ [])

abbrev pub cut_lines : List ℕ → List (List ℕ)
cut_lines drops = map cut_line drops

-- the input ended within a record
unfoldable pub is_half : FrameAnswer → Bool
is_half (Ok entry) = false
is_half (Err fault) = true

abbrev pub ends_half : Reading → Bool
ends_half r = is_half (at_mark r.state)

abbrev pub last_lines : Reading → List (List ℕ)
last_lines r = if ends_half r then cut_line r.count ∷ [] else []

-- 2. A piece

-- a read gave bytes of the input, and they are unframed
pub record TakesSome (old : FrameFeed) (input : Device) (new : FrameFeed) : Type 0 where
  pub piece : List ℕ
  pub some : 0 < length piece
  pub read : Consumes input.before.bytes input.after.bytes piece
  pub clean : IsClean input
  pub taken : Unframes old new piece

-- or the input ended; a call of the reader failed; or there is no memory for the bytes that were read
abbrev pub TakesPiece : FrameFeed → Device → FrameFeed → Result Bool Halt → Type 0
TakesPiece old input new (Ok true) = TakesSome old input new
TakesPiece old input new (Ok false) = Consumes input.before.bytes input.after.bytes [] × IsClean input × IsAtEnd input.after.bytes × (new ≡ old)
TakesPiece old input new (Err Read) = Keeps input.before.bytes input.after.bytes × CountsOne input.before.failed input.after.failed
TakesPiece old input new (Err Write) = ⊥
TakesPiece old input new (Err Memory) = (piece : List ℕ) × Consumes input.before.bytes input.after.bytes piece

-- the records that wait are written, and then the places of dropped bytes are reported; or the writer fails within the records
pub record IsOut (old new : FrameFeed) (output faults : Device) : Type 0 where
  pub frame : new.frame ≡ old.frame
  pub reading : reading_of new ≡ reading_of old
  pub records : new.records.items ≡ []
  pub drops : new.drops.items ≡ []
  pub written : Takes output old.records.items
  pub clean : IsClean output
  pub reports_all : ReportsAll faults.before faults.after (cut_lines old.drops.items)

abbrev pub LetsOut : FrameFeed → FrameFeed → Device → Device → Result (Unit {0}) Halt → Type 0
LetsOut old new output faults (Ok x) = IsOut old new output faults
LetsOut old new output faults (Err Read) = ⊥
LetsOut old new output faults (Err Write) = Stopped old.records.items output × HasFailed output
LetsOut old new output faults (Err Memory) = ⊥

-- the last line, if the input ended within a record, and the status
pub record ReportsLast (r : Reading) (faults : Device) (status : ℕ) : Type 0 where
  pub reports_all : ReportsAll faults.before faults.after (last_lines r)
  pub status_is : status ≡ (if r.reported || ends_half r then 1 else 0)

-- how a run ended is reported
abbrev pub ReportsEnd : Reading → Device → Result (Unit {0}) Halt → ℕ → Type 0
ReportsEnd r faults (Ok x) status = ReportsLast r faults status
ReportsEnd r faults (Err halt) status = Reports faults (halt_line halt) × (status ≡ 3)

-- 3. The whole input

-- these bytes were read, and all that they have is out
pub record PassedOn (input output faults : Device) (came : List ℕ) : Type 0 where
  pub read : Consumes input.before.bytes input.after.bytes came
  pub unfailed : IsClean input
  pub written : Takes output (records_in first came)
  pub clean : IsClean output
  pub reports_all : ReportsAll faults.before faults.after (cut_lines (drops_in first came))

-- the input ended: exactly the whole records in its bytes are written, and a line for each place where bytes are dropped, also at the end
pub record EndsFrames (input output faults : Device) (status : ℕ) : Type 0 where
  pub came : List ℕ
  pub read : Consumes input.before.bytes input.after.bytes came
  pub ends : IsAtEnd input.after.bytes
  pub unfailed : IsClean input
  pub written : Takes output (bytes_of (entries_read Outside came))
  pub clean : IsClean output
  pub reports_all : ReportsAll faults.before faults.after (cut_lines (drops_in first came) ++ last_lines (after first came))
  pub status_is : status ≡ (if (after first came).reported || ends_half (after first came) then 1 else 0)

-- why it ended early
abbrev pub IsHalted : Halt → List ℕ → Device → Device → Type 0
IsHalted Read came input output = HasFailed input ⊎ (2 ^ 64 - 1 ≤ length came)
IsHalted Write came input output = HasFailed output
IsHalted Memory came input output = ⊤

-- it ended early, with a line that says why: it wrote a beginning of the whole records in the bytes that it read
pub record StopsFrames (input output faults : Device) (status : ℕ) : Type 0 where
  pub halt : Halt
  pub came : List ℕ
  pub sent : List ℕ
  pub rest : List ℕ
  pub read : Consumes input.before.bytes input.after.bytes came
  pub written : Takes output sent
  pub beginning : bytes_of (entries_read Outside came) ≡ sent ++ rest
  pub why : IsHalted halt came input output
  pub reported : Port
  pub reports : Reports (between reported faults.after) (halt_line halt)
  pub status_is : status ≡ 3

abbrev pub PassesFrames : Device → Device → Device → ℕ → Type 0
PassesFrames input output faults status = EndsFrames input output faults status ⊎ StopsFrames input output faults status

-- the pieces have ended, with the last state of the reader, or it stopped
pub record StopsPieces (input output : Device) (halt : Halt) : Type 0 where
  pub came : List ℕ
  pub sent : List ℕ
  pub rest : List ℕ
  pub read : Consumes input.before.bytes input.after.bytes came
  pub written : Takes output sent
  pub beginning : records_in first came ≡ sent ++ rest
  pub why : IsHalted halt came input output

abbrev pub PassesPieces : Device → Device → Device → Result (Unit {0}) Halt → FrameFeed → Type 0
PassesPieces input output faults (Ok x) feed =
    (came : List ℕ) × PassedOn input output faults came × IsAtEnd input.after.bytes × (reading_of feed ≡ after first came)
PassesPieces input output faults (Err halt) feed = StopsPieces input output halt
