-- A stream, read as it comes, and what goes out of it: the records of its units and of ticks before the next read, and a line for each
-- unit that has no moment, each loss of packets, whatever else cuts units, each new map, each jump of the clock, bytes in no packet, and each
-- stream that stops; a stream whose DTS do not rise has one line (`StreamLines`).
use Rattle.std.specs.Prelude.{◌≡◌, ◌⊎◌, ◌<◌, ◌≤◌, ◌-◌, ◌^◌, ℕ, Bool, true, false, if◌then◌else◌, List, [], ◌++◌, length, take, Result, Ok, Err}
use Rattle.std.specs.Io.KnownBytes.{Consumes, IsAtEnd, Keeps}
use Rattle.counted_io.specs.Device.{CountsOne}
use Rattle.devices.specs.Devices.{Device, Port, HasFailed, IsClean, IsUntouched, Takes, between}
use Rattle.devices.specs.Lines.{Reports, Stopped, ReportsAll}
use Rattle.devices.specs.Outcomes.{halt_line}
use Rattle.devices.specs.declared.halt.Halt.{Halt}
use Rattle.devices.specs.declared.halt.Halt.TheVariants.{Read, Write, Memory}
use Rattle.fed_streams.specs.Feeding.{Fed, FeedView}
use Rattle.es_feed.specs.Watching.{HoldsFew, IsWatchedBy, IsWatchedOf, WatchedView}
use Rattle.es_feed.specs.FedLines.{fed_records, have_refusal}
use Rattle.es_feed.specs.StreamLines.{LinesView, after_lines, fed_lines, first_lines, have_line, lines_from}

-- 1. The records of a stream while it comes

-- the packets of all of these bytes except few of the last ones are taken, and their findings are fed, and their slips; without slips the records are
-- the beginning of the records of the whole stream, whatever bytes follow (the law `fed_so_far`)
pub record IsFedSoFar (first : FeedView) (came : List ℕ) (fed : List Fed) : Type 0 where
  pub state : WatchedView
  pub by : IsWatchedBy first came false state fed
  pub held : HoldsFew state

-- the most bytes of one read; units that they make whole go out before the next
abbrev pub longest_piece : ℕ
longest_piece = 2 ^ 16

-- before the last read, which gave at most 64 KiB of these bytes, nothing showed that the description is of another stream
pub record IsUnrefused (first : FeedView) (came : List ℕ) : Type 0 where
  pub earlier : List ℕ
  pub last : List ℕ
  pub came_is : came ≡ earlier ++ last
  pub most : length last ≤ longest_piece
  pub before : List Fed
  pub fed_is : IsFedSoFar first earlier before
  pub unrefused : have_refusal before ≡ false

-- 2. What went out of it

-- these bytes of the input were read, and their records went to the output, and a line for everything else to the error output
pub record Passes (pids : List ℕ) (came : List ℕ) (fed : List Fed) (input output faults : Device) : Type 0 where
  pub read : Consumes input.before.bytes input.after.bytes came
  pub written : Takes output (fed_records fed)
  pub clean : IsClean output
  pub reports_all : ReportsAll faults.before faults.after (fed_lines pids fed)

-- the input came to its end, and all that it feeds went out; or the description is of another stream, and the stream is taken to end with
-- the first read that shows it
pub record PassesAll (first : FeedView) (pids : List ℕ) (input output faults : Device) (faulty : Bool) : Type 0 where
  pub came : List ℕ
  pub fed : List Fed
  pub fed_is : IsWatchedOf first came fed
  pub passes : Passes pids came fed input output faults
  pub ends : IsAtEnd input.after.bytes ⊎ (have_refusal fed ≡ true)
  pub unrefused : IsUnrefused first came
  pub unfailed : IsClean input
  pub faulty_is : faulty ≡ have_line (first_lines pids) fed

-- no more is taken: a call of the reader failed, or the stream is longer than any; or there is no memory for these bytes that
-- were read
abbrev pub IsStopped : Halt → List ℕ → List ℕ → Device → Type 0
IsStopped Read came untaken input = (untaken ≡ []) × (HasFailed input ⊎ (2 ^ 64 - 1 ≤ length came))
IsStopped Write came untaken input = ⊥
IsStopped Memory came untaken input = IsClean input

-- the records fed before that went out
pub record PassesFront (first : FeedView) (pids : List ℕ) (halt : Halt) (input output faults : Device) : Type 0 where
  pub came : List ℕ
  pub fed : List Fed
  pub fed_is : IsFedSoFar first came fed
  pub untaken : List ℕ
  pub unrefused : IsUnrefused first (came ++ untaken)
  pub passes : Passes pids (came ++ untaken) fed input output faults
  pub stopped : IsStopped halt came untaken input

-- the writer failed within the records that were fed last: earlier records went out, and of these it took the first bytes; no fault among them is
-- reported
pub record FailsToPass (first : FeedView) (pids : List ℕ) (input output faults : Device) : Type 0 where
  pub came : List ℕ
  pub before : List Fed
  pub last : List Fed
  pub fed_is : IsFedSoFar first came (before ++ last) ⊎ IsWatchedOf first came (before ++ last)
  pub unrefused : IsUnrefused first came
  pub read : Consumes input.before.bytes input.after.bytes came
  pub taken : ℕ
  pub written : Takes output (fed_records before ++ take taken (fed_records last))
  pub failed : HasFailed output
  pub reports_all : ReportsAll faults.before faults.after (fed_lines pids before)

abbrev pub PassesOn : FeedView → List ℕ → Device → Device → Device → Result Bool Halt → Type 0
PassesOn first pids input output faults (Ok faulty) = PassesAll first pids input output faults faulty
PassesOn first pids input output faults (Err Read) = PassesFront first pids Read input output faults
PassesOn first pids input output faults (Err Write) = FailsToPass first pids input output faults
PassesOn first pids input output faults (Err Memory) = PassesFront first pids Memory input output faults

-- 3. Piece by piece

-- a read gave bytes of the input, and all that they make whole is fed
pub record FeedsSome (old : WatchedView) (input : Device) (new : WatchedView) (fed : List Fed) : Type 0 where
  pub piece : List ℕ
  pub some : 0 < length piece
  pub most : length piece ≤ longest_piece
  pub read : Consumes input.before.bytes input.after.bytes piece
  pub clean : IsClean input
  pub taken : (first : FeedView) (came : List ℕ) (before : List Fed) → IsWatchedBy first came false old before →
      IsWatchedBy first (came ++ piece) false new (before ++ fed)
  pub held : HoldsFew new

-- or the input ended; a call of the reader failed; or there is no memory for the bytes that were read
abbrev pub FeedsPiece : WatchedView → Device → WatchedView → List Fed → Result Bool Halt → Type 0
FeedsPiece old input new fed (Ok true) = FeedsSome old input new fed
FeedsPiece old input new fed (Ok false) = Consumes input.before.bytes input.after.bytes [] × IsClean input × IsAtEnd input.after.bytes × (new ≡ old)
FeedsPiece old input new fed (Err Read) = Keeps input.before.bytes input.after.bytes × CountsOne input.before.failed input.after.failed
FeedsPiece old input new fed (Err Write) = ⊥
FeedsPiece old input new fed (Err Memory) =
    (piece : List ℕ) × Consumes input.before.bytes input.after.bytes piece × IsClean input × (length piece ≤ longest_piece)

-- the fed records go out, and then a line for everything else; or the writer fails within the records
abbrev pub GoesOut : LinesView → List Fed → Device → Device → Result Bool Halt → Type 0
GoesOut lines fed output faults (Ok faulty) =
    Takes output (fed_records fed) × IsClean output × ReportsAll faults.before faults.after (lines_from lines fed) × (faulty ≡ have_line lines fed)
GoesOut lines fed output faults (Err Read) = ⊥
GoesOut lines fed output faults (Err Write) = Stopped (fed_records fed) output × HasFailed output × IsUntouched faults
GoesOut lines fed output faults (Err Memory) = ⊥

-- the stream has come as far as this, and the reader has not failed
pub record Midway (first : FeedView) (pids : List ℕ) (input output faults : Device) (faulty : Bool) (state : WatchedView) (lines : LinesView) : Type 0 where
  pub came : List ℕ
  pub fed : List Fed
  pub by : IsWatchedBy first came false state fed
  pub held : HoldsFew state
  pub passes : Passes pids came fed input output faults
  pub unfailed : IsClean input
  pub faulty_is : faulty ≡ have_line (first_lines pids) fed
  pub lines_are : lines ≡ after_lines (first_lines pids) fed

abbrev pub PassesPieces : FeedView → List ℕ → Device → Device → Device → Result Bool Halt → WatchedView → LinesView → Type 0
PassesPieces first pids input output faults (Ok faulty) state lines =
    (m : Midway first pids input output faults faulty state lines) × (IsAtEnd input.after.bytes ⊎ (have_refusal m.fed ≡ true)) × IsUnrefused first m.came
PassesPieces first pids input output faults (Err Read) state lines = PassesFront first pids Read input output faults
PassesPieces first pids input output faults (Err Write) state lines = FailsToPass first pids input output faults
PassesPieces first pids input output faults (Err Memory) state lines = PassesFront first pids Memory input output faults

-- the records of its end go out; or memory for them is refused
abbrev pub PassesLast : FeedView → LinesView → List ℕ → List Fed → Device → Device → Result Bool Halt → Type 0
PassesLast first lines came before output faults (Ok found) =
    (last : List Fed) × IsWatchedOf first came (before ++ last) × GoesOut lines last output faults (Ok found)
PassesLast first lines came before output faults (Err Read) = ⊥
PassesLast first lines came before output faults (Err Write) =
    (last : List Fed) × IsWatchedOf first came (before ++ last) × GoesOut lines last output faults (Err Write)
PassesLast first lines came before output faults (Err Memory) = IsUntouched output × IsUntouched faults

-- 4. How the run over a stream ends

-- the run ends with its input: status 1 if a line was reported
pub record EndsStream (first : FeedView) (pids : List ℕ) (input output faults : Device) (status : ℕ) : Type 0 where
  pub faulty : Bool
  pub passes : PassesAll first pids input output faults faulty
  pub status_is : status ≡ (if faulty then 1 else 0)

-- the run ends early: a device failed or memory was refused, and the last line says so
pub record StopsStream (first : FeedView) (pids : List ℕ) (input output faults : Device) (status : ℕ) : Type 0 where
  pub halt : Halt
  pub reported : Port
  pub passes : PassesOn first pids input output (between faults.before reported) (Err halt)
  pub reports : Reports (between reported faults.after) (halt_line halt)
  pub status_is : status ≡ 3

abbrev pub RunsStream : FeedView → List ℕ → Device → Device → Device → ℕ → Type 0
RunsStream first pids input output faults status = EndsStream first pids input output faults status ⊎ StopsStream first pids input output faults status
