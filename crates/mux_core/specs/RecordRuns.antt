-- The result of a whole input of records, if a PID carries a single stream.
use Rattle.std.specs.Prelude.{◌≡◌, ◌≤◌, ℕ, zero, suc, ◌+◌, Bool, List, [], ◌∷◌, length, take, drop, Option, Some, None, Result, Ok, Err, ⊤}
use Rattle.std.specs.Io.KnownBytes.{Appends}
use Rattle.counted_io.specs.Device.{Failed}
use Rattle.pes_packet.specs.AccessUnits.{AccessUnit}
use Rattle.mux_core.specs.Buffer.{byte_count, Took}
use Rattle.mux_core.specs.PidPackets.{stream_packets}
use Rattle.mux_core.specs.Formats.{formatted_all}
use Rattle.mux_core.specs.Refusals.{refusal}
use Rattle.unit_records.specs.Records.{StopsWithin, after_record, head_size, record_at, size_at}
use Rattle.unit_queue.specs.declared.refusal.FeedError.{FeedError}
use Rattle.unit_records.specs.declared.reading.UnitFileError.{UnitFileError}
use Rattle.unit_records.specs.declared.reading.UnitFileError.TheVariants.{Cut, Size, Device, Memory}
use Rattle.mux_core.specs.declared.carrying.CarryError.{CarryError}
use Rattle.mux_core.specs.declared.carrying.CarryError.TheVariants.{Unit as AtUnit, File as AtRecord, Device as AtWriter, Memory as NoMemory}

-- how an input of records ends: at its end, at a refused unit, or at bytes that are not a record
pub data Ending : Type 0 where
  Finished : Ending
  UnitRefused : FeedError → Ending
  FileRefused : UnitFileError → Ending

-- the accepted units of an input, in order, and how the input ends
pub record Run : Type 0 where
  pub units : List AccessUnit
  pub ending : Ending

-- a refused unit ends the run; an accepted unit precedes the run after it
unfoldable pub judged : Option FeedError → AccessUnit → Run → Run
judged (Some cause) unit after = record { units = []; ending = UnitRefused cause }
judged None unit after = record { units = unit ∷ after.units; ending = after.ending }

-- the first record of the input, and the run after it
unfoldable pub run_step : ℕ → ℕ → Result (Option (ℕ × AccessUnit)) UnitFileError → (AccessUnit → Run) → Run
run_step id min_next_dts (Err fault) after = record { units = []; ending = FileRefused fault }
run_step id min_next_dts (Ok None) after = record { units = []; ending = Finished }
run_step id min_next_dts (Ok (Some entry)) after = judged (refusal id min_next_dts entry.0 entry.1) entry.1 (after entry.1)

-- the run of at most n records, if no DTS below `min_next_dts` is accepted: each unit is later than the unit before
unfoldable pub run_from : ℕ → ℕ → ℕ → List ℕ → Run
run_from zero id min_next_dts xs = record { units = []; ending = Finished }
run_from (suc n) id min_next_dts xs = run_step id min_next_dts (record_at xs) (λ unit. run_from n id (unit.dts + 1) (after_record xs))

-- the run of an input: it has no more records than bytes
abbrev pub run_of : ℕ → List ℕ → Run
run_of id xs = run_from (1 + length xs) id 0 xs

-- the output of units
abbrev pub carried : Bool → ℕ → ℕ → List AccessUnit → List ℕ
carried hex pid id units = formatted_all hex (stream_packets pid id 0 units)

-- the answer of a run; a failed reader, or lack of memory, may stop the run at any record
abbrev pub Answers : Run → Result ℕ CarryError → Type 0
Answers run (Ok sent) = run.ending ≡ Finished
Answers run (Err (AtUnit index cause)) = (run.ending ≡ UnitRefused cause) × (index ≡ length run.units)
Answers run (Err (AtRecord index Cut)) = (run.ending ≡ FileRefused Cut) × (index ≡ length run.units)
Answers run (Err (AtRecord index Size)) = (run.ending ≡ FileRefused Size) × (index ≡ length run.units)
Answers run (Err (AtRecord index Device)) = index ≤ length run.units
Answers run (Err (AtRecord index Memory)) = ⊥
Answers run (Err (AtWriter sent)) = ⊤
Answers run (Err (NoMemory index)) = index ≤ length run.units

-- what the writer took of the output of units: all of it, the output of the records before the named record, or exactly the first `sent` bytes
abbrev pub Writes : (List AccessUnit → List ℕ) → List AccessUnit → Option (List ℕ) → Option (List ℕ) → Result ℕ CarryError → Type 0
Writes out units old new (Ok sent) = (sent ≡ byte_count (length (out units))) × Appends old new (out units)
Writes out units old new (Err (AtUnit index cause)) = Appends old new (out (take index units))
Writes out units old new (Err (AtRecord index fault)) = Appends old new (out (take index units))
Writes out units old new (Err (AtWriter sent)) = Took old new sent (out units)
Writes out units old new (Err (NoMemory index)) = Appends old new (out (take index units))

-- these bytes are the input's own, if the input's are known
abbrev pub IsOwn : Option (List ℕ) → List ℕ → Type 0
IsOwn known bytes = (xs : List ℕ) → known ≡ Some xs → bytes ≡ xs

-- the answer and the output of some bytes: the input's own if these are known, and otherwise some bytes, as at a standard input
pub record Carries (hex : Bool) (pid id : ℕ) (known old new : Option (List ℕ)) (answer : Result ℕ CarryError) : Type 0 where
  pub bytes : List ℕ
  pub own : IsOwn known bytes
  pub answers : Answers (run_of id bytes) answer
  pub writes : Writes (carried hex pid id) (run_of id bytes).units old new answer

-- the bytes of an input after n records
unfoldable pub after_records : ℕ → List ℕ → List ℕ
after_records zero xs = xs
after_records (suc n) xs = after_record (after_records n xs)

-- the bytes of the input that remain: none if it was carried, or if it ends within a record; the bytes after a refused record; the rest of a record that was
-- not read whole, and the bytes after it. If the writer failed, the remainder is not determined
abbrev pub Leaves : List ℕ → Option (List ℕ) → Result ℕ CarryError → Type 0
Leaves xs left (Ok sent) = left ≡ Some []
Leaves xs left (Err (AtUnit index cause)) = left ≡ Some (after_records (index + 1) xs)
Leaves xs left (Err (AtRecord index Cut)) = left ≡ Some []
Leaves xs left (Err (AtRecord index Size)) = left ≡ Some (drop 5 (after_records index xs))
Leaves xs left (Err (AtRecord index Device)) = StopsWithin (head_size + size_at (after_records index xs)) (after_records index xs) left
Leaves xs left (Err (AtRecord index Memory)) = ⊥
Leaves xs left (Err (AtWriter sent)) = ⊤
Leaves xs left (Err (NoMemory index)) = StopsWithin (head_size + 1) (after_records index xs) left

-- a device is named exactly if a call of it failed: the reader by AtRecord with Device, the writer by AtWriter
abbrev pub NamesDevice : {V : Type 0} → Result V CarryError → ℕ → ℕ → ℕ → ℕ → Type 0
NamesDevice (Ok sent) read0 read1 written0 written1 = (read1 ≡ read0) × (written1 ≡ written0)
NamesDevice (Err (AtUnit index cause)) read0 read1 written0 written1 = (read1 ≡ read0) × (written1 ≡ written0)
NamesDevice (Err (AtRecord index Cut)) read0 read1 written0 written1 = (read1 ≡ read0) × (written1 ≡ written0)
NamesDevice (Err (AtRecord index Size)) read0 read1 written0 written1 = (read1 ≡ read0) × (written1 ≡ written0)
NamesDevice (Err (AtRecord index Device)) read0 read1 written0 written1 = Failed read0 read1 × (written1 ≡ written0)
NamesDevice (Err (AtRecord index Memory)) read0 read1 written0 written1 = ⊥
NamesDevice (Err (AtWriter sent)) read0 read1 written0 written1 = Failed written0 written1
NamesDevice (Err (NoMemory index)) read0 read1 written0 written1 = (read1 ≡ read0) × (written1 ≡ written0)
