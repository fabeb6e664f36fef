-- The steps of a run over records: the next accepted unit, or why there is none.
use Rattle.std.specs.Prelude.{◌≡◌, ◌≤◌, ◌^◌, ◌+◌, ℕ, List, [], length, Option, Some, None, Result, Ok, Err, ⊤}
use Rattle.counted_io.specs.Device.{Failed}
use Rattle.pes_packet.specs.AccessUnits.{AccessUnit}
use Rattle.pes_packet.specs.Marks.{marks_size}
use Rattle.pes_packet.specs.StreamIds.{greatest_size}
use Rattle.mux_core.specs.Refusals.{refusal}
use Rattle.unit_records.specs.Records.{IsRecord, ReadsRecord, after_record, record_at}
use Rattle.mux_core.specs.RecordRuns.{FileRefused, Finished, Leaves, Run, UnitRefused, after_records}
use Rattle.unit_queue.specs.declared.refusal.FeedError.{FeedError}
use Rattle.unit_records.specs.declared.reading.UnitFileError.TheVariants.{Cut, Size, Device, Memory}
use Rattle.mux_core.specs.declared.carrying.CarryError.{CarryError}
use Rattle.mux_core.specs.declared.carrying.CarryError.TheVariants.{Unit as AtUnit, File as AtRecord, Memory as NoMemory}
use Rattle.mux_core.specs.declared.carrying.Stop.{Stop}
use Rattle.mux_core.specs.declared.carrying.Stop.TheVariants.{Refused, Unread, OutOfMemory}

-- the properties of an accepted unit
pub record IsAccepted (id min_next_dts : ℕ) (unit : AccessUnit) : Type 0 where
  pub some : 1 ≤ length unit.bytes
  pub most : length unit.bytes ≤ greatest_size id
  pub marked : length unit.bytes + marks_size unit.marks ≤ greatest_size id
  pub later : min_next_dts ≤ unit.dts
  pub last : unit.dts ≤ 2 ^ 52

-- a record at the front, whose unit is refused for this cause or accepted
pub record HoldsUnit (id min_next_dts : ℕ) (xs : List ℕ) (unit : AccessUnit) (cause : Option FeedError) : Type 0 where
  pub stream : ℕ
  pub record_is : record_at xs ≡ Ok (Some (stream, unit))
  pub judged_is : refusal id min_next_dts stream unit ≡ cause

-- a record at the front whose unit is refused
pub record IsRefused (id min_next_dts : ℕ) (xs : List ℕ) (left : Option (List ℕ)) (cause : FeedError) : Type 0 where
  pub unit : AccessUnit
  pub is_refused : HoldsUnit id min_next_dts xs unit (Some cause)
  pub rest : left ≡ Some (after_record xs)

-- the result of reading the next record of these bytes
abbrev pub ReadsNext : ℕ → ℕ → List ℕ → Option (List ℕ) → Result (Option AccessUnit) Stop → Type 0
ReadsNext id min_next_dts xs left (Ok None) = (record_at xs ≡ Ok None) × (left ≡ Some [])
ReadsNext id min_next_dts xs left (Ok (Some unit)) = HoldsUnit id min_next_dts xs unit None × (left ≡ Some (after_record xs))
ReadsNext id min_next_dts xs left (Err (Refused cause)) = IsRefused id min_next_dts xs left cause
ReadsNext id min_next_dts xs left (Err (Unread Cut)) = ReadsRecord xs left (Err Cut)
ReadsNext id min_next_dts xs left (Err (Unread Size)) = ReadsRecord xs left (Err Size)
ReadsNext id min_next_dts xs left (Err (Unread Device)) = ReadsRecord xs left (Err Device)
ReadsNext id min_next_dts xs left (Err (Unread Memory)) = ⊥
ReadsNext id min_next_dts xs left (Err OutOfMemory) = ReadsRecord xs left (Err Memory)

-- a unit of some record is refused for this cause or accepted
pub record Judges (id min_next_dts : ℕ) (unit : AccessUnit) (cause : Option FeedError) : Type 0 where
  pub stream : ℕ
  pub bytes : List ℕ
  pub is_record : IsRecord bytes (stream, unit)
  pub judged_is : refusal id min_next_dts stream unit ≡ cause

-- the result of reading the next record, whatever the input is
abbrev pub JudgesNext : ℕ → ℕ → Result (Option AccessUnit) Stop → Type 0
JudgesNext id min_next_dts (Ok None) = ⊤
JudgesNext id min_next_dts (Ok (Some unit)) = Judges id min_next_dts unit None
JudgesNext id min_next_dts (Err (Refused cause)) = (unit : AccessUnit) × Judges id min_next_dts unit (Some cause)
JudgesNext id min_next_dts (Err (Unread Cut)) = ⊤
JudgesNext id min_next_dts (Err (Unread Size)) = ⊤
JudgesNext id min_next_dts (Err (Unread Device)) = ⊤
JudgesNext id min_next_dts (Err (Unread Memory)) = ⊥
JudgesNext id min_next_dts (Err OutOfMemory) = ⊤

-- how a run ended after `index` records
abbrev pub EndsRun : Run → ℕ → Option Stop → Type 0
EndsRun run index None = (run.ending ≡ Finished) × (index ≡ length run.units)
EndsRun run index (Some (Refused cause)) = (run.ending ≡ UnitRefused cause) × (index ≡ length run.units)
EndsRun run index (Some (Unread Cut)) = (run.ending ≡ FileRefused Cut) × (index ≡ length run.units)
EndsRun run index (Some (Unread Size)) = (run.ending ≡ FileRefused Size) × (index ≡ length run.units)
EndsRun run index (Some (Unread Device)) = index ≤ length run.units
EndsRun run index (Some (Unread Memory)) = ⊥
EndsRun run index (Some OutOfMemory) = index ≤ length run.units

-- the bytes of the input that remain then
abbrev pub LeavesAt : List ℕ → Option (List ℕ) → ℕ → Option Stop → Type 0
LeavesAt xs left index None = left ≡ Some []
LeavesAt xs left index (Some (Refused cause)) = left ≡ Some (after_records (index + 1) xs)
LeavesAt xs left index (Some (Unread fault)) = Leaves xs left (Err (AtRecord index fault))
LeavesAt xs left index (Some OutOfMemory) = Leaves xs left (Err (NoMemory index))

-- the reader failed exactly if this ended the run
abbrev pub NamesStop : Option Stop → ℕ → ℕ → Type 0
NamesStop None old new = new ≡ old
NamesStop (Some (Refused cause)) old new = new ≡ old
NamesStop (Some (Unread Cut)) old new = new ≡ old
NamesStop (Some (Unread Size)) old new = new ≡ old
NamesStop (Some (Unread Device)) old new = Failed old new
NamesStop (Some (Unread Memory)) old new = ⊥
NamesStop (Some OutOfMemory) old new = new ≡ old

-- the same for one call
abbrev pub NamesNext : {V : Type 0} → Result V Stop → ℕ → ℕ → Type 0
NamesNext (Ok x) old new = new ≡ old
NamesNext (Err stop) old new = NamesStop (Some stop) old new

-- the answer of a run that ended like this
abbrev pub answer_of : ℕ → Option Stop → ℕ → Result ℕ CarryError
answer_of index None sent = Ok sent
answer_of index (Some (Refused cause)) sent = Err (AtUnit index cause)
answer_of index (Some (Unread fault)) sent = Err (AtRecord index fault)
answer_of index (Some OutOfMemory) sent = Err (NoMemory index)
