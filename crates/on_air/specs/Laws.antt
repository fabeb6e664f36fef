-- What the laws of this crate say.
use Rattle.std.specs.Prelude.{◌≡◌, ◌≤◌, ⊤, length, ◌+◌, ℕ, zero, suc, max, not, true, false, List, [], ◌∷◌, ◌++◌, fold, Option, Some, None, Result, Ok, Err}
use Rattle.std.specs.List.{filter}
use Rattle.clock27.specs.Release.{release}
use Rattle.pes_packet.specs.AccessUnits.{AccessUnit}
use Rattle.unit_queue.specs.OwnedStreams.{OwnedStream}
use Rattle.unit_queue.specs.Causes.{unit_cause, is_full}
use Rattle.unit_queue.specs.declared.refusal.FeedError.{FeedError}
use Rattle.unit_queue.specs.declared.refusal.FeedError.TheVariants.{UnknownStream, Empty, TooLarge, TooSoon, BadPts, Late, TooFar, Full, Group, Pace, OffAir}
use Rattle.unit_records.specs.Records.{record_at}
use Rattle.unit_records.specs.declared.reading.UnitFileError.{UnitFileError}
use Rattle.mux_core.specs.RecordRuns.{after_records}
use Rattle.mux_core.specs.WholeJobs.{job_history, output_of, first_refused}
use Rattle.mux_core.specs.declared.room.Room.{Room}
use Rattle.turns.specs.LineUpRuns.{HeadlineOverLineUps}
use Rattle.on_air.specs.declared.refusals.AirRefusal.{AirRefusal}
use Rattle.on_air.specs.declared.refusals.AirRefusal.TheVariants.{Feed, Ahead, Followed, Texts, LineUp}
use Rattle.on_air.specs.Leaps.{is_near, leap_records}
use Rattle.on_air.specs.Airing.{Run, Air, greatest_lead, is_tick, is_far_from, lead_of, limit_of, last_at, HasRoom, settled_at, on_to, air_cause, aired}
use Rattle.on_air.specs.Airing.{air_output}
use Rattle.on_air.specs.Courses.{IsFirst, course_ended, heard, output_at, turn_of}
use Rattle.on_air.specs.AirStates.{LineUpsFit, Promises}

-- a unit that a stream accepts before the first slot is also accepted later, if no slot from its release on is written and there is room for it
abbrev pub TakenInTime : Type 0
TakenInTime = (l : OwnedStream) (slots capacity other : ℕ) (us : List AccessUnit) (u : AccessUnit) → unit_cause l 0 other us u ≡ None →
    slots ≤ release l.parameters.rate l.parameters.lead u.dts → is_full l slots capacity us ≡ false → unit_cause l slots capacity us u ≡ None

-- ---- records in order

-- the first n records of an input: units, each with the number of its stream, and ticks
unfoldable pub with_entry : Result (Option (ℕ × AccessUnit)) UnitFileError → List (ℕ × AccessUnit) → List (ℕ × AccessUnit)
with_entry (Ok (Some entry)) units = units ++ (entry ∷ [])
with_entry (Ok None) units = units
with_entry (Err fault) units = units

unfoldable pub records_of : ℕ → List ℕ → List (ℕ × AccessUnit)
records_of zero xs = []
records_of (suc n) xs = with_entry (record_at (after_records n xs)) (records_of n xs)

-- the units among records: all records except ticks
abbrev pub without_ticks : List (ℕ × AccessUnit) → List (ℕ × AccessUnit)
without_ticks records = filter (λ entry. not (is_tick entry)) records

-- the greatest DTS of units and ticks, 0 without any
abbrev pub greatest_of : List (ℕ × AccessUnit) → ℕ
greatest_of records = fold (λ greatest entry. max greatest entry.1.dts) 0 records

-- a unit follows these records no later than the terms allow: each of them, unit or tick, is due at most the allowed wait after the unit; and the slots that
-- they settle are within the slots of the run
pub record InTime (run : Run) (before : List (ℕ × AccessUnit)) (entry : ℕ × AccessUnit) : Type 0 where
  pub in_order : greatest_of before ≤ entry.1.dts + run.terms.wait
  pub early : release run.scheduled.description.rate (lead_of run) (greatest_of before) ≤ limit_of run.terms

-- a record follows these records no further ahead than the terms allow, and in time if it is a unit: a late tick has no effect
pub record Comes (run : Run) (before : List (ℕ × AccessUnit)) (entry : ℕ × AccessUnit) : Type 0 where
  pub near : entry.1.dts ≤ greatest_of before + run.terms.ahead
  pub in_time : is_tick entry ≡ false → InTime run before entry

abbrev pub ComeInOrder : Run → List (ℕ × AccessUnit) → Type 0
ComeInOrder run records = (before after : List (ℕ × AccessUnit)) (entry : ℕ × AccessUnit) → records ≡ before ++ (entry ∷ after) → Comes run before entry

-- a run over a plan that serves its description, with room for the units that may wait; the units among these records are accepted as one job with some
-- room, and they arrive in order
pub record IsJobInOrder (run : Run) (other : Room) (records : List (ℕ × AccessUnit)) : Type 0 where
  pub promises : Promises run.scheduled
  pub room : HasRoom run run.scheduled.description.streams
  pub accepted : first_refused run.scheduled other [] (without_ticks records) ≡ None
  pub in_order : ComeInOrder run records

-- all units are accepted, and no record is refused
pub record AiredAll (a : Air) (records : List (ℕ × AccessUnit)) : Type 0 where
  pub accepted : a.accepted ≡ without_ticks records
  pub refused : a.refused ≡ []

abbrev pub AiredInOrder : Type 0
AiredInOrder = (run : Run) (other : Room) (n : ℕ) (xs : List ℕ) → IsJobInOrder run other (records_of n xs) → AiredAll (heard run n xs).air (records_of n xs)

-- if no record is refused, in order or not, the output is the output of the whole job, multiplexed at once: with the number of slots that the terms ask for,
-- otherwise up to the greatest DTS
abbrev pub AiredAsMultiplexed : Type 0
AiredAsMultiplexed = (run : Run) (other : Room) (n : ℕ) (xs : List ℕ) → first_refused run.scheduled other [] (records_of n xs) ≡ None → (heard run n xs).air.refused ≡ [] →
    output_at (course_ended (heard run n xs))
    ≡ output_of run.hex run.scheduled (job_history (records_of n xs) (last_at run (greatest_of (records_of n xs))))

-- ---- records that leap

-- each record is near the record before, and the first record near `due`
unfoldable pub NearEach : ℕ → ℕ → List (ℕ × AccessUnit) → Type 0
NearEach ahead due [] = ⊤
NearEach ahead due (entry ∷ entries) = (is_near ahead due entry.1.dts ≡ true) × NearEach ahead entry.1.dts entries

-- each of these records is further ahead than the terms of a run allow when it arrives
unfoldable pub AllFar : Run → Air → List (ℕ × AccessUnit) → Type 0
AllFar run a [] = ⊤
AllFar run a (entry ∷ entries) = (is_far_from run a entry ≡ true) × AllFar run (aired run a entry) entries

-- after any input, among nine records in a row that are near one another not all are too far ahead: from the ninth record on at the latest, a feed whose
-- stamps agree is judged by its streams
abbrev pub LeapFollowed : Type 0
LeapFollowed = (run : Run) (a : Air) (first : ℕ × AccessUnit) (rest : List (ℕ × AccessUnit)) → NearEach run.terms.ahead first.1.dts rest →
    AllFar run a (first ∷ rest) → length (first ∷ rest) ≤ leap_records

-- the report of a record that the run follows: how many slots were written before it, the greatest DTS before it, and its own DTS; the run continues from
-- this DTS, after the slots that it settles
pub record GoesOnFrom (run : Run) (a : Air) (entry : ℕ × AccessUnit) (packet from to : ℕ) : Type 0 where
  pub packet_is : packet ≡ a.slots
  pub from_is : from ≡ a.greatest
  pub to_is : to ≡ entry.1.dts
  pub greatest : (aired run a entry).greatest ≡ entry.1.dts
  pub slots : (aired run a entry).slots ≡ on_to a.slots (settled_at run entry.1.dts)

abbrev pub LeapMovesOn : Type 0
LeapMovesOn = (run : Run) (a : Air) (entry : ℕ × AccessUnit) (packet from to : ℕ) → air_cause run a entry ≡ Some (Followed packet from to) →
    GoesOnFrom run a entry packet from to

-- ---- records that are near

-- a record is due at most as far after the greatest DTS so far as the terms allow, at most as long before it as the run waits, and at least the greatest lead
-- after the beginning; and the slots settled so far are within the slots of the run
pub record ComesNear (run : Run) (a : Air) (entry : ℕ × AccessUnit) : Type 0 where
  pub near : entry.1.dts ≤ a.greatest + run.terms.ahead
  pub in_order : a.greatest ≤ entry.1.dts + run.terms.wait
  pub begun : greatest_lead run.scheduled.description.streams ≤ entry.1.dts
  pub early : release run.scheduled.description.rate (lead_of run) a.greatest ≤ limit_of run.terms

-- a cause within the unit and the units of its stream, by the declaration of the stream and the programs on air: all causes except the written slots and the
-- room
abbrev pub IsOwnCause : FeedError → Type 0
IsOwnCause UnknownStream = ⊤
IsOwnCause Empty = ⊤
IsOwnCause TooLarge = ⊤
IsOwnCause TooSoon = ⊤
IsOwnCause BadPts = ⊤
IsOwnCause Late = ⊥
IsOwnCause TooFar = ⊤
IsOwnCause Full = ⊥
IsOwnCause Group = ⊤
IsOwnCause Pace = ⊤
IsOwnCause OffAir = ⊤

abbrev pub IsJudgedAlone : Option AirRefusal → Type 0
IsJudgedAlone None = ⊤
IsJudgedAlone (Some (Feed unit)) = IsOwnCause unit.cause
IsJudgedAlone (Some (Ahead far)) = ⊥
IsJudgedAlone (Some (Followed packet from to)) = ⊥
IsJudgedAlone (Some (Texts refusal)) = ⊤
IsJudgedAlone (Some (LineUp refusal)) = ⊤

-- after any input, however damaged, such a record is refused for no other cause, as long as no other line-up has come: neither for its time nor for the room, if
-- the run has the room that its streams need
abbrev pub NearIsJudgedAlone : Type 0
NearIsJudgedAlone = (run : Run) (n : ℕ) (xs : List ℕ) (entry : ℕ × AccessUnit) → Promises run.scheduled →
    HasRoom run run.scheduled.description.streams → IsFirst (heard run n xs) → ComesNear run (heard run n xs).air entry →
    IsJudgedAlone (air_cause run (heard run n xs).air entry)

-- ---- line-ups

-- all bytes written so far, under whatever line-ups, keep what one line-up promises, each PID from the slot on in which it came on air
abbrev pub LineUpsKept : Type 0
LineUpsKept = (run : Run) (a : Air) → LineUpsFit run a → run.hex ≡ false →
    HeadlineOverLineUps (turn_of run a) a.before.turns a.slots (air_output run a)
