-- The rule of a run without end, while a line-up is in force: which records are taken, and which slots are written after each of them and at the end.
use Rattle.std.specs.Prelude.{ℕ, ◌+◌, ◌-◌, ◌^◌, ◌==◌, ◌&&◌, min, max, Bool, cond, if◌then◌else◌, List, [], ◌∷◌, ◌++◌, length, slice_get, fold}
use Rattle.std.specs.Prelude.{Option, Some, None, is_none, not, option_map, Result, Ok, Err, All, ◌≤◌}
use Rattle.clock27.specs.Release.{release}
use Rattle.pes_packet.specs.AccessUnits.{AccessUnit}
use Rattle.pes_packet.specs.Marks.{marks_size}
use Rattle.pes_packet.specs.Units.{units_of}
use Rattle.slot_contents.specs.Contents.{Content}
use Rattle.description_parts.specs.Described.{Described, DescribedStream}
use Rattle.description_keys.specs.declared.fault.DescFault.TheVariants as key
use Rattle.description_keys.specs.declared.fault.DescError.{DescError}
use Rattle.description_keys.specs.declared.fault.DescError.TheVariants as unread
use Rattle.changed_texts.specs.Reading.{description_in}
use Rattle.changed_texts.specs.TextFaults.{text_fault}
use Rattle.unit_queue.specs.declared.refusal.FeedError.{FeedError}
use Rattle.mux_core.specs.Rooms.{needed_units, room_in}
use Rattle.mux_core.specs.Scheduled.{Scheduled}
use Rattle.mux_core.specs.Histories.{History, last_texts, TextsSoFar, unchanged, NextTexts}
use Rattle.mux_core.specs.TextChanges.{next_change}
use Rattle.mux_core.specs.MuxStates.{feed_cause}
use Rattle.mux_core.specs.WholeJobs.{run_output}
use Rattle.turns.specs.Turns.{Turn, content_by}
use Rattle.mux_core.specs.declared.room.Room.{Room}
use Rattle.mux_core.specs.declared.room.Room.TheVariants.{Units, Due}
use Rattle.on_air.specs.declared.leap.Leap.{Leap}
use Rattle.on_air.specs.declared.options.Terms.{Terms}
use Rattle.on_air.specs.declared.refusals.AirRefusal.{AirRefusal}
use Rattle.on_air.specs.declared.refusals.FarRecord.{FarRecord}
use Rattle.on_air.specs.declared.refusals.LineUpRefusal.{LineUpRefusal}
use Rattle.on_air.specs.declared.refusals.RefusedUnit.{RefusedUnit}
use Rattle.on_air.specs.declared.refusals.TextsRefusal.{TextsRefusal}
use Rattle.on_air.specs.declared.refusals.TextsRefusal.TheVariants.{Unread, Fault}
use Rattle.on_air.specs.declared.refusals.AirRefusal.TheVariants.{Feed, Ahead, Followed, Texts, LineUp}
use Rattle.on_air.specs.Leaps.{is_far, is_followed, leap_with, no_leap}
use Rattle.on_air.specs.LineUps.{has_plan, line_up_in, line_up_cause}

-- the schedule of the line-up in force, the room for units that wait, the terms, and whether packets are written as lines of digits
pub record Run : Type 0 where
  pub scheduled : Scheduled
  pub capacity : Room
  pub terms : Terms
  pub hex : Bool

-- what came before the line-up in force: the slot from which on it is in force; for each of its streams, by number, the units that were accepted before; the
-- line-ups before it, the newest first; the units that were accepted under them, each with the number that its stream had, in order; and the PIDs that one of
-- them had and the line-up in force does not have
pub record Before : Type 0 where
  pub from : ℕ
  pub units : ℕ → List AccessUnit
  pub turns : List Turn
  pub accepted : List (ℕ × AccessUnit)
  pub gone : List ℕ

-- before the first line-up of a run there is nothing
abbrev pub nothing : Before
nothing = record { from = 0; units = λ k. []; turns = []; accepted = []; gone = [] }

-- the progress of a run: what came before the line-up in force; under that line-up the accepted units, each with the number of its stream, in order; the
-- number of slots written; the greatest DTS taken, in units of 90 kHz; the records that leap, up to the last record read; the number of records read; the
-- numbers of the refused records, with the causes; the texts since the line-up came, the newest first
pub record Air : Type 0 where
  pub before : Before
  pub accepted : List (ℕ × AccessUnit)
  pub slots : ℕ
  pub greatest : ℕ
  pub leap : Leap
  pub records : ℕ
  pub refused : List (ℕ × AirRefusal)
  pub changes : TextsSoFar

abbrev pub silence : Air
silence = record {
  before = nothing;
  accepted = [];
  slots = 0;
  greatest = 0;
  leap = no_leap;
  records = 0;
  refused = [];
  changes = unchanged;
}

-- the history of the multiplexer: a multiplexer of the line-up in force alone has it
abbrev pub history_by : Before → List (ℕ × AccessUnit) → ℕ → TextsSoFar → History
history_by before units slots changes = record { units = λ k. before.units k ++ units_of k units; changes = changes; slots = slots }

abbrev pub job_of : Air → History
job_of a = history_by a.before a.accepted a.slots a.changes

-- what each slot carries: before the line-up in force came, what the line-ups before it have there
abbrev pub content_with : Run → Before → List (ℕ × AccessUnit) → TextsSoFar → ℕ → Content
content_with run before units changes =
    content_by (record { from = before.from; scheduled = run.scheduled; history = history_by before units before.from changes }) before.turns

-- the output
abbrev pub output_with : Run → Before → List (ℕ × AccessUnit) → ℕ → TextsSoFar → List ℕ
output_with run before units slots changes = run_output run.hex (content_with run before units changes) 0 slots

abbrev pub air_output : Run → Air → List ℕ
air_output run a = output_with run a.before a.accepted a.slots a.changes

-- ---- slots that are settled

-- the greatest lead of streams, in units of 90 kHz
abbrev pub greatest_lead : List DescribedStream → ℕ
greatest_lead streams = fold (λ lead s. max lead s.lead) 0 streams

-- how long before it is due a unit may arrive: the greatest lead, plus the wait of the terms
abbrev pub lead_of : Run → ℕ
lead_of run = greatest_lead run.scheduled.description.streams + run.terms.wait

-- the limit of slots: no slot is written after this number
unfoldable pub slots_or : ℕ → Option ℕ → ℕ
slots_or most None = most
slots_or most (Some slots) = min slots most

abbrev pub limit_of : Terms → ℕ
limit_of terms = slots_or (2 ^ 40) terms.slots

-- the slots where no unit can be sent any more, if later units are due at `due` or later, and arrive `lead` before they are due
abbrev pub settled : ℕ → ℕ → ℕ → ℕ → ℕ
settled rate lead limit due = min (release rate lead due) limit

abbrev pub settled_at : Run → ℕ → ℕ
settled_at run due = settled run.scheduled.description.rate (lead_of run) (limit_of run.terms) due

-- the slots of the whole run at the end of the input: the number that the terms ask for, otherwise the slots up to the greatest DTS
unfoldable pub last_by : ℕ → ℕ → ℕ → Option ℕ → ℕ
last_by rate limit greatest None = settled rate 0 limit greatest
last_by rate limit greatest (Some slots) = limit

abbrev pub last_of : ℕ → Terms → ℕ → ℕ
last_of rate terms greatest = last_by rate (limit_of terms) greatest terms.slots

abbrev pub last_at : Run → ℕ → ℕ
last_at run greatest = last_of run.scheduled.description.rate run.terms greatest

-- the number of slots after slots are written until there are `target`
abbrev pub on_to : ℕ → ℕ → ℕ
on_to slots target = slots + (target - slots)

-- ---- one record

-- the record is a tick, not a unit: stream 255, without bytes
abbrev pub is_tick : ℕ × AccessUnit → Bool
is_tick entry = (entry.0 == 255) && (length entry.1.bytes == 0)

-- the record changes the line-up or its texts: stream 254, in a run of one plan whose description has no such stream
abbrev pub changes_run : Run → ℕ × AccessUnit → Bool
changes_run run entry =
    is_none (slice_get run.scheduled.description.streams entry.0) && (is_none run.scheduled.schedule.following && (entry.0 == 254))

-- it brings a line-up, a description with a plan; or texts, a description alone
abbrev pub brings_line_up : Run → ℕ × AccessUnit → Bool
brings_line_up run entry = changes_run run entry && has_plan entry.1.bytes

abbrev pub brings_texts : Run → ℕ × AccessUnit → Bool
brings_texts run entry = changes_run run entry && not (has_plan entry.1.bytes)

-- the DTS of the record is further after the greatest DTS so far than the terms allow
abbrev pub is_far_from : Run → Air → ℕ × AccessUnit → Bool
is_far_from run a entry = is_far run.terms.ahead a.greatest entry.1.dts

-- the records that leap, with this record, which leaps
abbrev pub leap_by : Run → Air → ℕ × AccessUnit → Leap
leap_by run a entry = leap_with run.terms.ahead a.leap entry.1.dts

-- a record too far ahead: the number of its stream, the greatest DTS before it, its own DTS, and how far the terms allow it to be ahead
abbrev pub far_record : Run → Air → ℕ × AccessUnit → FarRecord
far_record run a entry = record { stream = entry.0; from = a.greatest; to = entry.1.dts; ahead = run.terms.ahead }

-- why a record too far ahead is refused: it is the last of enough records that leap, so that the run follows them, after these slots, from this DTS to the
-- DTS of the record; or it is not
abbrev pub far_cause : Run → Air → ℕ × AccessUnit → AirRefusal
far_cause run a entry = if is_followed (leap_by run a entry) then Followed a.slots a.greatest entry.1.dts else Ahead (far_record run a entry)

-- why the multiplexer refuses the unit of the record, by the units, the slots and the texts so far
abbrev pub unit_refusal : Run → Air → ℕ × AccessUnit → Option FeedError
unit_refusal run a entry =
    feed_cause run.scheduled run.capacity (job_of a) entry.0 entry.1 (slice_get run.scheduled.description.streams entry.0)

-- a refused unit: the number of its stream, its bytes with the bytes of its marks, its stamps, and the cause
abbrev pub refused_unit : ℕ × AccessUnit → FeedError → RefusedUnit
refused_unit entry cause =
    record { stream = entry.0; size = length entry.1.bytes + marks_size entry.1.marks; dts = entry.1.dts; pts = entry.1.pts; cause = cause }

abbrev pub fed_refusal : ℕ × AccessUnit → FeedError → AirRefusal
fed_refusal entry cause = Feed (refused_unit entry cause)

-- why texts are refused that bytes are read as, after the texts in force: the bytes are no description, or the texts can't follow. A description is never
-- refused when out of memory
unfoldable pub texts_cause : Described → Described → Result Described DescError → Option TextsRefusal
texts_cause frame now (Ok texts) = option_map Fault (text_fault frame now texts)
texts_cause frame now (Err (unread.Refused fault)) = Some (Unread fault)
texts_cause frame now (Err unread.Memory) = Some (Unread key.Text)

-- the texts in force after the slots so far
abbrev pub texts_now : Run → Air → Described
texts_now run a = last_texts run.scheduled.description a.changes

abbrev pub texts_refusal : Run → Air → ℕ × AccessUnit → Option TextsRefusal
texts_refusal run a entry = texts_cause run.scheduled.description (texts_now run a) (description_in entry.1.bytes)

-- why a line-up is refused
abbrev pub line_up_refusal : Run → Air → ℕ × AccessUnit → Option LineUpRefusal
line_up_refusal run a entry = line_up_cause run.scheduled (job_of a) a.before.gone (line_up_in entry.1.bytes)

-- why a record that is neither far ahead nor a tick is refused
abbrev pub taken_cause : Run → Air → ℕ × AccessUnit → Option AirRefusal
taken_cause run a entry =
    if brings_texts run entry then option_map Texts (texts_refusal run a entry)
    else (if brings_line_up run entry then option_map LineUp (line_up_refusal run a entry)
    else option_map (fed_refusal entry) (unit_refusal run a entry))

-- why the record is refused; a tick is not fed
abbrev pub air_cause : Run → Air → ℕ × AccessUnit → Option AirRefusal
air_cause run a entry = if is_far_from run a entry then Some (far_cause run a entry) else (if is_tick entry then None else taken_cause run a entry)

-- the accepted units after this record
unfoldable pub accepted_by : Air → ℕ × AccessUnit → Option AirRefusal → List (ℕ × AccessUnit)
accepted_by a entry (Some cause) = a.accepted
accepted_by a entry None = cond (is_tick entry) a.accepted (a.accepted ++ entry ∷ [])

-- the greatest DTS after a refused record, which later records are judged by: it changes only to the DTS of a record that the run follows
unfoldable pub greatest_by : Air → AirRefusal → ℕ
greatest_by a (Feed unit) = a.greatest
greatest_by a (Ahead far) = a.greatest
greatest_by a (Followed packet from to) = to
greatest_by a (Texts refusal) = a.greatest
greatest_by a (LineUp refusal) = a.greatest

-- the records that leap after a refused record: unchanged if the record is not too far ahead, none if the run follows the record, otherwise with the record
unfoldable pub leap_left : Run → Air → ℕ × AccessUnit → AirRefusal → Leap
leap_left run a entry (Feed unit) = a.leap
leap_left run a entry (Ahead far) = leap_by run a entry
leap_left run a entry (Followed packet from to) = no_leap
leap_left run a entry (Texts refusal) = a.leap
leap_left run a entry (LineUp refusal) = a.leap

-- a unit, a tick or texts are taken: the slots that its DTS settles are written
abbrev pub taken : Run → Air → ℕ × AccessUnit → List (ℕ × AccessUnit) → TextsSoFar → Air
taken run a entry accepted changes = record {
  before = a.before;
  accepted = accepted;
  slots = on_to a.slots (settled_at run entry.1.dts);
  greatest = max a.greatest entry.1.dts;
  leap = no_leap;
  records = a.records + 1;
  refused = a.refused;
  changes = changes;
}

-- the changes with the texts that bytes are read as, which are in force from the next slot on
unfoldable pub changes_with : Run → Air → Result Described DescError → TextsSoFar
changes_with run a (Ok texts) = NextTexts (next_change run.scheduled (job_of a) texts) a.changes
changes_with run a (Err refusal) = a.changes

-- the progress with the texts that bytes are read as on air
abbrev pub with_read : Run → Air → Result Described DescError → Air
with_read run a texts = record {
  before = a.before;
  accepted = a.accepted;
  slots = a.slots;
  greatest = a.greatest;
  leap = a.leap;
  records = a.records;
  refused = a.refused;
  changes = changes_with run a texts;
}

abbrev pub with_texts : Run → Air → Described → Air
with_texts run a texts = with_read run a (Ok texts)

-- texts are taken, and are in force after the slots that the record settles
abbrev pub changed : Run → Air → ℕ × AccessUnit → Air
changed run a entry = with_read run (taken run a entry a.accepted a.changes) (description_in entry.1.bytes)

-- a refused record writes no slot
unfoldable pub judged_by : Run → Air → ℕ × AccessUnit → Option AirRefusal → Air
judged_by run a entry (Some cause) = record {
  before = a.before;
  accepted = a.accepted;
  slots = a.slots;
  greatest = greatest_by a cause;
  leap = leap_left run a entry cause;
  records = a.records + 1;
  refused = a.refused ++ (a.records, cause) ∷ [];
  changes = a.changes;
}
judged_by run a entry None = cond (brings_texts run entry) (changed run a entry) (taken run a entry (accepted_by a entry None) a.changes)

abbrev pub judged : Run → Air → ℕ × AccessUnit → Air
judged run a entry = judged_by run a entry (air_cause run a entry)

-- the same progress with this number of slots
abbrev pub with_count : Air → ℕ → Air
with_count a slots = record {
  before = a.before;
  accepted = a.accepted;
  slots = slots;
  greatest = a.greatest;
  leap = a.leap;
  records = a.records;
  refused = a.refused;
  changes = a.changes;
}

-- the slots after a record that the run follows: the slots that its DTS settles are written, as after a record that is taken
unfoldable pub slots_followed : Run → Air → Option AirRefusal → ℕ
slots_followed run a None = a.slots
slots_followed run a (Some (Feed unit)) = a.slots
slots_followed run a (Some (Ahead far)) = a.slots
slots_followed run a (Some (Followed packet from to)) = on_to a.slots (settled_at run to)
slots_followed run a (Some (Texts refusal)) = a.slots
slots_followed run a (Some (LineUp refusal)) = a.slots

abbrev pub caught_up : Run → Air → Option AirRefusal → Air
caught_up run a refused = with_count a (slots_followed run a refused)

-- the progress after a record was judged, and followed if it is the last of a leap
abbrev pub aired : Run → Air → ℕ × AccessUnit → Air
aired run a entry = caught_up run (judged run a entry) (air_cause run a entry)

-- the progress at the end of the input
abbrev pub ended : Run → Air → Air
ended run a = with_count a (on_to a.slots (last_at run a.greatest))

-- ---- the room for units

-- the room that the terms ask for, between 1 and the maximum for each stream; otherwise room for the units that are due within a lead
unfoldable pub room_by : Option ℕ → ℕ → Room
room_by None lead = Due lead
room_by (Some units) lead = Units (min (max units 1) 1048576)

-- a run has room for the units of each of these streams that wait
abbrev pub HasRoom : Run → List DescribedStream → Type 0
HasRoom run streams = All (λ s. needed_units (lead_of run) s ≤ room_in run.capacity s) streams
