-- The state of a run in memory, and the run that it represents.
use Rattle.std.specs.Prelude.{◌≡◌, ◌≤◌, ◌<◌, ◌+◌, ℕ, Bool, false, nat_le, if◌then◌else◌, List, [], length, Option, Some, None, is_none, Result, Ok, Err}
use Rattle.description_parts.specs.Ranges.{IsInRange}
use Rattle.pes_packet.specs.AccessUnits.{AccessUnit}
use Rattle.slot_contents.specs.Contents.{Content}
use Rattle.mux_core.specs.Buffer.{waiting_of, Buffered, IsOutput}
use Rattle.unit_records.specs.Records.{head_size, size_at}
use Rattle.plan_checker.specs.Served.{Served}
use Rattle.switch_checker.specs.Followed.{Followed}
use Rattle.slot_plan.specs.Promised.{Promised}
use Rattle.mux_core.specs.Headline.{HeadlineOver}
use Rattle.mux_core.specs.Histories.{History, bytes_of, content_over}
use Rattle.mux_core.specs.MuxStates.{MuxState, Represents}
use Rattle.mux_core.specs.NewMux.{is_periods}
use Rattle.mux_core.specs.declared.done.NewError.{NewError}
use Rattle.mux_core.specs.declared.done.NewError.TheVariants.{Periods}
use Rattle.mux_core.specs.Scheduled.{Scheduled}
use Rattle.mux_core.specs.WholeJobs.{run_output, plan_schedule, switch_schedule}
use Rattle.line_ups.specs.Kept.{slot_with}
use Rattle.slot_plan.specs.declared.slot.Slot.TheVariants.{Null}
use Rattle.turns.specs.Turns.{AreOff, TurnsFit}
use Rattle.on_air.specs.declared.leap.Leap.{Leap}
use Rattle.on_air.specs.declared.options.Terms.{Terms}
use Rattle.on_air.specs.declared.refusals.AirRefusal.{AirRefusal}
use Rattle.on_air.specs.Airing.{Run, Air, history_by, job_of, air_output, lead_of, greatest_lead, room_by, air_cause, accepted_by}
use Rattle.on_air.specs.Courses.{turn_of}
use Rattle.on_air.specs.LineUps.{is_among}

-- the multiplexer, the packets that wait to be written, the terms, the rate and the lead that settle slots, the greatest DTS taken, the records that leap,
-- the number of records read, whether there is one plan, so that texts and the line-up may change, and the PIDs that have gone
pub record AirState : Type 0 where
  pub mux : MuxState
  pub packets : Buffered
  pub terms : Terms
  pub rate : ℕ
  pub lead : ℕ
  pub greatest : ℕ
  pub leap : Leap
  pub records : ℕ
  pub one_plan : Bool
  pub gone : List ℕ

-- the multiplexer of this run represents a history
pub record Carries (run : Run) (h : History) (m : MuxState) : Type 0 where
  pub represents : Represents h m
  pub scheduled : m.schedule ≡ run.scheduled
  pub capacity : m.capacity ≡ run.capacity

-- a history with this number of slots
abbrev pub with_slots : History → ℕ → History
with_slots h n = record { units = h.units; changes = h.changes; slots = n }

-- from the next slot on, slots carry what the multiplexer of this history has in them
abbrev pub GoesOn : Scheduled → History → (ℕ → Content) → Type 0
GoesOn d h content = (slot : ℕ) → h.slots ≤ slot → content slot ≡ content_over d h.changes h.units slot

-- the state after slots were written, which carry this content from the first slot of the run on
pub record WroteOn (run : Run) (h : History) (content : ℕ → Content) (hex : Bool) (start now : Option (List ℕ)) (m : MuxState) (packets : Buffered) : Type 0 where
  pub mux : Carries run h m
  pub hex_is : packets.hex ≡ hex
  pub output : IsOutput start now packets (run_output hex content 0 h.slots)

-- the promises of a schedule about its description
pub record Promises (d : Scheduled) : Type 0 where
  pub ranges : IsInRange d.description
  pub promised : Promised d.description d.schedule

-- the state after a record was judged, and its unit fed if it was accepted: no slot so far changes
pub record Admits (run : Run) (a : Air) (entry : ℕ × AccessUnit) (refused : Option AirRefusal) (m : MuxState) : Type 0 where
  pub cause : refused ≡ air_cause run a entry
  pub mux : Carries run (history_by a.before (accepted_by a entry refused) a.slots a.changes) m
  pub before : (slot : ℕ) → slot < a.slots →
      content_over run.scheduled a.changes (history_by a.before (accepted_by a entry refused) a.slots a.changes).units slot
      ≡ content_over run.scheduled a.changes (job_of a).units slot

-- all bytes that the line-up in force has in the slots so far keep every promise. Under the first line-up of a run these are the bytes written; later they are
-- so on each PID of what stays, and on the others from the slot on in which the line-up came (`turns`)
abbrev pub KeepsHeadline : Run → Air → Type 0
KeepsHeadline run a = HeadlineOver run.scheduled a.changes (job_of a).units a.slots (bytes_of run.scheduled (job_of a))

-- a PID that has not gone, and that the line-up in force does not have, was not on air before
abbrev pub KnowsGone : Run → Air → Type 0
KnowsGone run a = (pid : ℕ) → is_among a.before.gone (Some pid) ≡ false → slot_with run.scheduled.description pid ≡ Null → AreOff a.before.turns pid

-- the line-ups so far fit, one after another: all bytes written keep what `turns` promises of them, and no PID returns
pub record LineUpsFit (run : Run) (a : Air) : Type 0 where
  pub begun : a.before.from ≤ a.slots
  pub turns : TurnsFit (turn_of run a) a.before.turns
  pub gone : KnowsGone run a

-- the state of a run at `a`: the multiplexer represents the accepted units and the written slots; the writer, which held `start` at the beginning, holds the
-- output of these slots except the waiting bytes; and the bytes that the line-up in force has in these slots keep every promise
pub record IsOnAir (run : Run) (a : Air) (start now : Option (List ℕ)) (s : AirState) : Type 0 where
  pub mux : Carries run (job_of a) s.mux
  pub promises : Promises run.scheduled
  pub terms : s.terms ≡ run.terms
  pub hex : s.packets.hex ≡ run.hex
  pub rate : s.rate ≡ run.scheduled.description.rate
  pub lead : s.lead ≡ lead_of run
  pub greatest : s.greatest ≡ a.greatest
  pub leap : s.leap ≡ a.leap
  pub records : s.records ≡ a.records
  pub one_plan : s.one_plan ≡ is_none run.scheduled.schedule.following
  pub gone : s.gone ≡ a.before.gone
  pub line_ups : LineUpsFit run a
  pub output : IsOutput start now s.packets (air_output run a)
  pub headline : KeepsHeadline run a

-- ---- waiting packets

-- the record at the front is whole in these bytes
abbrev pub holds_record : List ℕ → Bool
holds_record xs = nat_le (head_size + size_at xs) (length xs)

-- no packet waits if the input does not hold the next record whole, so that a read of it may wait
abbrev pub IsOut : List ℕ → AirState → Type 0
IsOut held s = holds_record held ≡ false → waiting_of s.packets ≡ []

-- ---- a run of one plan, and of two plans

abbrev pub run_with : Scheduled → Terms → Bool → Run
run_with d terms hex = record {
  scheduled = d;
  capacity = room_by terms.room (greatest_lead d.description.streams + terms.wait);
  terms = terms;
  hex = hex;
}

abbrev pub plan_run : Served → Terms → Bool → Run
plan_run plan terms hex = run_with (plan_schedule plan) terms hex

abbrev pub switch_run : Followed → ℕ → Terms → Bool → Run
switch_run switch periods terms hex = run_with (switch_schedule switch periods) terms hex

-- why no run was begun: the periods of a first plan, or out of memory
abbrev pub begin_refusal : {V : Type 0} → Result V NewError → Option NewError
begin_refusal (Ok run) = None
begin_refusal (Err cause) = Some cause

abbrev pub switch_refusal : Followed → ℕ → Option NewError
switch_refusal switch periods = if is_periods (length switch.first.plan.slots) periods then None else Some Periods
