-- The course of a run without end: its records, one after another, and the line-ups that they bring. A line-up is a description with the plan that serves it.
use Rattle.std.specs.Prelude.{◌≡◌, ℕ, zero, suc, ◌&&◌, Bool, if◌then◌else◌, List, [], ◌∷◌, ◌++◌, Option, Some, None, is_none, Result, Ok, Err}
use Rattle.pes_packet.specs.AccessUnits.{AccessUnit}
use Rattle.description_parts.specs.Described.{Described}
use Rattle.plan_checker.specs.Served.{Served}
use Rattle.unit_records.specs.Records.{record_at}
use Rattle.unit_records.specs.declared.reading.UnitFileError.{UnitFileError}
use Rattle.mux_core.specs.RecordRuns.{after_records}
use Rattle.mux_core.specs.LineUps.{next_history, scheduled_by}
use Rattle.turns.specs.Turns.{Turn}
use Rattle.on_air.specs.declared.refusals.LineUpRefusal.{LineUpRefusal}
use Rattle.on_air.specs.LineUps.{line_up_in, pids_gone}
use Rattle.on_air.specs.Airing.{Air, Before, Run, air_cause, air_output, aired, brings_line_up, ended, job_of, silence, taken}

-- the run with the line-up in force, and its progress
pub record Course : Type 0 where
  pub run : Run
  pub air : Air

-- ---- a line-up takes the place of the one in force

abbrev pub with_line_up : Run → Served → Run
with_line_up run next = record { scheduled = scheduled_by next; capacity = run.capacity; terms = run.terms; hex = run.hex }

-- the turn of the line-up in force, so far
abbrev pub turn_of : Run → Air → Turn
turn_of run a = record { from = a.before.from; scheduled = run.scheduled; history = job_of a }

-- what came before the new line-up, which is in force from the next slot on
abbrev pub before_next : Run → Air → Described → Before
before_next run a new = record {
  from = a.slots;
  units = (next_history run.scheduled (job_of a) new).units;
  turns = turn_of run a ∷ a.before.turns;
  accepted = a.before.accepted ++ a.accepted;
  gone = a.before.gone ++ pids_gone run.scheduled.description new;
}

-- the progress when the new line-up comes
abbrev pub taken_over : Run → Air → Described → Air
taken_over run a new = record {
  before = before_next run a new;
  accepted = [];
  slots = a.slots;
  greatest = a.greatest;
  leap = a.leap;
  records = a.records;
  refused = a.refused;
  changes = (next_history run.scheduled (job_of a) new).changes;
}

-- the new line-up comes, and the slots that the DTS of its record settles are written
abbrev pub lined_up : Run → Air → ℕ × AccessUnit → Served → Course
lined_up run a entry next = record {
  run = with_line_up run next;
  air = taken (with_line_up run next) (taken_over run a next.description) entry [] (taken_over run a next.description).changes;
}

-- ---- a record

-- the record brings a line-up that is not refused
abbrev pub takes_over : Run → Air → ℕ × AccessUnit → Bool
takes_over run a entry = brings_line_up run entry && is_none (air_cause run a entry)

-- the course after a record that brings what its bytes are read as
unfoldable pub course_with : Run → Air → ℕ × AccessUnit → Result Served LineUpRefusal → Course
course_with run a entry (Ok next) = lined_up run a entry next
course_with run a entry (Err refusal) = record { run = run; air = aired run a entry }

-- the course after a record
abbrev pub course_after : Run → Air → ℕ × AccessUnit → Course
course_after run a entry =
    if takes_over run a entry then course_with run a entry (line_up_in entry.1.bytes) else record { run = run; air = aired run a entry }

-- ---- a whole input

-- the course after a read: unchanged if the read gives no record
unfoldable pub with_record : Result (Option (ℕ × AccessUnit)) UnitFileError → Course → Course
with_record (Ok (Some entry)) c = course_after c.run c.air entry
with_record (Ok None) c = c
with_record (Err fault) c = c

-- a run before its first record
abbrev pub at_begin : Run → Course
at_begin run = record { run = run; air = silence }

-- the course after n records of an input
unfoldable pub heard : Run → ℕ → List ℕ → Course
heard run zero xs = at_begin run
heard run (suc n) xs = with_record (record_at (after_records n xs)) (heard run n xs)

-- the first line-up is in force
abbrev pub IsFirst : Course → Type 0
IsFirst c = c.air.before.turns ≡ []

-- all units that were accepted, each with the number that its stream had, in order
abbrev pub all_accepted : Course → List (ℕ × AccessUnit)
all_accepted c = c.air.before.accepted ++ c.air.accepted

-- the output so far, and the output of the whole run if the input ends
abbrev pub output_at : Course → List ℕ
output_at c = air_output c.run c.air

abbrev pub course_ended : Course → Course
course_ended c = record { run = c.run; air = ended c.run c.air }
