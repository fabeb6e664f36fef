-- The record that puts new texts on air.
use Rattle.std.specs.Prelude.{◌≡◌, ◌≤◌, ◌+◌, ◌-◌, ◌*◌, ℕ, Bool, true, false, List, [], ◌++◌, length, min, Ok}
use Rattle.clock27.specs.Release.{release}
use Rattle.pes_packet.specs.AccessUnits.{AccessUnit}
use Rattle.pes_packet.specs.Marks.{no_marks}
use Rattle.description_parts.specs.Described.{Described}
use Rattle.changed_texts.specs.Reading.{description_in}
use Rattle.job_parts.specs.Parts.{parts_of}
use Rattle.on_air.specs.Airing.{greatest_lead, settled}
use Rattle.unit_records.specs.Records.{record_bytes}
use Rattle.explained_jobs.specs.JobWords.{description_part}

-- when texts are due, in units of 90 kHz after the first slot, that are in force from a moment on: a run writes the slots that the greatest lead and the wait
-- before them have settled. A moment before the first slot is that of the first slot
abbrev pub due_at : Described → ℕ → ℕ → ℕ
due_at d at wait = 90000 * (at - d.start) + greatest_lead d.streams + wait

abbrev pub texts_unit : ℕ → List ℕ → AccessUnit
texts_unit due texts = record { dts = due; pts = due; marks = no_marks; bytes = texts }

-- a front has a tick before it, by which the slots before the moment are written
abbrev pub tick_before : Bool → ℕ → List ℕ
tick_before false due = []
tick_before true due = record_bytes 255 (texts_unit due [])

-- the record of these texts, or of this front, for a job with this description
pub record IsTextsRecord (is_front : Bool) (job texts : List ℕ) (at wait : ℕ) (bytes : List ℕ) : Type 0 where
  pub frame : Described
  pub read : Ok frame ≡ description_in (description_part job (parts_of job))
  pub size : length texts ≤ 4000000
  pub is : bytes ≡ tick_before is_front (due_at frame at wait) ++ record_bytes 254 (texts_unit (due_at frame at wait) texts)

-- the slots before a run puts them on air are those that begin before the moment
abbrev pub TextsBegin : Type 0
TextsBegin = (d : Described) (limit at wait : ℕ) →
    settled d.rate (greatest_lead d.streams + wait) limit (due_at d at wait) ≡ min (release d.rate 0 (90000 * (at - d.start))) limit
