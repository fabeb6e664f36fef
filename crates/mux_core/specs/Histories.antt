-- A history: the units that were accepted, what the tables carried, and the number of slots written. The bytes of a run depend on nothing else.
use Rattle.std.specs.Prelude.{ℕ, suc, ◌+◌, ◌*◌, nat_eq, nat_lt, nat_le, cond, List, [], ◌∷◌, ◌++◌, Option, Some, None, slice_get}
use Rattle.clock27.specs.Reference.{pcr_at}
use Rattle.pes_packet.specs.AccessUnits.{AccessUnit}
use Rattle.slot_contents.specs.Contents.{Content, PcrContent, NullContent, run_bytes}
use Rattle.description_parts.specs.Described.{Described, DescribedStream}
use Rattle.description_parts.specs.Tables.{table_kinds, table_pid, section_lengths}
use Rattle.description.specs.SectionBytes.{table_bytes}
use Rattle.description_parts.specs.declared.table_kind.TableKind.{TableKind}
use Rattle.slot_plan.specs.declared.slot.Slot.{Slot}
use Rattle.slot_plan.specs.declared.slot.Slot.TheVariants.{Stream, Pcr, Table, Null}
use Rattle.slot_plan.specs.declared.slot.Item.TheVariants.{Stream as StreamItem, Table as TableItem}
use Rattle.slot_plan.specs.Schedule.{slot_of, owned}
use Rattle.slot_plan.specs.SlotPids.{slot_pid}
use Rattle.unit_queue.specs.declared.parameters.StreamParameters.{StreamParameters}
use Rattle.unit_queue.specs.OwnedStreams.{OwnedStream}
use Rattle.unit_queue.specs.Places.{stream_content}
use Rattle.table_rounds.specs.Tables.{Table as TableSlots, table_content}
use Rattle.mux_core.specs.Scheduled.{Scheduled}

-- a change of the texts that the tables have: the first slot in which the new texts are in force, the texts, and for each sub-table, by its number, the
-- slot from which on its sections are as they are now
pub record Change : Type 0 where
  pub from : ℕ
  pub texts : Described
  pub since : ℕ → ℕ

-- what the tables of a description carried before it came on air: the slot in which it came; for each table, by its number, the slot in which the table came
-- on air, none for slot 0; the moment before the first round of a table; the `start` of a round of a table that began in a slot before `until`; the bytes of a
-- section of a table that began there, for a moment; and the description with the versions that follow those that were sent
pub record Past : Type 0 where
  pub until : ℕ
  pub from : ℕ → Option ℕ
  pub first : ℕ → ℕ
  pub start : ℕ → ℕ → ℕ
  pub bytes : ℕ → ℕ → ℕ → ℕ → List ℕ
  pub texts : Described → Described

-- the texts so far: those with which the description came on air, after a past or at the begin of the run; and those of each change, the last one first
pub data TextsSoFar : Type 0 where
  FirstTexts : Option Past → TextsSoFar
  NextTexts : Change → TextsSoFar → TextsSoFar

-- the texts of a run in which nothing changed
abbrev pub unchanged : TextsSoFar
unchanged = FirstTexts None

-- the changes alone, the last one first
abbrev pub listed_changes : TextsSoFar → List Change
listed_changes (FirstTexts past) = []
listed_changes (NextTexts change earlier) = change ∷ listed_changes earlier

abbrev pub past_of : TextsSoFar → Option Past
past_of (FirstTexts past) = past
past_of (NextTexts change earlier) = past_of earlier

-- the slot in which the description came on air
abbrev pub until_of : Option Past → ℕ
until_of None = 0
until_of (Some past) = past.until

-- the slot in which a table of the description came on air
abbrev pub from_of : Option Past → ℕ → Option ℕ
from_of None t = None
from_of (Some past) t = past.from t

-- the moment before the first round of a table of the description
abbrev pub first_of : Option Past → Described → ℕ → ℕ
first_of None d t = d.start
first_of (Some past) d t = past.first t

-- the texts with which the description came on air
abbrev pub first_texts : Option Past → Described → Described
first_texts None d = d
first_texts (Some past) d = past.texts d

-- in a slot before its end what the past says, else what is so now
abbrev pub by_past : {X : Type 0} → Option Past → ℕ → (Past → X) → X → X
by_past None slot before now = now
by_past (Some past) slot before now = cond (nat_lt slot past.until) (before past) now

-- for each stream, by its number, the accepted units in order; the texts so far; and the number of slots written
pub record History : Type 0 where
  pub units : ℕ → List AccessUnit
  pub changes : TextsSoFar
  pub slots : ℕ

-- the history with one more change
abbrev pub with_change : History → Change → History
with_change h change = record { units = h.units; changes = NextTexts change h.changes; slots = h.slots }

-- the texts in force in a slot: those of the last change up to it, before all changes those with which the description came
abbrev pub text_at : Described → TextsSoFar → ℕ → Described
text_at d (FirstTexts past) slot = first_texts past d
text_at d (NextTexts change earlier) slot = cond (nat_le change.from slot) change.texts (text_at d earlier slot)

-- the texts after all changes
abbrev pub last_texts : Described → TextsSoFar → Described
last_texts d (FirstTexts past) = first_texts past d
last_texts d (NextTexts change earlier) = change.texts

-- the declaration of a stream about its units, in the output of this description
abbrev pub parameters_of : Described → DescribedStream → StreamParameters
parameters_of d s = record {
  pid = s.pid;
  stream_id = s.stream_id;
  rate = d.rate;
  base0 = d.base0;
  lead = s.lead;
  interval = s.interval;
  pts_limit = s.pts_limit;
  size = s.size;
  allowance = s.allowance;
}

-- the stream on its own slots
abbrev pub owned_stream : Scheduled → ℕ → DescribedStream → OwnedStream
owned_stream d k s = record { own = owned d.schedule (StreamItem k); parameters = parameters_of d.description s }

-- what a slot of stream number k carries
unfoldable pub stream_in : Scheduled → (ℕ → List AccessUnit) → ℕ → ℕ → Option DescribedStream → Content
stream_in d units slot k None = NullContent
stream_in d units slot k (Some s) = stream_content (owned_stream d k s) (units k) slot

-- what a slot of clock references on this PID carries: the clock at byte 10 of its packet (ISO/IEC 13818-1, 2.4.3.5)
unfoldable pub pcr_content : Described → ℕ → Option ℕ → Content
pcr_content d slot None = NullContent
pcr_content d slot (Some pid) = PcrContent pid (pcr_at d.rate d.base0 (188 * slot + 10))

-- the bytes of a section of a table that begins in a slot, for a moment, and the `start` of a round that begins in a slot: by the texts in force in the slot,
-- before the past's end by the past
abbrev pub bytes_over : Described → TextsSoFar → ℕ → ℕ → ℕ → ℕ → List ℕ
bytes_over d changes t slot j moment = by_past (past_of changes) slot (λ past. past.bytes t slot j moment) (table_bytes (text_at d changes slot) t j moment)

abbrev pub start_over : Described → TextsSoFar → ℕ → ℕ → ℕ
start_over d changes t slot = by_past (past_of changes) slot (λ past. past.start t slot) (text_at d changes slot).start

-- a table on its own slots: its sections with their greatest lengths, their bytes, and the moments of its rounds
abbrev pub table_over : Scheduled → TextsSoFar → ℕ → TableSlots
table_over d changes t = record {
  own = owned d.schedule (TableItem t);
  pid = table_pid d.description t;
  from = from_of (past_of changes) t;
  lengths = section_lengths d.description t;
  bytes = bytes_over d.description changes t;
  rate = d.description.rate;
  start = start_over d.description changes t;
  first = first_of (past_of changes) d.description t;
}

-- the same without a change
abbrev pub table_of : Scheduled → ℕ → TableSlots
table_of d t = table_over d unchanged t

-- what a slot of table number t carries
unfoldable pub table_in : Scheduled → TextsSoFar → ℕ → ℕ → Option TableKind → Content
table_in d changes slot t None = NullContent
table_in d changes slot t (Some kind) = table_content (table_over d changes t) slot

-- what a slot of this kind carries
unfoldable pub content_in : Scheduled → TextsSoFar → (ℕ → List AccessUnit) → ℕ → Slot → Content
content_in d changes units slot (Stream k) = stream_in d units slot k (slice_get d.description.streams k)
content_in d changes units slot (Pcr p) = pcr_content d.description slot (slot_pid d.description (Pcr p))
content_in d changes units slot (Table t) = table_in d changes slot t (slice_get (table_kinds d.description) t)
content_in d changes units slot Null = NullContent

-- what each slot of the run carries
unfoldable pub content_over : Scheduled → TextsSoFar → (ℕ → List AccessUnit) → ℕ → Content
content_over d changes units slot = content_in d changes units slot (slot_of d.schedule slot)

-- the same without a change
abbrev pub content_at : Scheduled → (ℕ → List AccessUnit) → ℕ → Content
content_at d units = content_over d unchanged units

-- the bytes of a history: 188 a slot
abbrev pub bytes_of : Scheduled → History → List ℕ
bytes_of d h = run_bytes (content_over d h.changes h.units) 0 h.slots

-- nothing accepted, nothing changed, nothing written
abbrev pub empty_history : History
empty_history = record { units = λ k. []; changes = unchanged; slots = 0 }

-- the history with one more slot, and with one more unit
abbrev pub next_slot : History → History
next_slot h = record { units = h.units; changes = h.changes; slots = suc h.slots }

abbrev pub with_unit : History → ℕ → AccessUnit → History
with_unit h k u = record { units = λ j. cond (nat_eq j k) (h.units j ++ (u ∷ [])) (h.units j); changes = h.changes; slots = h.slots }
