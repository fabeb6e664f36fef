-- Changes of the texts: which may come, which sub-tables they change from which slot on, and whether a section of a sub-table began since.
use Rattle.std.specs.Prelude.{◌≡◌, ◌≤◌, ◌<◌, ℕ, zero, suc, ◌+◌, ◌==◌, ◌&&◌, ◌||◌, nat_lt, nat_le, Bool, true, false, cond, [], length, Option, Some, None}
use Rattle.std.specs.Prelude.{slice_get, slice_index_or, is_some, ⊤}
use Rattle.description_parts.specs.Described.{Described}
use Rattle.description_parts.specs.Ranges.{IsInRange}
use Rattle.description_parts.specs.Tables.{only_if, table_kinds, table_count, section_count, section_lengths}
use Rattle.description_parts.specs.declared.table_kind.TableKind.TheVariants.{Nit, Sdt}
use Rattle.description.specs.declared.sub_table.SubTable.{SubTable}
use Rattle.description.specs.SubTables.{sub_table_count, sub_table_number, sub_table_of}
use Rattle.changed_texts.specs.TextFaults.{text_fault, IsTextOf}
use Rattle.changed_texts.specs.Versions.{next_texts, changed}
use Rattle.changed_texts.specs.declared.fault.TextFault.{TextFault}
use Rattle.slot_plan.specs.declared.slot.Slot.{Slot}
use Rattle.slot_plan.specs.declared.slot.Slot.TheVariants.{Stream, Pcr, Table, Null}
use Rattle.slot_plan.specs.Schedule.{slot_of}
use Rattle.table_rounds.specs.Parts.{places_of}
use Rattle.table_rounds.specs.Tables.{SectionPlace, place_at, last_moment, not_yet}
use Rattle.mux_core.specs.Scheduled.{Scheduled}
use Rattle.mux_core.specs.Histories.{Change, Past, TextsSoFar, FirstTexts, NextTexts, History, past_of, by_past, text_at, last_texts, table_of, table_over}

-- a change up to this slot: its texts are in their ranges, and differ from the description in nothing but texts
pub record ChangeFits (d : Described) (slot : ℕ) (change : Change) : Type 0 where
  pub from : change.from ≤ slot
  pub since : (x : ℕ) → change.since x ≤ slot
  pub ranges : IsInRange change.texts
  pub texts : IsTextOf d change.texts

-- a past up to this slot: each table is on air at its end, the description came with other texts at most, and each section that began before has its place
pub record PastFits (d : Described) (slot : ℕ) (past : Past) : Type 0 where
  pub until : past.until ≤ slot
  pub from : (t : ℕ) → not_yet (past.from t) past.until ≡ false
  pub ranges : IsInRange (past.texts d)
  pub texts : IsTextOf d (past.texts d)
  pub places : (t s j moment : ℕ) → s < past.until → j < section_count d t →
      places_of (length (past.bytes t s j moment)) ≤ places_of (slice_index_or (section_lengths d t) j 0)

-- each change is up to the slot of the next, the last one up to this slot, and the first one not before the past's end
abbrev pub FirstFit : Described → ℕ → Option Past → Type 0
FirstFit d slot None = ⊤
FirstFit d slot (Some past) = PastFits d slot past

abbrev pub ChangesFit : Described → ℕ → TextsSoFar → Type 0
ChangesFit d slot (FirstTexts past) = FirstFit d slot past
ChangesFit d slot (NextTexts change earlier) = ChangeFits d slot change × ChangesFit d change.from earlier

-- why these texts may not follow the texts in force
abbrev pub text_cause : Scheduled → History → Described → Option TextFault
text_cause d h texts = text_fault d.description (last_texts d.description h.changes) texts

-- ---- what was sent

-- the slot from which on the sections of a sub-table are as they are now, 0 without a change
abbrev pub since_of : TextsSoFar → ℕ → ℕ
since_of (FirstTexts past) x = 0
since_of (NextTexts change earlier) x = change.since x

-- the sub-table of a section, if the description has the section
abbrev pub sub_table_there : Described → ℕ → ℕ → Option SubTable
sub_table_there d t section =
    cond (nat_lt t (table_count d)) (cond (nat_lt section (section_count d t)) (sub_table_of d t section) None) None

abbrev pub is_numbered : ℕ → Option SubTable → Bool
is_numbered x None = false
is_numbered x (Some s) = sub_table_number s == x

-- at this place of a table a section of sub-table number x begins
abbrev pub begins_at : Described → ℕ → ℕ → SectionPlace → Bool
begins_at texts x t place = (place.part == 0) && is_numbered x (sub_table_there texts t place.section)

-- a section of the sub-table begins in a slot of this kind
unfoldable pub begins_in : Scheduled → TextsSoFar → ℕ → ℕ → Slot → Bool
begins_in d changes x slot (Stream k) = false
begins_in d changes x slot (Pcr p) = false
begins_in d changes x slot (Table t) = begins_at (text_at d.description changes slot) x t (place_at (table_of d t) slot)
begins_in d changes x slot Null = false

-- a section of the sub-table begins in this slot. In the slots of the past each sub-table counts as sent, so that the next change gives it another version
abbrev pub began_at : Scheduled → TextsSoFar → ℕ → ℕ → Bool
began_at d changes x slot = by_past (past_of changes) slot (λ past. true) (begins_in d changes x slot (slot_of d.schedule slot))

-- a section of the sub-table begins in a slot from `since` on and before this one
unfoldable pub began_since : Scheduled → TextsSoFar → ℕ → ℕ → ℕ → Bool
began_since d changes x since zero = false
began_since d changes x since (suc s) = began_since d changes x since s || (nat_le since s && began_at d changes x s)

-- a section of the sub-table began since its last change
abbrev pub sent_of : Scheduled → History → ℕ → Bool
sent_of d h x = nat_lt x sub_table_count && began_since d h.changes x (since_of h.changes x) h.slots

-- ---- the next change

-- the number of the EIT, if there is one: after PAT, PMTs, NIT and SDT
abbrev pub events_table : Described → ℕ
events_table d = 1 + length d.programs + length (only_if (is_some d.network) Nit) + length (only_if d.has_sdt Sdt)

-- the moment for which it shows its events: that of its last round; before its first round that of slot 0 by the description
abbrev pub events_moment : Scheduled → TextsSoFar → ℕ → ℕ
events_moment d changes slots = elim (slice_get (table_kinds d.description) (events_table d.description)) [
  | None ↦ d.description.start
  | Some kind ↦ last_moment (table_over d changes (events_table d.description)) slots
]

-- the change to these texts in the next slot: each sub-table that changes has another version, if a section of the version before was sent
abbrev pub next_change : Scheduled → History → Described → Change
next_change d h texts = record {
  from = h.slots;
  texts = next_texts (last_texts d.description h.changes) texts (events_moment d h.changes h.slots) (sent_of d h);
  since = λ x. cond (changed (last_texts d.description h.changes) texts (events_moment d h.changes h.slots) x) h.slots (since_of h.changes x);
}

-- the history of changes alone, up to a slot
abbrev pub changed_history : TextsSoFar → ℕ → History
changed_history changes slots = record { units = λ k. []; changes = changes; slots = slots }

-- a change is the next one to some texts, which may follow the texts before it
pub record IsMade (d : Scheduled) (change : Change) (earlier : TextsSoFar) : Type 0 where
  pub texts : Described
  pub ranges : IsInRange texts
  pub accepted : text_cause d (changed_history earlier change.from) texts ≡ None
  pub is : change ≡ next_change d (changed_history earlier change.from) texts

abbrev pub AreMade : Scheduled → TextsSoFar → Type 0
AreMade d (FirstTexts past) = ⊤
AreMade d (NextTexts change earlier) = IsMade d change earlier × AreMade d earlier
