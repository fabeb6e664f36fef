-- What a change of texts leaves as it is, and that each section of texts in force goes whole.
use Rattle.std.specs.Prelude.{◌≡◌, ◌≢◌, ℕ, suc, ◌+◌, ◌-◌, ◌<◌, ◌≤◌, ◌&&◌, nat_lt, nat_le, Bool, true, false, cond, List, Some, None, length, slice_get, slice_index_or}
use Rattle.pes_packet.specs.AccessUnits.{AccessUnit}
use Rattle.ts_packet.specs.PidList.{pid_list}
use Rattle.slot_contents.specs.Contents.{run_bytes}
use Rattle.description_parts.specs.Described.{Described}
use Rattle.description_parts.specs.Ranges.{IsInRange}
use Rattle.description_parts.specs.Tables.{table_count, table_pid, section_count, section_lengths}
use Rattle.description.specs.SectionBytes.{table_bytes, counted_events}
use Rattle.description.specs.SubTables.{sub_table_of, program_number_by}
use Rattle.description.specs.Versions.{shown_version}
use Rattle.description.specs.declared.sub_table.SubTable.{SubTable}
use Rattle.description.specs.declared.sub_table.SubTable.TheVariants.{Events}
use Rattle.slot_plan.specs.declared.slot.Slot.TheVariants.{Table}
use Rattle.slot_plan.specs.Schedule.{slot_of}
use Rattle.table_rounds.specs.Parts.{places_of}
use Rattle.table_rounds.specs.Tables.{place_at, moment_before}
use Rattle.mux_core.specs.Scheduled.{Scheduled}
use Rattle.mux_core.specs.Histories.{TextsSoFar, FirstTexts, NextTexts, past_of, until_of, from_of, first_texts, bytes_over, table_of, table_over, content_at, content_over}
use Rattle.mux_core.specs.TextChanges.{ChangesFit, AreMade, events_table, events_moment}
use Rattle.mux_core.specs.Headline.{UnitsKept}

-- no table has this PID
abbrev pub IsOfNoTable : Described → ℕ → Type 0
IsOfNoTable d pid = (t : ℕ) → t < table_count d → table_pid d t ≢ pid

-- the packets of streams and of clock references are the same, in the same slots, whatever the texts
abbrev pub OthersUntouchedLaw : Type 0
OthersUntouchedLaw = (d : Scheduled) (changes : TextsSoFar) (units : ℕ → List AccessUnit) (slots pid : ℕ) → IsInRange d.description → UnitsKept d units →
    pid < 8191 → IsOfNoTable d.description pid →
    pid_list pid (run_bytes (content_over d changes units) 0 slots) ≡ pid_list pid (run_bytes (content_at d units) 0 slots)

-- so are the packets of a table that was on air from slot 0 on, and whose sections, at the moments of its rounds, are as they were
abbrev pub SameTableLaw : Type 0
SameTableLaw = (d : Scheduled) (changes : TextsSoFar) (units : ℕ → List AccessUnit) (slots t : ℕ) → IsInRange d.description → UnitsKept d units →
    t < table_count d.description →
    from_of (past_of changes) t ≡ None →
    ((b s j : ℕ) → bytes_over d.description changes t b j (moment_before (table_over d changes t) s)
    ≡ table_bytes d.description t j (moment_before (table_of d t) s)) →
    pid_list (table_pid d.description t) (run_bytes (content_over d changes units) 0 slots)
    ≡ pid_list (table_pid d.description t) (run_bytes (content_at d units) 0 slots)

-- each section, in whatever slot it begins, has places for all its parts
abbrev pub WholeSectionsLaw : Type 0
WholeSectionsLaw = (d : Scheduled) (changes : TextsSoFar) (slots t j s moment : ℕ) → IsInRange d.description → ChangesFit d.description slots changes →
    j < section_count d.description t →
    places_of (length (bytes_over d.description changes t s j moment)) ≤ places_of (slice_index_or (section_lengths d.description t) j 0)

-- ---- versions

-- a sub-table whose sections are the same at each moment: each one but the events of a program
abbrev pub is_timeless : SubTable → Bool
is_timeless (Events p) = false
is_timeless x = true

-- section j of table t begins in a slot
pub record SectionBegins (d : Scheduled) (t j slot : ℕ) : Type 0 where
  pub table : slot_of d.schedule slot ≡ Table t
  pub place : place_at (table_of d t) slot ≡ record { section = j; part = 0 }

-- the section as it is if it begins in this slot
abbrev pub section_at : Scheduled → TextsSoFar → ℕ → ℕ → ℕ → List ℕ
section_at d changes t j slot = (table_over d changes t).bytes slot j (moment_before (table_over d changes t) (suc slot))

-- how many changes come after a slot, up to another
abbrev pub changes_between : TextsSoFar → ℕ → ℕ → ℕ
changes_between (FirstTexts past) first last = 0
changes_between (NextTexts change earlier) first last =
    changes_between earlier first last + cond (nat_lt first change.from && nat_le change.from last) 1 0

-- a section of such a sub-table whose bytes differ from those that it had when it began in an earlier slot, since the description came on air, has another
-- version_number, however the texts changed in between, fewer than 32 times: a receiver that has a version has its bytes
abbrev pub VersionLaw : Type 0
VersionLaw = (d : Scheduled) (changes : TextsSoFar) (slots t j first last : ℕ) (x : SubTable) → IsInRange d.description →
    ChangesFit d.description slots changes → AreMade d changes → j < section_count d.description t → sub_table_of d.description t j ≡ Some x →
    is_timeless x ≡ true → SectionBegins d t j first → until_of (past_of changes) ≤ first → first ≤ last → changes_between changes first last < 32 →
    0 < length (section_at d changes t j first) → 0 < length (section_at d changes t j last) →
    shown_version (section_at d changes t j first) ≡ shown_version (section_at d changes t j last) →
    section_at d changes t j first ≡ section_at d changes t j last

-- ---- versions of events

-- the moment of a section that begins in a slot
abbrev pub round_moment : Scheduled → TextsSoFar → ℕ → ℕ → ℕ
round_moment d changes t slot = moment_before (table_over d changes t) (suc slot)

-- no round that is under way in these slots has an earlier moment than one before
abbrev pub MomentsRise : Scheduled → TextsSoFar → ℕ → ℕ → ℕ → Type 0
MomentsRise d changes t first last = (a b : ℕ) → first ≤ a → a ≤ b → b ≤ last → round_moment d changes t a ≤ round_moment d changes t b

-- the description, and the texts so far, have the events of each program
abbrev pub HaveEvents : Described → TextsSoFar → Type 0
HaveEvents d (FirstTexts past) = (d.has_eit ≡ true) × ((first_texts past d).has_eit ≡ true)
HaveEvents d (NextTexts change earlier) = (change.texts.has_eit ≡ true) × HaveEvents d earlier

-- how many events of a sub-table begin or end, by these texts, after a moment and up to another
abbrev pub edges_of : Described → SubTable → ℕ → ℕ → ℕ
edges_of e (Events p) from to =
    program_number_by (counted_events to) (slice_get e.programs p) - program_number_by (counted_events from) (slice_get e.programs p)
edges_of e x from to = 0

-- how many begin or end, by the texts in force, from the moment of slot `first` to that of slot `last`; a change comes at the moment of the round under way
abbrev pub edges_between : Scheduled → TextsSoFar → SubTable → ℕ → ℕ → ℕ → ℕ → ℕ
edges_between d (FirstTexts past) x first from last to = edges_of (first_texts past d.description) x from to
edges_between d (NextTexts change earlier) x first from last to = cond (nat_lt last change.from) (edges_between d earlier x first from last to)
    (cond (nat_lt first change.from)
    (edges_between d earlier x first from last (events_moment d earlier change.from) + edges_of change.texts x (events_moment d earlier change.from) to)
    (edges_of change.texts x from to))

-- so have the sections of the events of a program, if fewer than 32 times in between the texts changed or an event began or ended, and no round went back in
-- time
abbrev pub EventVersionLaw : Type 0
EventVersionLaw = (d : Scheduled) (changes : TextsSoFar) (slots t j first last p : ℕ) → IsInRange d.description → ChangesFit d.description slots changes →
    AreMade d changes → HaveEvents d.description changes → t ≡ events_table d.description → j < section_count d.description t →
    sub_table_of d.description t j ≡ Some (Events p) → SectionBegins d t j first → until_of (past_of changes) ≤ first → first ≤ last →
    MomentsRise d changes t first last →
    changes_between changes first last + edges_between d changes (Events p) first (round_moment d changes t first) last (round_moment d changes t last) < 32 →
    0 < length (section_at d changes t j first) → 0 < length (section_at d changes t j last) →
    shown_version (section_at d changes t j first) ≡ shown_version (section_at d changes t j last) →
    section_at d changes t j first ≡ section_at d changes t j last
