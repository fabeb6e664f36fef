-- The version_number of each sub-table if texts follow others: it rises by one if what the sub-table says changes and a receiver may have the version
-- that it had (ISO/IEC 13818-1, 2.4.4.5: version_number; EN 300 468, 5.1.1).
use Rattle.std.specs.Prelude.{◌≡◌, ◌≢◌, ℕ, ◌+◌, ◌-◌, ◌%◌, ◌||◌, ◌<◌, not, Bool, true, false, Some, fold, if◌then◌else◌, IsTrue}
use Rattle.std.specs.List.{range_with_len}
use Rattle.description_parts.specs.Described.{Described}
use Rattle.description_parts.specs.Ranges.{IsInRange}
use Rattle.description_parts.specs.Tables.{section_count}
use Rattle.description.specs.SectionBytes.{table_bytes}
use Rattle.description.specs.SubTables.{sub_table_count, sub_table_number, numbered_sub_table, sub_table_of, number_of, version_of, count_of, with_count}
use Rattle.description.specs.SubTables.{shows_same}
use Rattle.description.specs.Versions.{without_versions}
use Rattle.description.specs.declared.sub_table.SubTable.{SubTable}
use Rattle.changed_texts.specs.TextFaults.{IsTextOf}

-- the number in the new texts with which their sections show, at a moment, the version that the old ones show there
abbrev pub kept_count : Described → Described → SubTable → ℕ → ℕ
kept_count old new x moment = (version_of old x moment + count_of new x + 32 - version_of new x moment) % 32

-- a sub-table says what it said, or no section with its version was sent
abbrev pub keeps_version : Described → Described → SubTable → ℕ → (ℕ → Bool) → Bool
keeps_version old new x moment sent = shows_same old new x moment || not (sent (sub_table_number x))

abbrev pub next_count : Described → Described → SubTable → ℕ → (ℕ → Bool) → ℕ
next_count old new x moment sent =
    if keeps_version old new x moment sent then kept_count old new x moment else (kept_count old new x moment + 1) % 32

-- the version that the sub-table has next
abbrev pub next_version : Described → Described → SubTable → ℕ → (ℕ → Bool) → ℕ
next_version old new x moment sent = if keeps_version old new x moment sent then version_of old x moment else (version_of old x moment + 1) % 32

-- the new texts with a number of each sub-table
abbrev pub with_count_at : (ℕ → ℕ) → Described → ℕ → Described
with_count_at count d n = with_count d (numbered_sub_table n) (count n)

unfoldable pub with_counts : Described → (ℕ → ℕ) → Described
with_counts d count = fold (with_count_at count) d (range_with_len 0 sub_table_count)

-- and with the next number of each
abbrev pub next_texts : Described → Described → ℕ → (ℕ → Bool) → Described
next_texts old new moment sent = with_counts new (λ n. next_count old new (numbered_sub_table n) moment sent)

-- what a sub-table says changes at a moment, by its number
abbrev pub changed : Described → Described → ℕ → ℕ → Bool
changed old new moment n = not (shows_same old new (numbered_sub_table n) moment)

-- the version that a sub-table of the new texts shows: the old one if it says what it said, or if no section was sent with the old one; else one more
abbrev pub NextVersionLaw : Type 0
NextVersionLaw = (old new : Described) (t section : ℕ) (x : SubTable) (moment : ℕ) (sent : ℕ → Bool) → IsInRange old → IsInRange new →
    section < section_count new t → sub_table_of new t section ≡ Some x → version_of (next_texts old new moment sent) x moment ≡ next_version old new x moment sent

-- one that changed, and whose version was sent, shows another version
abbrev pub RisesLaw : Type 0
RisesLaw = (old new : Described) (t section : ℕ) (x : SubTable) (moment : ℕ) (sent : ℕ → Bool) → IsInRange old → IsInRange new →
    section < section_count new t → sub_table_of new t section ≡ Some x → shows_same old new x moment ≡ false → sent (sub_table_number x) ≡ true →
    version_of (next_texts old new moment sent) x moment ≢ version_of old x moment

-- one that did not change has the same bytes
abbrev pub StaysLaw : Type 0
StaysLaw = (old new : Described) (t section : ℕ) (x : SubTable) (moment : ℕ) (sent : ℕ → Bool) → IsInRange old → IsInRange new →
    section < section_count old t → section < section_count new t → sub_table_of old t section ≡ Some x → sub_table_of new t section ≡ Some x →
    number_of old t section ≡ number_of new t section → IsTrue (shows_same old new x moment) →
    table_bytes old t section moment ≡ table_bytes (next_texts old new moment sent) t section moment

-- the numbers are all that the next texts have otherwise than the new ones: they are in range, and texts of the frame
abbrev pub SameTextsLaw : Type 0
SameTextsLaw = (old new : Described) (moment : ℕ) (sent : ℕ → Bool) → without_versions (next_texts old new moment sent) ≡ without_versions new

abbrev pub NextRangeLaw : Type 0
NextRangeLaw = (old new : Described) (moment : ℕ) (sent : ℕ → Bool) → IsInRange new → IsInRange (next_texts old new moment sent)

abbrev pub NextTextLaw : Type 0
NextTextLaw = (frame old new : Described) (moment : ℕ) (sent : ℕ → Bool) → IsTextOf frame new → IsTextOf frame (next_texts old new moment sent)
