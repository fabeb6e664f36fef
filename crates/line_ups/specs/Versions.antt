-- The version of each sub-table of a line-up that takes the place of another: a sub-table that was on air goes on from its version, and has the next one if
-- what it says changes and a section with its version was sent (ISO/IEC 13818-1, 2.4.4.5: version_number; EN 300 468, 5.1.1). Sub-tables are known by their
-- programs' numbers; one that was not on air has the version that the description gives.
use Rattle.std.specs.Prelude.{◌≡◌, ℕ, ◌<◌, ◌+◌, ◌-◌, ◌%◌, ◌||◌, not, Bool, Option, None, Some, option_map, if◌then◌else◌}
use Rattle.description_parts.specs.Described.{Described}
use Rattle.description_parts.specs.Ranges.{IsInRange}
use Rattle.description_parts.specs.Tables.{section_count}
use Rattle.description.specs.SubTables.{numbered_sub_table, sub_table_number, sub_table_of, says_same, version_of, count_of}
use Rattle.description.specs.Versions.{without_versions}
use Rattle.description.specs.declared.sub_table.SubTable.{SubTable}
use Rattle.description.specs.declared.sub_table.SubTable.TheVariants.{Pat, Nit, Sdt, Map, Events}
use Rattle.changed_texts.specs.TextFaults.{IsTextOf}
use Rattle.changed_texts.specs.Versions.{with_counts}
use Rattle.line_ups.specs.Kept.{program_before}

-- the sub-table that it was
abbrev pub sub_table_before : Described → Described → SubTable → Option SubTable
sub_table_before old new Pat = Some Pat
sub_table_before old new Nit = Some Nit
sub_table_before old new Sdt = Some Sdt
sub_table_before old new (Map j) = option_map Map (program_before old new j)
sub_table_before old new (Events j) = option_map Events (program_before old new j)

-- the new sub-table says what the old one says at a moment, or no section with its version was sent
abbrev pub keeps_version : Described → SubTable → Described → SubTable → ℕ → (ℕ → Bool) → Bool
keeps_version old x new y moment sent = says_same old x new y moment || not (sent (sub_table_number x))

-- the number with which the new sub-table shows, at a moment, the version that the old one shows there, and the one after it
abbrev pub followed_count : Described → SubTable → Described → SubTable → ℕ → ℕ
followed_count old x new y moment = (version_of old x moment + count_of new y + 32 - version_of new y moment) % 32

abbrev pub follows : Described → SubTable → Described → SubTable → ℕ → (ℕ → Bool) → ℕ
follows old x new y moment sent =
    if keeps_version old x new y moment sent then followed_count old x new y moment else (followed_count old x new y moment + 1) % 32

abbrev pub count_after : Described → Described → ℕ → (ℕ → Bool) → SubTable → ℕ
count_after old new moment sent y = elim (sub_table_before old new y) [ None ↦ count_of new y | Some x ↦ follows old x new y moment sent ]

-- the new description with these versions
abbrev pub follow_versions : Described → Described → ℕ → (ℕ → Bool) → Described
follow_versions old new moment sent = with_counts new (λ n. count_after old new moment sent (numbered_sub_table n))

-- versions are all that it has otherwise than the new description: it is in range
abbrev pub SameFollowedLaw : Type 0
SameFollowedLaw = (old new : Described) (moment : ℕ) (sent : ℕ → Bool) → without_versions (follow_versions old new moment sent) ≡ without_versions new

abbrev pub FollowedRangeLaw : Type 0
FollowedRangeLaw = (old new : Described) (moment : ℕ) (sent : ℕ → Bool) → IsInRange new → IsInRange (follow_versions old new moment sent)

-- and it has only other texts than a frame, if the new description has
abbrev pub FollowedTextLaw : Type 0
FollowedTextLaw = (frame old new : Described) (moment : ℕ) (sent : ℕ → Bool) → IsTextOf frame new → IsTextOf frame (follow_versions old new moment sent)

-- the version that a sub-table shows at the moment: that of the sub-table that it was, or the next one; that of the description if it was not on air
abbrev pub version_after : Described → Described → ℕ → (ℕ → Bool) → SubTable → ℕ
version_after old new moment sent y = elim (sub_table_before old new y) [
  | None ↦ version_of new y moment
  | Some x ↦ if keeps_version old x new y moment sent then version_of old x moment else (version_of old x moment + 1) % 32
]

abbrev pub FollowedVersionLaw : Type 0
FollowedVersionLaw = (old new : Described) (t section : ℕ) (y : SubTable) (moment : ℕ) (sent : ℕ → Bool) → IsInRange old → IsInRange new →
    section < section_count new t → sub_table_of new t section ≡ Some y →
    version_of (follow_versions old new moment sent) y moment ≡ version_after old new moment sent y
