-- The state of each PID during one pass over the findings.
use Rattle.std.specs.Prelude.{◌≡◌, ◌<◌, ℕ, ◌+◌, Bool, true, false, is_some, if◌then◌else◌, List, [], ◌∷◌, length, slice_index, slice_index_or, slice_set}
use Rattle.std.specs.Prelude.{Option, Some, None}
use Rattle.pid_findings.specs.Views.{FindingView}
use Rattle.other_tables.specs.declared.kinds.TableKind.{TableKind}
use Rattle.other_tables.specs.declared.tables.OtherTable.{OtherTable}
use Rattle.other_tables.specs.OtherTables.{is_found, kind_at, section_count}

-- the PID of a section that no job is made of
unfoldable pub table_pid : FindingView → Option ℕ
table_pid finding = if is_some (kind_at finding.what) then finding.pid else None

-- for each of 65,536 numbers that a PID may have, how many such sections it has among these
pub record AreCounts (counts : List ℕ) (findings : List FindingView) : Type 0 where
  pub size : length counts ≡ 65_536
  pub each : (pid : ℕ) → pid < 65_536 → slice_index counts pid ≡ section_count pid findings

-- one more on a PID
unfoldable pub counted_on : List ℕ → Option ℕ → List ℕ
counted_on counts None = counts
counted_on counts (Some pid) = slice_set counts pid (slice_index counts pid + 1)

abbrev pub counted_with : List ℕ → FindingView → List ℕ
counted_with counts finding = counted_on counts (table_pid finding)

-- whether a table on it is found
pub record AreSeen (seen : List Bool) (found : List OtherTable) : Type 0 where
  pub size : length seen ≡ 65_536
  pub each : (pid : ℕ) → pid < 65_536 → slice_index_or seen pid false ≡ is_found found pid

-- a table with the count of its PID, unless one is found on it
unfoldable pub table_of : List ℕ → List Bool → Option TableKind → Option ℕ → List OtherTable
table_of counts seen None pid = []
table_of counts seen (Some kind) None = []
table_of counts seen (Some kind) (Some pid) =
    if slice_index_or seen pid false then [] else record { pid = pid; kind = kind; count = slice_index counts pid } ∷ []

unfoldable pub table_with : List ℕ → List Bool → FindingView → List OtherTable
table_with counts seen finding = table_of counts seen (kind_at finding.what) finding.pid

-- one is found on its PID
unfoldable pub seen_on : List Bool → Option ℕ → List Bool
seen_on seen None = seen
seen_on seen (Some pid) = slice_set seen pid true

abbrev pub seen_with : List Bool → FindingView → List Bool
seen_with seen finding = seen_on seen (table_pid finding)
