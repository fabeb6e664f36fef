-- The PIDs with tables that no job is made of.
use Rattle.std.specs.Prelude.{ℕ, ◌+◌, ◌==◌, ◌&&◌, Bool, is_some, if◌then◌else◌, List, [], ◌∷◌, ◌++◌, Option, Some, None}
use Rattle.std.specs.List.{list_any}
use Rattle.pid_findings.specs.Views.{WhatView, IsSection, FindingView}
use Rattle.demux.specs.Laws.{has_pid}
use Rattle.other_tables.specs.declared.kinds.TableKind.{TableKind}
use Rattle.other_tables.specs.declared.tables.OtherTable.{OtherTable}
use Rattle.other_tables.specs.TableKinds.{kind_of}

-- the kind of table of a section, if no job takes that table
unfoldable pub kind_at : WhatView → Option TableKind
kind_at (IsSection []) = None
kind_at (IsSection (table_id ∷ bytes)) = kind_of table_id
kind_at _ = None

-- the number of such sections of a PID
unfoldable pub section_number : ℕ → FindingView → ℕ
section_number pid finding = if has_pid pid finding.pid && is_some (kind_at finding.what) then 1 else 0

unfoldable pub section_count : ℕ → List FindingView → ℕ
section_count pid [] = 0
section_count pid (finding ∷ findings) = section_number pid finding + section_count pid findings

abbrev pub is_found : List OtherTable → ℕ → Bool
is_found found pid = list_any (λ t. t.pid == pid) found

-- a table with all sections of its PID, unless it is found already
unfoldable pub table_on : List FindingView → List OtherTable → Option TableKind → Option ℕ → List OtherTable
table_on all found None pid = []
table_on all found (Some kind) None = []
table_on all found (Some kind) (Some pid) = if is_found found pid then [] else record { pid = pid; kind = kind; count = section_count pid all } ∷ []

unfoldable pub table_at : List FindingView → List OtherTable → FindingView → List OtherTable
table_at all found finding = table_on all found (kind_at finding.what) finding.pid

-- the tables of all findings in order, each PID once
unfoldable pub tables_from : List FindingView → List OtherTable → List FindingView → List OtherTable
tables_from all found [] = found
tables_from all found (finding ∷ findings) = tables_from all (found ++ table_at all found finding) findings

unfoldable pub other_tables : List FindingView → List OtherTable
other_tables findings = tables_from findings [] findings
