use Rattle.std.proofs.Common.{◌≡◌, drop}
use Rattle.description_parts.specs.Tables.{table_kinds}
use Rattle.description_parts.specs.Consistency.{first_place, is_too_long}
use Rattle.description_parts.proofs.contents.Contents.first_too_long.Given as goal

abbrev pub invariant-loop-table : goal.invariant-loop-table
invariant-loop-table l = first_place (is_too_long l.self) 0 (table_kinds l.self) ≡ first_place (is_too_long l.self) l.table (drop l.table (table_kinds l.self))
