use Rattle.std.proofs.Common.{◌≡◌, ◌++◌, drop, string_bytes}
use Rattle.page_curves.specs.Paths.{numbered}
use Rattle.page_charts.specs.StripTables.{group_if}
use Rattle.page_charts.proofs.strip_table.write_groups.Given as goal

abbrev pub invariant-loop-number : goal.invariant-loop-number
invariant-loop-number l = string_bytes l.text ++ numbered (group_if l.frame l.labels l.transports l.mains) l.number (drop l.number l.transports) ≡ string_bytes
    l.fn.text ++ numbered (group_if l.frame l.labels l.transports l.mains) 0 l.transports
