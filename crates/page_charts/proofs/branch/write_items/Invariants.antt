use Rattle.std.proofs.Common.{◌≡◌, ◌++◌, string_bytes}
use Rattle.std.specs.Prelude.{flat_map}
use Rattle.page_charts.specs.Branches.{item_if}
use Rattle.page_charts.proofs.branch.write_items.Given as goal

abbrev pub invariant-loop-pid : goal.invariant-loop-pid
invariant-loop-pid l = string_bytes l.text ++ flat_map (item_if l.labels l.program) l.pid-iterator ≡ string_bytes l.fn.text
    ++ flat_map (item_if l.labels l.program) l.labels.names
