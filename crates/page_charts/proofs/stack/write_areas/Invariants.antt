use Rattle.std.proofs.Common.{◌≡◌, ◌++◌, drop, string_bytes}
use Rattle.page_curves.specs.Paths.{numbered}
use Rattle.page_charts.specs.Stacks.{area}
use Rattle.page_charts.proofs.stack.write_areas.Given as goal

abbrev pub invariant-loop-number : goal.invariant-loop-number
invariant-loop-number l = string_bytes l.text ++ numbered (area l.frame) l.number (drop l.number l.curves) ≡ string_bytes l.fn.text
    ++ numbered (area l.frame) 0 l.curves
