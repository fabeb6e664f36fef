use Rattle.std.proofs.Common.{◌≡◌, ◌++◌, drop, string_bytes}
use Rattle.page_curves.specs.Paths.{numbered}
use Rattle.page_charts.specs.Stacks.{key}
use Rattle.page_charts.proofs.stack.write_each_key.Given as goal

abbrev pub invariant-loop-number : goal.invariant-loop-number
invariant-loop-number l = string_bytes l.text ++ numbered (key l.labels) l.number (drop l.number l.curves) ≡ string_bytes l.fn.text
    ++ numbered (key l.labels) 0 l.curves
