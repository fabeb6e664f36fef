use Rattle.std.proofs.Common.{◌≡◌, ◌++◌, drop, string_bytes}
use Rattle.page_curves.specs.Paths.{numbered}
use Rattle.page_charts.specs.Strips.{part}
use Rattle.page_charts.proofs.strip.write_parts.Given as goal

abbrev pub invariant-loop-slot : goal.invariant-loop-slot
invariant-loop-slot l = string_bytes l.text ++ numbered (part l.frame l.level l.entry) l.slot (drop l.slot l.slots) ≡ string_bytes l.fn.text
    ++ numbered (part l.frame l.level l.entry) 0 l.slots
