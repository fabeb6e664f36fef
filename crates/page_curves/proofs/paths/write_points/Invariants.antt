use Rattle.std.proofs.Common.{◌≡◌, ◌++◌, drop, string_bytes}
use Rattle.page_curves.specs.Paths.{numbered, point}
use Rattle.page_curves.proofs.paths.write_points.Given as goal

abbrev pub invariant-loop-slot : goal.invariant-loop-slot
invariant-loop-slot l = string_bytes l.text ++ numbered (point l.frame l.span) l.slot (drop l.slot l.slots) ≡ string_bytes l.fn.text
    ++ numbered (point l.frame l.span) 0 l.slots
