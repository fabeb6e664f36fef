use Rattle.std.proofs.Common.{◌≡◌, ◌++◌, drop, string_bytes}
use Rattle.page_curves.specs.Paths.{numbered, over}
use Rattle.page_curves.proofs.paths.write_overs.Given as goal

abbrev pub invariant-loop-slot : goal.invariant-loop-slot
invariant-loop-slot l = string_bytes l.text ++ numbered (over l.frame l.limit l.span) l.slot (drop l.slot l.slots) ≡ string_bytes l.fn.text
    ++ numbered (over l.frame l.limit l.span) 0 l.slots
