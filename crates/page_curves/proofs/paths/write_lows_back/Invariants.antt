use Rattle.std.proofs.Common.{◌≡◌, ◌++◌, ◌-◌, drop, length, string_bytes}
use Rattle.page_curves.specs.Paths.{low, numbered_back}
use Rattle.page_curves.proofs.paths.write_lows_back.Given as goal

abbrev pub invariant-loop-back : goal.invariant-loop-back
invariant-loop-back l = string_bytes l.text ≡ string_bytes l.fn.text
    ++ numbered_back (low l.frame l.span) (length l.slots - l.back) (drop (length l.slots - l.back) l.slots)
