use Rattle.std.proofs.Common.{◌≡◌, ◌++◌, drop, map}
use Rattle.joined_parts.specs.declared.gap_search.ClockGap.TheVariants.{Hole}
use Rattle.joined_parts.proofs.gap_search.push_holes.Given as goal

abbrev pub invariant-loop-hole : goal.invariant-loop-hole
invariant-loop-hole l = l.gaps.items ++ map Hole (drop l.hole-index l.holes) ≡ l.fn.gaps.items ++ map Hole l.fn.holes
