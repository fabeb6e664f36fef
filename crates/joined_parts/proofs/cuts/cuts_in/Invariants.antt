use Rattle.std.proofs.Common.{◌≡◌, [], length}
use Rattle.joined_parts.specs.Cuts.{cuts_after}
use Rattle.joined_parts.proofs.cuts.cuts_in.Given as goal

abbrev pub invariant-loop-first : goal.invariant-loop-first
invariant-loop-first l = cuts_after [] [] l.references ≡ cuts_after l.last l.cuts.items l.later

abbrev pub decreases-loop-first : goal.decreases-loop-first
decreases-loop-first l = length l.later
