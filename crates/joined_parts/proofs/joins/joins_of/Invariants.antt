use Rattle.std.proofs.Common.{◌≡◌, [], length}
use Rattle.joined_parts.specs.Joins.{joins_after}
use Rattle.joined_parts.proofs.joins.joins_of.Given as goal

abbrev pub invariant-loop-first : goal.invariant-loop-first
invariant-loop-first l = joins_after l.stamps [] l.cuts ≡ joins_after l.stamps l.joins.items l.later

abbrev pub decreases-loop-first : goal.decreases-loop-first
decreases-loop-first l = length l.later
