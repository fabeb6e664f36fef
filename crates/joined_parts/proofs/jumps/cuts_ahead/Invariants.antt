use Rattle.std.proofs.Common.{◌≡◌, [], length}
use Rattle.joined_parts.specs.JumpsAhead.{ahead_after}
use Rattle.joined_parts.proofs.jumps.cuts_ahead.Given as goal

abbrev pub invariant-loop-first : goal.invariant-loop-first
invariant-loop-first l = ahead_after l.stamps [] [] l.cuts ≡ ahead_after l.stamps l.done.items l.ahead.items l.later

abbrev pub decreases-loop-first : goal.decreases-loop-first
decreases-loop-first l = length l.later
