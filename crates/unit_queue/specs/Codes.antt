-- The numbers of the refusals.
use Rattle.std.specs.Prelude.{ℕ}
use Rattle.unit_queue.specs.declared.refusal.FeedError.{FeedError}
use Rattle.unit_queue.specs.declared.refusal.FeedError.TheVariants.{UnknownStream, Empty, TooLarge, TooSoon, BadPts, Late, TooFar, Full, Group, Pace, OffAir}

-- the number of a refused unit
abbrev pub feed_code : FeedError → ℕ
feed_code UnknownStream = 1
feed_code Empty = 2
feed_code TooLarge = 3
feed_code TooSoon = 4
feed_code BadPts = 5
feed_code Late = 6
feed_code TooFar = 7
feed_code Full = 8
feed_code Group = 9
feed_code Pace = 10
feed_code OffAir = 13
