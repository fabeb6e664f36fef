use Rattle.std.proofs.Common.{◌≡◌, false}
use Rattle.packet_sync.specs.NoStreams.{five_within}
use Rattle.packet_sync.proofs.five_search.has_five.Given as goal

abbrev pub invariant-loop-at : goal.invariant-loop-at
invariant-loop-at l = five_within l.at l.bytes ≡ false
