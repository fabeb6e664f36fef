use Rattle.tsair_cli.proofs.Unframing.{Midway}
use Rattle.tsair_cli.proofs.frame_feed.FrameFeed.take_all.Given as goal

abbrev pub invariant-loop-byte : goal.invariant-loop-byte
invariant-loop-byte l = Midway l.fn.self l.self l.bytes l.byte-index
