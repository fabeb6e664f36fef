use Rattle.std.proofs.Common.{arith}
use Rattle.tsair_cli.proofs.Unframing.{all_taken, none_yet, one_more}
use Rattle.tsair_cli.proofs.frame_feed.FrameFeed.take_all.Goals as goal

pub take-requires : goal.take-requires
take-requires c = c.loop-byte.invariant.is_open

pub loop-byte-init : goal.loop-byte-init
loop-byte-init c = none_yet c.args.self.now c.args.bytes.now c.requires

pub loop-byte-preserved : goal.loop-byte-preserved
loop-byte-preserved c =
    one_more c.args.self.now c.loop-byte.self c.take.new.self c.args.bytes.now c.loop-byte.byte-index c.loop-byte-test.true c.loop-byte.invariant
    c.in-Ok.ensures.takes

pub returns-clause-takes : goal.returns-clause-takes
returns-clause-takes c =
    all_taken c.args.self.now c.loop-byte.self c.args.bytes.now c.loop-byte.byte-index (omega (arith, c.loop-byte-test.false)) c.loop-byte.invariant
