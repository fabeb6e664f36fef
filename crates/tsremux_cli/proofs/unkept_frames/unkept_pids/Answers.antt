use Rattle.tsremux_cli.proofs.UnkeptFrames.{unkept_all, unkept_more}
use Rattle.tsremux_cli.proofs.unkept_frames.unkept_pids.Goals as goal

pub loop-number-preserved : goal.loop-number-preserved
loop-number-preserved c =
    unkept_more c.args.units.now c.args.streams.now c.loop-number.number c.index-streams-number.result c.loop-number.pids.items c.push_unkept.new.pids.items _
    c.loop-number-test.true c.index-streams-number.is c.in_ok-push_unkept.ensures c.loop-number.invariant

pub returns : goal.returns
returns c = unkept_all c.args.units.now c.args.streams.now c.loop-number.number c.loop-number.pids.items _ c.loop-number-test.false c.loop-number.invariant
