use Rattle.std.proofs.Common.{◌≡◌, ◌∙◌, ◌==◌, sym, true, false, rules}
use Rattle.stream_programs.proofs.PidHolders.{holder_other, holder_here, holder_end}
use Rattle.stream_programs.proofs.streams.holder.Goals as goal

pub loop-stream-preserved : goal.loop-stream-preserved
loop-stream-preserved g c =
    let other : (c.stream-item.result.pid == c.args.pid) ≡ false = search rules in
    c.loop-stream.invariant
    ∙ holder_other c.args.pid c.loop-stream.stream-index c.args.streams.now c.stream-item.result c.loop-stream-test.true c.stream-item.is other

pub returns-then-stream-pid : goal.returns-then-stream-pid
returns-then-stream-pid g c =
    let own : (c.stream-item.result.pid == c.args.pid) ≡ true = search rules in
    let same : c.stream.inside.program ≡ c.stream-item.result.program = search rules in
    rw same (sym (c.loop-stream.invariant
    ∙ holder_here c.args.pid c.loop-stream.stream-index c.args.streams.now c.stream-item.result c.loop-stream-test.true c.stream-item.is own))

pub returns : goal.returns
returns g c = sym (c.loop-stream.invariant ∙ holder_end c.args.pid c.loop-stream.stream-index c.args.streams.now c.loop-stream-test.false)
