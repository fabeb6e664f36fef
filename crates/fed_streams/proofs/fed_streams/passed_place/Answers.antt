use Rattle.std.proofs.Common.{◌∙◌, sym, true, false}
use Rattle.fed_streams.proofs.FedTicks.{passed_at, passed_end}
use Rattle.fed_streams.proofs.fed_streams.passed_place.Goals as goal

pub returns-then-is_passed-clause-value : goal.returns-then-is_passed-clause-value
returns-then-is_passed-clause-value c =
    sym (c.loop-k.invariant ∙ passed_at c.args.origin c.args.late c.loop-k.k c.args.streams.now c.index-streams-k.result c.is_passed.result true
    c.loop-k-test.true c.index-streams-k.is c.is_passed.ensures c.if-is_passed.true)

pub loop-k-preserved : goal.loop-k-preserved
loop-k-preserved c =
    c.loop-k.invariant ∙ passed_at c.args.origin c.args.late c.loop-k.k c.args.streams.now c.index-streams-k.result c.is_passed.result false
    c.loop-k-test.true c.index-streams-k.is c.is_passed.ensures c.if-is_passed.false

pub returns-clause-value : goal.returns-clause-value
returns-clause-value c = sym (c.loop-k.invariant ∙ passed_end c.args.origin c.args.late c.loop-k.k c.args.streams.now c.loop-k-test.false)
