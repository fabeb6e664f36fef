use Rattle.std.proofs.Common.{◌≡◌, ◌-◌, max, drop, get_or, arith, rules}
use Rattle.es_moments.proofs.MadeDts.{ahead_more, ahead_end, ahead_short}
use Rattle.es_moments.proofs.dts_from_pts.max_ahead.Goals as goal

pub returns-in_default : goal.returns-in_default
returns-in_default c =
    let none = ahead_short c.loop-moment.later.now (drop c.loop-moment.moment-index c.args.moments.now) c.in_default.ensures.cases in
    omega (arith, c.loop-moment.invariant, none)

pub loop-moment-preserved : goal.loop-moment-preserved
loop-moment-preserved c =
    let step = ahead_more c.loop-moment.moment-index c.in-Some.first.now c.loop-moment.later.now c.in-Some.rest.now c.args.moments.now c.loop-moment-test.true
    c.in-Some.ensures.cases.0 in
    let made : c.max-greatest.result ≡ max c.loop-moment.greatest (c.in-Some.first.now - get_or c.args.moments.now c.loop-moment.moment-index 0) =
    search rules in
    omega (arith, c.loop-moment.invariant, step, made)

pub returns : goal.returns
returns c =
    let none = ahead_end c.loop-moment.moment-index c.loop-moment.later.now c.args.moments.now c.loop-moment-test.false in
    omega (arith, c.loop-moment.invariant, none)
