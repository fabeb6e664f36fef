use Rattle.std.proofs.Common.{◌≡◌, arith}
use Rattle.std.proofs.lemmas.Result.{err_from_is_err_and}
use Rattle.stream_jobs.specs.Rates.{IsTriedFrom, IsUnserved}
use Rattle.stream_jobs.specs.WhyNoJob.{IsWhyNotReadAtOne}
use Rattle.stream_jobs.proofs.TriedRates.{all_over, all_spent, none_passed, one_passed, tried_after}
use Rattle.stream_jobs.proofs.rates.plan_from.Goals as goal

pub loop-tried-init : goal.loop-tried-init
loop-tried-init c =
    none_passed (IsUnserved c.args.draft.now.options.now c.args.draft.now.input.now) c.args.first

pub returns-then-rate-gt-GREATEST_RATE-clause-none : goal.returns-then-rate-gt-GREATEST_RATE-clause-none
returns-then-rate-gt-GREATEST_RATE-clause-none c =
    let unserved = IsUnserved c.args.draft.now.options.now c.args.draft.now.input.now in
    all_over unserved c.loop-tried.tried c.args.first c.loop-tried.rate c.loop-tried.invariant c.if-rate-gt-GREATEST_RATE.true

pub returns-in-Some-clause-tried : goal.returns-in-Some-clause-tried
returns-in-Some-clause-tried c =
    let same : c.in-Some.planned.rate ≡ c.loop-tried.rate = rw c.in-Some.is at c.in_ok-planned.ensures.rate in
    rw same (tried_after c.args.draft.now.options.now c.args.draft.now.input.now
    c.loop-tried.tried c.args.first c.loop-tried.rate c.loop-tried.invariant c.loop-tried-test.true (omega (arith, c.if-rate-gt-GREATEST_RATE.false)))

pub loop-tried-preserved : goal.loop-tried-preserved
loop-tried-preserved c =
    let unserved = IsUnserved c.args.draft.now.options.now c.args.draft.now.input.now in
    let fails : unserved c.loop-tried.rate = rw c.in_default.is at c.in_ok-planned.ensures.none in
    rw c.next_rate-rate.ensures (one_passed unserved c.loop-tried.tried c.args.first c.loop-tried.rate c.loop-tried.invariant c.loop-tried-test.true
    (omega (arith, c.if-rate-gt-GREATEST_RATE.false)) fails)

pub returns-clause-none : goal.returns-clause-none
returns-clause-none c =
    let unserved = IsUnserved c.args.draft.now.options.now c.args.draft.now.input.now in
    all_spent unserved c.loop-tried.tried c.args.first c.loop-tried.rate c.loop-tried.invariant (omega (arith, c.loop-tried-test.false))

pub returns-in_err-planned-clause-refused : goal.returns-in_err-planned-clause-refused
returns-in_err-planned-clause-refused c =
    let w = c.args.draft.now.options.now in
    let m = c.args.draft.now.input.now in
    let refused : IsWhyNotReadAtOne (IsTriedFrom w m c.args.first) w m c.in_err-planned.field-0.0 = record {
      rate = c.loop-tried.rate;
      is_read = tried_after w m c.loop-tried.tried c.args.first c.loop-tried.rate c.loop-tried.invariant c.loop-tried-test.true
          (omega (arith, c.if-rate-gt-GREATEST_RATE.false));
      unread = c.in_err-planned.ensures.refused;
    } in
    let p = err_from_is_err_and c.from_residual.result c.from_residual.ensures.1 in
    rw (p.1, p.2) refused
