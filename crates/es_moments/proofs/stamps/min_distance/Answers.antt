use Rattle.std.proofs.Common.{◌≡◌, ◌∙◌, ◌+◌, ℕ, sym, min, ap, get_or, drop, refl, arith}
use Rattle.es_moments.specs.Stamps.{min_distance, distance}
use Rattle.es_moments.proofs.UnitCounts.{after_more, after_end}
use Rattle.es_moments.proofs.stamps.min_distance.Goals as goal

pub loop-stamp-preserved : goal.loop-stamp-preserved
loop-stamp-preserved c =
    let stamp = get_or c.args.stamps.now c.loop-stamp.stamp-index 0 in
    let less : c.min-least.result ≡ min c.loop-stamp.least (distance c.args.from stamp) =
    c.min-least.ensures ∙ ap (min c.loop-stamp.least) c.distance.ensures.value in
    record {
      least = c.loop-stamp.invariant.least
          ∙ after_more c.args.from c.loop-stamp.least c.loop-stamp.stamp-index stamp c.args.stamps.now c.loop-stamp-test.true refl
          ∙ ap (λ (n : ℕ). min_distance c.args.from n (drop (c.loop-stamp.stamp-index + 1) c.args.stamps.now)) (sym less);
      bound = omega (arith, c.loop-stamp.invariant.bound, less);
    }

pub returns-clause-value : goal.returns-clause-value
returns-clause-value c =
    sym (c.loop-stamp.invariant.least ∙ after_end c.args.from c.loop-stamp.least c.loop-stamp.stamp-index c.args.stamps.now c.loop-stamp-test.false)
