use Rattle.std.proofs.Common.{◌≡◌, ◌∙◌, ◌++◌, ◌∷◌, [], ℕ, List, ◌+◌, drop, get_or, ap, ap₂, sym, refl, arith, rules}
use Rattle.es_moments.specs.MadeDts.{nearest, moments_after}
use Rattle.es_moments.proofs.MadeDts.{moments_more, moments_end}
use Rattle.es_moments.proofs.moments.moments_of.Goals as goal

pub loop-at-preserved : goal.loop-at-preserved
loop-at-preserved g c =
    let stamp = get_or c.args.stamps.now c.loop-at.at 0 in
    let value : c.nearest-last.result ≡ nearest c.loop-at.last stamp = c.nearest-last.ensures.value in
    let pushed : c.push.new.self.items ≡ c.loop-at.moments.items ++ c.nearest-last.result ∷ [] = search rules in
    let items = pushed ∙ ap (λ (n : ℕ). c.loop-at.moments.items ++ n ∷ []) value in
    record {
      made = c.loop-at.invariant.made
          ∙ moments_more c.loop-at.last c.loop-at.at stamp c.args.stamps.now c.loop-at.moments.items c.loop-at-test.true refl
          ∙ ap₂ (λ (l : List ℕ) (n : ℕ). l ++ moments_after n (drop (c.loop-at.at + 1) c.args.stamps.now)) (sym items) (sym value);
      low = omega (arith, c.loop-at.invariant.low, c.nearest-last.ensures.low);
      high = omega (arith, c.loop-at.invariant.high, c.nearest-last.ensures.high);
    }

pub returns : goal.returns
returns g c = sym (c.loop-at.invariant.made ∙ moments_end c.loop-at.last c.loop-at.at c.args.stamps.now c.loop-at.moments.items c.loop-at-test.false)
