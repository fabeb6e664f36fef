use Rattle.std.proofs.Common.{◌≡◌, ◌∙◌, ◌+◌, drop, false, sym, true, rules}
use Rattle.es_moments.specs.ApartUnits.{is_same_next}
use Rattle.es_moments.proofs.ApartUnits.{same_here, same_later, same_none}
use Rattle.es_moments.proofs.apart.has_same.Goals as goal

pub loop-at-preserved : goal.loop-at-preserved
loop-at-preserved g c =
    let u = c.index-found-at.result in
    let other : is_same_next u (drop (c.loop-at.at + 1) c.args.found.now) ≡ false = search rules in
    c.loop-at.invariant ∙ same_later c.loop-at.at c.args.found.now u c.loop-at-test.true c.index-found-at.is other

pub returns-then-is_same_at : goal.returns-then-is_same_at
returns-then-is_same_at g c =
    let u = c.index-found-at.result in
    let same : is_same_next u (drop (c.loop-at.at + 1) c.args.found.now) ≡ true = search rules in
    sym (c.loop-at.invariant ∙ same_here c.loop-at.at c.args.found.now u c.loop-at-test.true c.index-found-at.is same)

pub returns : goal.returns
returns g c = sym (c.loop-at.invariant ∙ same_none c.loop-at.at c.args.found.now c.loop-at-test.false)
