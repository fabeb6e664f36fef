use Rattle.std.proofs.Common.{◌≡◌, ◌∙◌, ◌++◌, ◌∷◌, [], List, ap, sym, rules}
use Rattle.pes_packet.specs.AccessUnits.{AccessUnit}
use Rattle.es_moments.specs.UnitMoments as at
use Rattle.es_moments.specs.UnitMoments.{units_at}
use Rattle.es_moments.proofs.UnitMoments.{at_more, at_short, at_end, at_done}
use Rattle.es_moments.proofs.unit_moments.units_at.Goals as goal

pub units-preserved : goal.units-preserved
units-preserved g c =
    let later = c.in-Some-split_first.rest.now in
    let rest = c.pop_front.new.self.items in
    let u = c.in-Some.next in
    let m = c.in-Some-split_first.first.now in
    let made : c.unit_at.result ≡ at.unit_at m u = search rules in
    let pushed : c.push.new.self.items ≡ c.units.units.items ++ c.unit_at.result ∷ [] = search rules in
    c.units.invariant
    ∙ at_more c.units.later.now later m c.units.left.items rest u c.units.units.items c.unit_at.result c.in-Some-split_first.ensures.cases.0
    c.in-Some.ensures.items made
    ∙ ap (λ (l : List AccessUnit). l ++ units_at later rest) (sym pushed)

pub returns-in_default-split_first : goal.returns-in_default-split_first
returns-in_default-split_first g c =
    at_done (units_at c.args.moments.now c.from-left.result.items) c.units.units.items (units_at c.units.later.now c.units.left.items) c.units.invariant
    (at_short c.units.later.now c.units.left.items c.in_default-split_first.ensures.cases)
    ∙ ap (units_at c.args.moments.now) c.from-left.ensures.0

pub returns : goal.returns
returns g c =
    let none : c.units.left.items ≡ [] = search rules in
    at_done (units_at c.args.moments.now c.from-left.result.items) c.units.units.items (units_at c.units.later.now c.units.left.items) c.units.invariant
    (at_end c.units.later.now c.units.left.items none)
    ∙ ap (units_at c.args.moments.now) c.from-left.ensures.0
