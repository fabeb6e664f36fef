use Rattle.std.proofs.Common.{◌≡◌, ◌∙◌, ◌++◌, ◌∷◌, [], List, ap, sym, rules}
use Rattle.std.proofs.lemmas.List.{nil_from_length}
use Rattle.es_moments.specs.MadeDts.{with_dts}
use Rattle.es_moments.proofs.MadeDts.{dts_more, dts_short, dts_end, dts_done}
use Rattle.es_moments.proofs.made_units.with_dts.Goals as goal
use Rattle.es_moments.specs.WireUnits.{CarriedUnit, unit_with}

pub units-preserved : goal.units-preserved
units-preserved g c =
    let later = c.in-Some-split_first.rest.now in
    let rest = c.pop_front.new.self.items in
    let u = c.in-Some.next in
    let made : c.restamped.result ≡ unit_with u.packet u.stream_id c.in-Some-split_first.first.now u.unit.pts u.unit.marks u.unit.bytes = search rules in
    let pushed : c.push.new.self.items ≡ c.units.units.items ++ c.restamped.result ∷ [] = search rules in
    c.units.invariant
    ∙ dts_more c.units.later.now later c.in-Some-split_first.first.now c.units.left.items rest c.units.units.items u c.restamped.result
    c.in-Some-split_first.ensures.cases.0 c.in-Some.ensures.items made
    ∙ ap (λ (l : List CarriedUnit). l ++ with_dts later rest) (sym pushed)

pub returns-in_default-split_first : goal.returns-in_default-split_first
returns-in_default-split_first g c =
    dts_done (with_dts c.args.dts.now c.from-left.result.items) c.units.units.items (with_dts c.units.later.now c.units.left.items) c.units.invariant
    (dts_short c.units.later.now c.units.left.items c.in_default-split_first.ensures.cases)
    ∙ ap (with_dts c.args.dts.now) c.from-left.ensures.0

pub returns : goal.returns
returns g c =
    dts_done (with_dts c.args.dts.now c.from-left.result.items) c.units.units.items (with_dts c.units.later.now c.units.left.items) c.units.invariant
    (dts_end c.units.later.now c.units.left.items (nil_from_length c.units.left.items (sym c.units.left.ok.0 ∙ c.in_default.ensures.cases.0)))
    ∙ ap (with_dts c.args.dts.now) c.from-left.ensures.0
