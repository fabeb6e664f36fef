use Rattle.std.proofs.Common.{◌≡◌, ◌+◌, ◌++◌, ◌∷◌, [], drop, rules}
use Rattle.es_moments.specs.ApartUnits.{apart_by, apart_dts, is_same_next, next_place}
use Rattle.es_moments.proofs.ApartUnits.{dts_end, dts_more}
use Rattle.es_moments.proofs.apart.apart_dts.Goals as goal

pub loop-at-preserved : goal.loop-at-preserved
loop-at-preserved g c =
    let u = c.index-found-at.result in
    let at = c.loop-at.at in
    let us = c.args.found.now in
    let place = c.loop-at.place in
    let next = c.next_place-place.result in
    let made : c.apart_by.result ≡ apart_by (is_same_next u (drop (at + 1) us)) place u.unit.dts = search rules in
    let on : next ≡ next_place (is_same_next u (drop (at + 1) us)) place = search rules in
    let pushed : c.push.new.self.items ≡ c.loop-at.dts.items ++ c.apart_by.result ∷ [] = search rules in
    record {
      all = dts_more (apart_dts 0 us) c.loop-at.dts.items c.push.new.self.items at us u place next c.apart_by.result
          c.loop-at.invariant.all c.loop-at-test.true c.index-found-at.is made on pushed;
      few = c.next_place-place.ensures.bound;
    }

pub returns : goal.returns
returns g c = dts_end (apart_dts 0 c.args.found.now) c.loop-at.dts.items c.loop-at.at c.args.found.now c.loop-at.place c.loop-at.invariant.all
    c.loop-at-test.false
