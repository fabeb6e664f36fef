use Rattle.std.proofs.Common.{◌≡◌, ◌∙◌, ◌+◌, drop, false, sym, true, rules}
use Rattle.es_moments.specs.ApartUnits.{apart_by, is_same_next, next_place}
use Rattle.es_moments.specs.RisingDts.{is_later}
use Rattle.es_moments.proofs.RisingDts.{rise_ends, rise_fails, rise_more}
use Rattle.es_moments.proofs.rising_dts.dts_rise.Goals as goal

pub loop-at-preserved : goal.loop-at-preserved
loop-at-preserved g c =
    let u = c.index-found-at.result in
    let at = c.loop-at.at in
    let us = c.args.found.now in
    let place = c.loop-at.place in
    let next = c.next_place-place.result in
    let d = c.apart_by-dts.result in
    let made : d ≡ apart_by (is_same_next u (drop (at + 1) us)) place u.unit.dts = search rules in
    let on : next ≡ next_place (is_same_next u (drop (at + 1) us)) place = search rules in
    let later : is_later c.loop-at.before d ≡ true = search rules in
    record {
      all = c.loop-at.invariant.all ∙ rise_more at us u place next d c.loop-at.before c.loop-at-test.true c.index-found-at.is made on later;
      few = c.next_place-place.ensures.bound;
    }

pub returns-then-not-is_later : goal.returns-then-not-is_later
returns-then-not-is_later g c =
    let u = c.index-found-at.result in
    let at = c.loop-at.at in
    let us = c.args.found.now in
    let place = c.loop-at.place in
    let d = c.apart_by-dts.result in
    let made : d ≡ apart_by (is_same_next u (drop (at + 1) us)) place u.unit.dts = search rules in
    let falls : is_later c.loop-at.before d ≡ false = search rules in
    sym (c.loop-at.invariant.all ∙ rise_fails at us u place d c.loop-at.before c.loop-at-test.true c.index-found-at.is made falls)

pub returns : goal.returns
returns g c =
    sym (c.loop-at.invariant.all ∙ rise_ends c.loop-at.at c.args.found.now c.loop-at.place c.loop-at.before c.loop-at-test.false)
