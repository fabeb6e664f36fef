use Rattle.std.proofs.Common.{◌∙◌, length, refl, sym, arith, add-one}
use Rattle.packet_sync.proofs.Fives.{all_places, none_more, none_yet, place_in}
use Rattle.packet_sync.proofs.five_search.has_five.Goals as goal

pub loop-at-init : goal.loop-at-init
loop-at-init c = none_yet c.args.bytes.now

pub returns-then-are_five : goal.returns-then-are_five
returns-then-are_five c =
    sym (place_in (length c.args.bytes.now) c.args.bytes.now c.loop-at.at (omega (arith, c.loop-at-test.true)) (sym c.are_five.ensures ∙ c.if-are_five.true))

pub loop-at-preserved : goal.loop-at-preserved
loop-at-preserved c =
    rw (add-one c.loop-at.at) (none_more c.loop-at.at c.args.bytes.now c.loop-at.invariant (sym c.are_five.ensures ∙ c.if-are_five.false))

pub returns : goal.returns
returns c = all_places c.loop-at.at c.args.bytes.now (omega (arith, c.loop-at-test.false)) c.loop-at.invariant
