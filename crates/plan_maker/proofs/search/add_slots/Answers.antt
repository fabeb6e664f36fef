use Rattle.std.proofs.Common.{sym, ◌∙◌, arith}
use Rattle.plan_maker.proofs.SearchedSlots.{some_added}
use Rattle.plan_maker.proofs.search.add_slots.Goals as goal

pub returns : goal.returns
returns c =
    some_added c.args.period c.args.missed c.args.demands.now c.index-demands-missed.result c.with_more.result
    (omega (arith, c.if-demands-missed.false)) c.index-demands-missed.is (sym c.is_full.ensures ∙ c.if-is_full.false) c.with_more.ensures
