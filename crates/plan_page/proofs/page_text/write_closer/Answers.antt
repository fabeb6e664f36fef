use Rattle.std.proofs.Common.{sym, arith}
use Rattle.std.proofs.lemmas.List.{length-take-le}
use Rattle.plan_page.proofs.page_text.write_closer.Goals as goal

pub slice_bounds-front-end : goal.slice_bounds-front-end
slice_bounds-front-end c = sym (length-take-le 256 c.args.slots.now (omega (arith, c.if-slots-gt256.true)))
