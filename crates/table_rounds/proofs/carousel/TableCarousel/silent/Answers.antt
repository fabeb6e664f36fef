use Rattle.std.proofs.Common.{ap, ◌∙◌, arith}
use Rattle.table_rounds.specs.Carousels.{advanced}
use Rattle.table_rounds.proofs.SilentTables.{silent_first, silent_next}
use Rattle.table_rounds.proofs.carousel.TableCarousel.silent.Goals as goal

pub loop-init : goal.loop-init
loop-init c =
    c.new-carousel.ensures
    ∙ silent_first c.args.pid c.args.rate c.args.lengths.now c.args.moment (omega (arith, c.requires.number))

pub loop-preserved : goal.loop-preserved
loop-preserved c =
    c.advance.ensures ∙ ap advanced c.loop.invariant
    ∙ silent_next c.args.pid c.args.rate c.args.lengths.now c.loop.counter c.args.moment (omega (arith, c.requires.number, c.loop-test.true))
