use Rattle.std.proofs.Common.{◌≡◌}
use Rattle.table_rounds.specs.Tables.{place_in}
use Rattle.table_rounds.specs.Carousels.{silent_carousel}
use Rattle.table_rounds.proofs.carousel.TableCarousel.silent.Given as goal

abbrev pub invariant-loop : goal.invariant-loop
invariant-loop l =
    l.carousel ≡ silent_carousel l.fn.pid l.fn.rate l.fn.lengths (place_in 0 l.fn.lengths l.counter) l.fn.moment
