use Rattle.table_rounds.proofs.CarouselSteps.{first_carousel_holds}
use Rattle.table_rounds.proofs.laws.first_carousel.Goals as goal

pub returns : goal.returns
returns c = first_carousel_holds
