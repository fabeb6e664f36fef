use Rattle.mux_core.proofs.EventSteps.{unit_taken, unit_kept}
use Rattle.mux_core.proofs.driving.take_unit.Goals as goal

pub returns : goal.returns
returns g c = λ h st. (
  unit_taken h c.args.mux.now c.feed.new.self c.args.stream c.args.unit c.feed.result st (c.feed.ensures.takes h st) c.feed.ensures.handed_back,
  unit_kept c.args.mux.now.schedule c.args.mux.now.capacity h c.args.stream c.args.unit,
)
