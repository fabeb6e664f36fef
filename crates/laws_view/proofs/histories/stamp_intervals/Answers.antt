use Rattle.laws_view.proofs.StampHistories.{late_law}
use Rattle.laws_view.proofs.histories.stamp_intervals.Goals as goal

pub returns : goal.returns
returns c = late_law
