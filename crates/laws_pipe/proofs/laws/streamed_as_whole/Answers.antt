use Rattle.laws_pipe.proofs.MarkedUnits.{ask_alike}
use Rattle.laws_pipe.proofs.StreamedUnits.{the_same_units}
use Rattle.laws_pipe.proofs.laws.streamed_as_whole.Goals as goal

pub returns-clause-same : goal.returns-clause-same
returns-clause-same c = the_same_units

pub returns-clause-marks : goal.returns-clause-marks
returns-clause-marks c = ask_alike
