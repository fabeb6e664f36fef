use Rattle.unit_timing.proofs.MainBufferBySlots.{by_slots}
use Rattle.unit_timing.proofs.MainBufferByUnits.{by_curve}
use Rattle.unit_timing.proofs.main_buffer.fullness.Goals as goal

pub returns-clause-by_slots : goal.returns-clause-by_slots
returns-clause-by_slots c = by_slots

pub returns-clause-by_curve : goal.returns-clause-by_curve
returns-clause-by_curve c = by_curve
