use Rattle.std.proofs.Common.{arith}
use Rattle.job_units.proofs.FrameRests.{product_fits}
use Rattle.job_units.proofs.frame_rests.last_due.Goals as goal

pub overflow_add-result : goal.overflow_add-result
overflow_add-result c = omega (arith, product_fits c.saturating_sub-others.result c.from-2.result (omega arith) (omega arith))
