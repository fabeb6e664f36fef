use Rattle.std.proofs.Common.{[], refl}
use Rattle.job_run.proofs.Readings.{none_yet}
use Rattle.job_run.proofs.inner_stream.InnerStream.new.Goals as goal

pub returns : goal.returns
returns c = λ bytes none. none_yet bytes _ none refl c.new.ensures.items (c.new-2.ensures [] refl)
