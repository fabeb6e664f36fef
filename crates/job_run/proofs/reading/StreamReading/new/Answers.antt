use Rattle.std.proofs.Common.{refl}
use Rattle.job_run.proofs.Readings.{read_on}
use Rattle.job_run.proofs.reading.StreamReading.new.Goals as goal

pub returns : goal.returns
returns c = λ bytes none. read_on bytes c.new.result _ c.new-2.result refl (c.new.ensures bytes none) (c.new-2.ensures bytes none)
