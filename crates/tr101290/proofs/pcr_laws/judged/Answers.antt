use Rattle.tr101290.proofs.Judging.{judge_law}
use Rattle.tr101290.proofs.pcr_laws.judged.Goals as goal

pub returns : goal.returns
returns c = judge_law
