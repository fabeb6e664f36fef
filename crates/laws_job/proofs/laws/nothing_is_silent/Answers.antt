use Rattle.laws_job.proofs.LeftOut.{none_silent}
use Rattle.laws_job.proofs.JobLines.{says_all}
use Rattle.laws_job.proofs.laws.nothing_is_silent.Goals as goal

pub returns-clause-found : goal.returns-clause-found
returns-clause-found c = none_silent

pub returns-clause-lines : goal.returns-clause-lines
returns-clause-lines c = says_all
