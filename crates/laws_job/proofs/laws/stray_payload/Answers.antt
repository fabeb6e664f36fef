use Rattle.laws_job.proofs.StrayPayload.{lost, stray_law}
use Rattle.laws_job.proofs.laws.stray_payload.Goals as goal

pub returns-clause-found : goal.returns-clause-found
returns-clause-found c = stray_law

pub returns-clause-lost : goal.returns-clause-lost
returns-clause-lost c = lost
