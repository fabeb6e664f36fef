use Rattle.laws_view.proofs.ViewedReferences.{job_references_law, run_references_law}
use Rattle.laws_view.proofs.laws.muxed_references.Goals as goal

pub returns-clause-run : goal.returns-clause-run
returns-clause-run c = run_references_law

pub returns-clause-jobs : goal.returns-clause-jobs
returns-clause-jobs c = job_references_law
