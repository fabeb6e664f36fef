use Rattle.laws_view.proofs.LeftFaults.{job_faults_law, run_faults_law}
use Rattle.laws_view.proofs.ViewedVerdicts.{job_verdict_law, run_verdict_law}
use Rattle.laws_view.proofs.laws.muxed_verdicts.Goals as goal

pub returns-clause-run : goal.returns-clause-run
returns-clause-run c = run_verdict_law

pub returns-clause-jobs : goal.returns-clause-jobs
returns-clause-jobs c = job_verdict_law

pub returns-clause-faults : goal.returns-clause-faults
returns-clause-faults c = run_faults_law

pub returns-clause-jobs_faults : goal.returns-clause-jobs_faults
returns-clause-jobs_faults c = job_faults_law
