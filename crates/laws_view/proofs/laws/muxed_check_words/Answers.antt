use Rattle.laws_view.proofs.HomeTables.{job_check_words_law, run_check_words_law}
use Rattle.laws_view.proofs.laws.muxed_check_words.Goals as goal

pub returns-clause-run : goal.returns-clause-run
returns-clause-run c = run_check_words_law

pub returns-clause-jobs : goal.returns-clause-jobs
returns-clause-jobs c = job_check_words_law
