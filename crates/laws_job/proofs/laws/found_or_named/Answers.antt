use Rattle.laws_job.proofs.FoundOrNamed as lemma
use Rattle.laws_job.proofs.laws.found_or_named.Goals as goal

pub returns-clause-alone : goal.returns-clause-alone
returns-clause-alone c = lemma.found_or_named c.found_again.ensures.moved c.nothing_is_silent.ensures.found

pub returns-clause-joined : goal.returns-clause-joined
returns-clause-joined c = lemma.joined_or_named c.joined_again.ensures c.nothing_is_silent.ensures.found
