use Rattle.word_faults.proofs.NamedWords.{named}
use Rattle.word_faults.proofs.laws.faults_name_words.Goals as goal

pub returns : goal.returns
returns c = named
