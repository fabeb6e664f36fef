use Rattle.std.proofs.Common.{refl}
use Rattle.word_faults.proofs.other_words.answer_other_words.Goals as goal

pub returns-then-is_version-clause-version : goal.returns-then-is_version-clause-version
returns-then-is_version-clause-version g c = λ input unread is. c.print_version.ensures input unread

pub returns-else-is_version-clause-usage : goal.returns-else-is_version-clause-usage
returns-else-is_version-clause-usage g c = λ input unread is. c.report_words.ensures input _ unread refl
