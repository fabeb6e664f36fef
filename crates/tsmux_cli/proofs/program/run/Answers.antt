use Rattle.std.proofs.Common.{refl}
use Rattle.word_faults.proofs.UsageReports.{of_known, of_usage}
use Rattle.tsmux_cli.proofs.program.run.Goals as goal

pub returns-in-Ok-None-clause-version : goal.returns-in-Ok-None-clause-version
returns-in-Ok-None-clause-version g c = λ none is. c.answer_other_words.ensures.version _ refl is

pub returns-in-Ok-None-clause-usage : goal.returns-in-Ok-None-clause-usage
returns-in-Ok-None-clause-usage g c = λ none is.
    of_usage _ _ _ _ _ _ _ _ _ c.usage.ensures (of_known _ _ _ _ _ _ _ _ _ c.known_for-known.ensures (c.answer_other_words.ensures.usage _ refl is))
