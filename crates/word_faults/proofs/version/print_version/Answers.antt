use Rattle.std.proofs.Common.{◌∙◌}
use Rattle.word_faults.proofs.UsageReports.{of_printed}
use Rattle.word_faults.proofs.version.print_version.Goals as goal

pub returns : goal.returns
returns g c = λ input unread. of_printed _ _ _ _ _ _ (c.as_str.ensures.value ∙ c.in-Ok.ensures) (c.print_text.ensures input unread)
