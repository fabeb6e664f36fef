use Rattle.std.proofs.Common.{refl, sym}
use Rattle.word_faults.proofs.UsageReports.{of_fault, of_help, of_version}
use Rattle.word_faults.proofs.other_words.answer_words.Goals as goal

pub returns-then-asks_version : goal.returns-then-asks_version
returns-then-asks_version g c = λ input unread. of_version _ _ _ _ _ _ _ _ (sym c.if-asks_version.ensures) (c.print_version.ensures input unread)

pub returns-in-Ok : goal.returns-in-Ok
returns-in-Ok g c = λ input unread.
    of_help _ _ _ _ c.in-Ok.fault _ _ _ _ c.in-Ok.ensures (sym c.if-asks_version.ensures) (sym c.if-is_help.ensures) (c.print_text.ensures input unread)

pub returns-in-Ok-2 : goal.returns-in-Ok-2
returns-in-Ok-2 g c = λ input unread.
    of_fault _ _ _ _ c.in-Ok.fault _ _ _ _ c.in-Ok.ensures (sym c.if-asks_version.ensures) (sym c.if-is_help.ensures)
    (c.report_hinted.ensures input _ unread refl)
