use Rattle.std.proofs.Common.{inr, refl}
use Rattle.tsjob_cli.specs.NextTexts.{asked_view}
use Rattle.tsjob_cli.proofs.NextTexts.{saved}
use Rattle.tsjob_cli.proofs.next_texts.save_record.Goals as goal

pub returns-in-Some : goal.returns-in-Some
returns-in-Some g c =
    saved (g.F.OutputFiles.creates c.args.files.now) (g.F.OutputFiles.keeps c.args.files.now) (asked_view c.args.asked) _ _ _ _ _ _
    c.in-Some.ensures c.as_slice.ensures.value c.save_named.ensures

pub returns-in-None : goal.returns-in-None
returns-in-None g c = inr (record { reports_text = c.report_of.ensures; status_is = refl })
