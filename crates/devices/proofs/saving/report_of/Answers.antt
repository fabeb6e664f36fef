use Rattle.devices.proofs.SavedFiles.{reported_both}
use Rattle.devices.proofs.saving.report_of.Goals as goal

pub returns : goal.returns
returns g c = reported_both _ _ _ _ _ c.report_text.ensures c.report_text-2.ensures
