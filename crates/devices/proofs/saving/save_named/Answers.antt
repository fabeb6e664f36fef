use Rattle.devices.proofs.SavedFiles.{created_none, saved_new}
use Rattle.devices.proofs.saving.save_named.Goals as goal

pub returns-in-Ok : goal.returns-in-Ok
returns-in-Ok g c = saved_new _ _ _ _ _ _ _ _ c.in-Ok.ensures.creates c.in-Ok.ensures.empty c.save_file.ensures

pub returns-in-Err : goal.returns-in-Err
returns-in-Err g c =
    created_none _ _ _ _ _ _ _ _ c.in-Err.ensures.creates c.report_uncreated.ensures.reports_text c.report_uncreated.ensures.status
