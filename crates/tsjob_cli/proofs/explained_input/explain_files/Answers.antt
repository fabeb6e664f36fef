use Rattle.std.proofs.Common.{refl}
use Rattle.tsjob_cli.proofs.Explaining.{files_explained, files_no_memory, files_unread}
use Rattle.tsjob_cli.proofs.explained_input.explain_files.Goals as goal

pub returns-in-Err : goal.returns-in-Err
returns-in-Err g c = files_unread _ _ _ _ _ refl c.in-Err.ensures

pub returns-in-Ok-explained : goal.returns-in-Ok-explained
returns-in-Ok-explained g c = files_explained _ _ _ _ _ _ _ _ _ _ c.in-Ok.ensures.0 c.deref.ensures.value c.in-Ok.ensures.1 c.in-Ok-explained.ensures
    c.write_outcome.ensures

pub returns : goal.returns
returns g c = files_no_memory _ _ _ _ _ _ _ refl c.in-Ok.ensures.1 c.report_halt.ensures.reports c.report_halt.ensures.status
