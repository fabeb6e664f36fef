use Rattle.std.proofs.Common.{refl}
use Rattle.tsjob_cli.proofs.Commands.{to_new_file, to_no_file}
use Rattle.tsjob_cli.proofs.command.write_file.Goals as goal

pub returns-in-Ok : goal.returns-in-Ok
returns-in-Ok g c = to_new_file _ _ _ _ _ _ _ _ _ c.in-Ok.ensures.creates c.in-Ok.ensures.empty c.write_new_file.ensures

pub returns-in-Err : goal.returns-in-Err
returns-in-Err g c =
    to_no_file _ _ _ _ _ _ _ _ _ c.in-Err.ensures.creates refl c.report_uncreated.ensures.reports_text c.report_uncreated.ensures.status
