use Rattle.std.proofs.Common.{refl}
use Rattle.tsremux_cli.proofs.Written.{to_new_file, to_no_file}
use Rattle.tsremux_cli.proofs.outputs.remux_to_file.Goals as goal

pub returns-in-Ok : goal.returns-in-Ok
returns-in-Ok g c = to_new_file _ _ _ _ _ _ _ _ _ c.in-Ok.ensures.creates c.in-Ok.ensures.empty c.remux_to_new_file.ensures

pub returns-in-Err : goal.returns-in-Err
returns-in-Err g c =
    to_no_file _ _ _ _ _ _ _ _ _ c.in-Err.ensures.creates refl c.report_uncreated.ensures.reports_text c.report_uncreated.ensures.status
