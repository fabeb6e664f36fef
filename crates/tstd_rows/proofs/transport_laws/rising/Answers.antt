use Rattle.tstd_rows.proofs.Rising.{row_rises, rises_appended}
use Rattle.tstd_rows.proofs.transport_laws.rising.Goals as goal

pub returns-clause-row : goal.returns-clause-row
returns-clause-row c = row_rises

pub returns-clause-appended : goal.returns-clause-appended
returns-clause-appended c = rises_appended
