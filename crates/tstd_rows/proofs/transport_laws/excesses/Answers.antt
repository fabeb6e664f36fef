use Rattle.tstd_rows.proofs.ExcessMoments.{over_law, full_law}
use Rattle.tstd_rows.proofs.transport_laws.excesses.Goals as goal

pub returns-clause-over : goal.returns-clause-over
returns-clause-over c = over_law

pub returns-clause-full : goal.returns-clause-full
returns-clause-full c = full_law
