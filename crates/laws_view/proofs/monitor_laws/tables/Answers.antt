use Rattle.laws_view.proofs.QuietEnds.{ends}
use Rattle.laws_view.proofs.Tables.{gap_law, table_law}
use Rattle.laws_view.proofs.TableErrors.{nit_errors, sdt_errors, tdt_errors}
use Rattle.laws_view.proofs.monitor_laws.tables.Goals as goal

pub returns-clause-gaps : goal.returns-clause-gaps
returns-clause-gaps c = gap_law

pub returns-clause-tables : goal.returns-clause-tables
returns-clause-tables c = table_law

pub returns-clause-nit : goal.returns-clause-nit
returns-clause-nit c = nit_errors

pub returns-clause-sdt : goal.returns-clause-sdt
returns-clause-sdt c = sdt_errors

pub returns-clause-tdt : goal.returns-clause-tdt
returns-clause-tdt c = tdt_errors

pub returns-clause-ends : goal.returns-clause-ends
returns-clause-ends c = ends
