use Rattle.laws_view.proofs.TableFaults.{eit_law, nit_law, pat_law, pmt_law, sdt_law, tdt_law}
use Rattle.laws_view.proofs.monitor_laws.late_tables.Goals as goal

pub returns-clause-pat : goal.returns-clause-pat
returns-clause-pat c = pat_law

pub returns-clause-pmt : goal.returns-clause-pmt
returns-clause-pmt c = pmt_law

pub returns-clause-nit : goal.returns-clause-nit
returns-clause-nit c = nit_law

pub returns-clause-sdt : goal.returns-clause-sdt
returns-clause-sdt c = sdt_law

pub returns-clause-eit : goal.returns-clause-eit
returns-clause-eit c = eit_law

pub returns-clause-tdt : goal.returns-clause-tdt
returns-clause-tdt c = tdt_law
