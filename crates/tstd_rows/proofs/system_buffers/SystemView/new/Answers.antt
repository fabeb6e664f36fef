use Rattle.tstd_rows.proofs.TableRows.{no_tables}
use Rattle.tstd_rows.proofs.system_buffers.SystemView.new.Goals as goal

pub returns-clause-view : goal.returns-clause-view
returns-clause-view c = no_tables _ c.args.step c.args.system_step c.new.ensures c.new-2.ensures
