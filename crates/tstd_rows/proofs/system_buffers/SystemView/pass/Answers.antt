use Rattle.arrival.specs.Rows.{times_of}
use Rattle.tstd_rows.proofs.TableRows.{on_ok, tables_more}
use Rattle.tstd_rows.proofs.system_buffers.SystemView.pass.Goals as goal

pub returns-clause-view : goal.returns-clause-view
returns-clause-view c = λ step system_step times v.
    on_ok c.pass_row-result.result (λ passed. tables_more c.args.self.now _ step system_step times (times_of c.args.row.now) v passed.transport passed.system)
    c.pass_row-result.ensures.passed

pub returns-clause-transport : goal.returns-clause-transport
returns-clause-transport c = on_ok c.pass_row-result.result (λ passed. passed.transport) c.pass_row-result.ensures.passed

pub returns-clause-system : goal.returns-clause-system
returns-clause-system c = on_ok c.pass_row-result.result (λ passed. passed.system) c.pass_row-result.ensures.passed

pub returns-clause-transport_ended : goal.returns-clause-transport_ended
returns-clause-transport_ended c = on_ok c.pass_row-result.result (λ passed. passed.transport_ended) c.pass_row-result.ensures.passed

pub returns-clause-system_ended : goal.returns-clause-system_ended
returns-clause-system_ended c = on_ok c.pass_row-result.result (λ passed. passed.system_ended) c.pass_row-result.ensures.passed
