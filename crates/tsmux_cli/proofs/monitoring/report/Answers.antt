use Rattle.tsmux_cli.proofs.Monitored.{reports_on, takes_none}
use Rattle.tsmux_cli.proofs.monitoring.report.Goals as goal

pub take_input-taken-requires-clause-start : goal.take_input-taken-requires-clause-start
take_input-taken-requires-clause-start g c = takes_none c.in-Ok.monitor

pub returns : goal.returns
returns g c =
    reports_on c.args.options _ c.in-Ok.monitor c.take_input-taken.new.taker.monitor c.take_input-taken.result c.conclude.result
    c.in-Ok.ensures c.take_input-taken.ensures c.conclude.ensures
