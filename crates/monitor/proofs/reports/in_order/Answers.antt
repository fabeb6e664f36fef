use Rattle.monitor.proofs.RisingLists.{sorted_is_in_order}
use Rattle.monitor.proofs.reports.in_order.Goals as goal

pub returns : goal.returns
returns g c = sorted_is_in_order c.args.faults.items c.each_once.result.items c.each_once.ensures.order c.each_once.ensures.kept c.each_once.ensures.only
