use Rattle.std.proofs.Common.{arith}
use Rattle.page_curves.proofs.Kept.{full, not_full}
use Rattle.page_curves.proofs.pid_curves.is_closed.Goals as goal

pub returns-then-curves-ge-MOST_CURVES : goal.returns-then-curves-ge-MOST_CURVES
returns-then-curves-ge-MOST_CURVES c = λ kept a. full c.args.curves.now kept c.args.pid (omega arith) a

pub returns-else-curves-ge-MOST_CURVES : goal.returns-else-curves-ge-MOST_CURVES
returns-else-curves-ge-MOST_CURVES c = λ kept a. not_full c.args.curves.now kept c.args.pid c.has_pid.result (omega arith) (c.has_pid.ensures kept a) a
