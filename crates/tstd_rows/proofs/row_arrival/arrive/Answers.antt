use Rattle.std.proofs.Common.{sym, arith}
use Rattle.tstd_rows.proofs.Arrivals.{nothing_ends}
use Rattle.tstd_rows.proofs.row_arrival.arrive.Goals as goal

pub returns-then-is_quiet-clause-most : goal.returns-then-is_quiet-clause-most
returns-then-is_quiet-clause-most c = sym c.enter_at_once-leaving.ensures.most

pub returns-then-is_quiet-clause-arrived : goal.returns-then-is_quiet-clause-arrived
returns-then-is_quiet-clause-arrived c =
    nothing_ends c.args.transport.now c.args.watch.now 1 c.args.row.now c.args.ended.now c.requires.can.some (omega (arith, c.requires.can.size))
    (sym c.enter_at_once-leaving.ensures.most) (c.is_quiet.ensures.none c.if-is_quiet.true) c.requires.none

pub returns-then-is_quiet-clause-soon : goal.returns-then-is_quiet-clause-soon
returns-then-is_quiet-clause-soon c = c.enter_at_once-leaving.ensures.soon

pub returns-clause-soon : goal.returns-clause-soon
returns-clause-soon c = c.arrive_in_turn.ensures.soon
