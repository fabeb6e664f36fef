use Rattle.std.proofs.Common.{refl}
use Rattle.pid_findings.proofs.GoingOn.{finds_none, goes_on}
use Rattle.pid_findings.proofs.pid_state.PidState.go_on.Goals as goal

pub returns-clause-state : goal.returns-clause-state
returns-clause-state g c = λ yes.
    goes_on c.args.self.now c.self.inside.last c.keep_plain.new.last c.self.inside.open_unit c.grow.new.open_unit c.args.index c.args.bytes.now
    c.split_at.result.1.now
    c.self.view_is c.if-not-is_next.ensures c.split_at.ensures.back c.keep_plain.ensures (c.if-not-grow.ensures.next refl)

pub returns-clause-none : goal.returns-clause-none
returns-clause-none g c = λ yes.
    finds_none c.args.self.now c.self.inside.last c.self.inside.open_unit c.args.index c.args.bytes.now c.split_at.result.1.now
    c.self.view_is c.if-not-is_next.ensures c.split_at.ensures.back (c.if-not-grow.ensures.none refl)
