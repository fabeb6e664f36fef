use Rattle.on_air.specs.Courses.{taken_over, with_line_up}
use Rattle.on_air.proofs.LineUpsOn.{line_up_fails, line_up_taken, over_kept}
use Rattle.on_air.proofs.taking_over.OnAir.line_up.Goals as goal

pub returns-in-Err-clause-takes : goal.returns-in-Err-clause-takes
returns-in-Err-clause-takes g c = λ run a entry start h t due read.
    let kept = over_kept run a entry c.args.next.plan c.in-Err.error start _ _ (c.in-Err.ensures.takes run a entry start _ h t read) in
    c.refuse_line_up.ensures.takes run a entry start _ kept.1 t kept.0

pub returns-in-Ok-tick-clause-takes : goal.returns-in-Ok-tick-clause-takes
returns-in-Ok-tick-clause-takes g c = λ run a entry start h t due read.
    let over = c.in-Ok.ensures.takes run a entry start _ h t read in
    let wrote = c.in-Ok-tick.ensures.ok (with_line_up run c.args.next.plan) (taken_over run a c.args.next.plan.description) entry start over.1.1 due in
    line_up_taken run a entry c.in-Ok.slot c.args.next.plan start _ _ t read over.0 over.1.0 wrote

pub returns-in-Err-tick-clause-takes : goal.returns-in-Err-tick-clause-takes
returns-in-Err-tick-clause-takes g c = λ run a entry start h t due read.
    let over = c.in-Ok.ensures.takes run a entry start _ h t read in
    line_up_fails run a entry c.in-Err-tick.fault.sent c.args.next.plan start _ t read over.0
    (c.in-Err-tick.ensures.err (with_line_up run c.args.next.plan) (taken_over run a c.args.next.plan.description) entry start over.1.1 due)
