use Rattle.std.proofs.Common.{List, subst, sym}
use Rattle.page_curves.specs.declared.pid_curves.PidCurve.{PidCurve}
use Rattle.page_curves.specs.PidCurves.{AreCurves}
use Rattle.page_curves.proofs.Kept.{opens}
use Rattle.page_curves.proofs.pid_curves.PidCurves.open.Goals as goal

pub returns : goal.returns
returns c = λ kept a. rw c.in_ok-push.ensures.items
    (opens c.args.self.now.curves.items kept _ c.is_closed.result
    (c.is_closed.ensures kept (subst (λ (es : List PidCurve). AreCurves es kept) (sym c.deref.ensures.value) a)) c.if-is_closed.false c.new.ensures a)
