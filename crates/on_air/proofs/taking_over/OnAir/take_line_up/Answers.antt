use Rattle.std.proofs.Common.{◌≡◌, ℕ, List, Ok, Err, sym, ap, ◌∙◌, subst}
use Rattle.pes_packet.specs.AccessUnits.{AccessUnit}
use Rattle.on_air.specs.LineUps.{ReadsLineUp, line_up_in}
use Rattle.on_air.proofs.LineUpsOn.{read_refuses}
use Rattle.on_air.proofs.taking_over.OnAir.take_line_up.Goals as goal

pub returns-in-Ok-clause-takes : goal.returns-in-Ok-clause-takes
returns-in-Ok-clause-takes g c = λ run a start h t.
    let due = ap (λ (u : AccessUnit). u.dts) c.unit.view_is in
    let bytes = c.deref.ensures.value ∙ ap (λ (u : AccessUnit). u.bytes) c.unit.view_is in
    c.line_up.ensures.takes run a (c.args.stream, c.args.unit) start h t due
    (subst (λ (l : List ℕ). line_up_in l ≡ Ok c.in-Ok.next.plan) bytes (rw c.in-Ok.is at c.read_line_up-read.ensures).0)

pub returns-in-Err-clause-takes : goal.returns-in-Err-clause-takes
returns-in-Err-clause-takes g c = λ run a start h t.
    let bytes = c.deref.ensures.value ∙ ap (λ (u : AccessUnit). u.bytes) c.unit.view_is in
    c.refuse_line_up.ensures.takes run a (c.args.stream, c.args.unit) start _ h t
    (read_refuses run a (c.args.stream, c.args.unit) c.in-Err.error
    (subst (λ (l : List ℕ). ReadsLineUp l (Err c.in-Err.error)) bytes (rw c.in-Err.is at c.read_line_up-read.ensures)))
