use Rattle.std.proofs.Common.{◌≡◌, ◌∙◌, sym, ap, List, ◌∷◌, ◌+◌, drop, arith}
use Rattle.std.proofs.lemmas.List.{drop_all, drop_more}
use Rattle.page_curves.specs.declared.pid_curves.PidCurve.{PidCurve}
use Rattle.page_curves.proofs.Kept.{entry_name, name_found, name_none, name_passed, same_name}
use Rattle.page_curves.proofs.pid_curves.name_in.Goals as goal

pub returns-then-entry-pid : goal.returns-then-entry-pid
returns-then-entry-pid c = λ kept a.
    let es = c.args.curves.now in
    let i = c.loop-entry.entry-index in
    let left : drop i es ≡ c.entry-item.result ∷ drop (i + 1) es =
    drop_more es i c.entry-item.result c.loop-entry-test.true ∙ ap (λ (e : PidCurve). e ∷ drop (i + 1) es) (sym c.entry-item.is) in
    name_found (drop i es) (drop (i + 1) es) c.entry-item.result c.args.pid (entry_name c.args.pid es) left c.if-entry-pid.true c.loop-entry.invariant
    ∙ same_name c.args.pid es kept a

pub loop-entry-preserved : goal.loop-entry-preserved
loop-entry-preserved c =
    let es = c.args.curves.now in
    let i = c.loop-entry.entry-index in
    let left : drop i es ≡ c.entry-item.result ∷ drop (i + 1) es =
    drop_more es i c.entry-item.result c.loop-entry-test.true ∙ ap (λ (e : PidCurve). e ∷ drop (i + 1) es) (sym c.entry-item.is) in
    name_passed (drop i es) (drop (i + 1) es) c.entry-item.result c.args.pid (entry_name c.args.pid es) left c.if-entry-pid.false c.loop-entry.invariant

pub returns : goal.returns
returns c = λ kept a.
    let es = c.args.curves.now in
    name_none (drop c.loop-entry.entry-index es) c.args.pid (entry_name c.args.pid es)
    (drop_all c.loop-entry.entry-index es (omega (arith, c.loop-entry-test.false))) c.loop-entry.invariant ∙ same_name c.args.pid es kept a
