use Rattle.std.proofs.Common.{◌≡◌, ◌∙◌, sym, ap, List, ◌∷◌, ◌+◌, drop, arith}
use Rattle.std.proofs.lemmas.List.{drop_all, drop_more}
use Rattle.page_curves.specs.declared.pid_curves.PidCurve.{PidCurve}
use Rattle.page_curves.specs.PidCurves.{greatest_value}
use Rattle.page_curves.proofs.Scales.{greatest_all, greatest_more}
use Rattle.page_curves.proofs.pid_curves.greatest_value.Goals as goal

pub loop-entry-preserved : goal.loop-entry-preserved
loop-entry-preserved c =
    let es = c.args.curves.now in
    let i = c.loop-entry.entry-index in
    let left : drop i es ≡ c.entry-item.result ∷ drop (i + 1) es =
    drop_more es i c.entry-item.result c.loop-entry-test.true ∙ ap (λ (e : PidCurve). e ∷ drop (i + 1) es) (sym c.entry-item.is) in
    greatest_more (drop i es) (drop (i + 1) es) c.entry-item.result c.loop-entry.greatest c.greatest_in.result c.max-greatest.result (greatest_value es)
    c.greatest_in.ensures c.max-greatest.ensures left c.loop-entry.invariant

pub returns : goal.returns
returns c = greatest_all (drop c.loop-entry.entry-index c.args.curves.now) c.loop-entry.greatest (greatest_value c.args.curves.now)
    (drop_all c.loop-entry.entry-index c.args.curves.now (omega (arith, c.loop-entry-test.false))) c.loop-entry.invariant
