use Rattle.std.proofs.Common.{◌≡◌, ◌∙◌, ◌≢◌, sym, ap, List, Some, ◌+◌, ◌<◌, length, get_or, refl, subst, arith}
use Rattle.std.specs.Prelude.{slice_get}
use Rattle.std.proofs.lemmas.List.{set-get_or}
use Rattle.std.proofs.lemmas.Option.{slice_get-get_or}
use Rattle.page_curves.specs.Curves.{sample}
use Rattle.page_curves.specs.declared.pid_curves.PidCurve.{PidCurve}
use Rattle.page_curves.proofs.Kept.{Walks, ends, goes_on, stops_ok}
use Rattle.page_curves.proofs.pid_curves.take_in.Goals as goal

pub returns-then-entry-pid : goal.returns-then-entry-pid
returns-then-entry-pid c = λ kept a.
    let es = c.loop-entry.curves in
    let i = c.loop-entry.entry-index in
    let e : PidCurve = get_or es i c.entry-item.result in
    let lt : i < length es = omega arith in
    let it : e.pid ≡ c.args.pid = cc (c.entry-item.is, c.if-entry-pid.true) in
    stops_ok c.take.result es kept c.args.pid i (sample c.args.number c.args.value) e _ (slice_get-get_or es i c.entry-item.result lt) it refl refl refl
    c.take.ensures (c.loop-entry.invariant kept a)

pub loop-entry-preserved : goal.loop-entry-preserved
loop-entry-preserved c = λ kept a.
    let es = c.loop-entry.curves in
    let i = c.loop-entry.entry-index in
    let e : PidCurve = get_or es i c.entry-item.result in
    let lt : i < length es = omega arith in
    let other : e.pid ≢ c.args.pid = c.if-entry-pid.false in
    rw (set-get_or es i c.entry-item.result)
    (goes_on es kept c.args.pid i (sample c.args.number c.args.value) e (slice_get-get_or es i c.entry-item.result lt) other (c.loop-entry.invariant kept a))

pub returns : goal.returns
returns c = λ kept a.
    let end : length c.loop-entry.curves ≡ c.loop-entry.entry-index = omega (arith, c.loop-entry-test.false, c.loop-entry.auto.entry-index-end) in
    ends c.loop-entry.curves kept c.args.pid c.loop-entry.entry-index (sample c.args.number c.args.value) end (c.loop-entry.invariant kept a)
