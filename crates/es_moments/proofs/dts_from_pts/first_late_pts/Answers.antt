use Rattle.std.proofs.Common.{◌≡◌, ◌∙◌, ◌-◌, ℕ, Some, true, false, nat_lt, get_or, ap, sym, rules}
use Rattle.es_moments.specs.declared.dts_from_pts.DtsFault.TheVariants.{PtsTooLate}
use Rattle.es_moments.proofs.MadeDts.{late_here, late_later, late_end, late_short}
use Rattle.es_moments.proofs.dts_from_pts.first_late_pts.Goals as goal

pub returns-in_default : goal.returns-in_default
returns-in_default c = sym (c.loop-index.invariant ∙ late_short c.args.shift c.loop-index.index c.loop-index.later.now _ c.in_default.ensures.cases)

pub returns-then-after-gt90000 : goal.returns-then-after-gt90000
returns-then-after-gt90000 c =
    let after : c.saturating_sub-after.result ≡ get_or c.args.moments.now c.loop-index.index 0 - (c.in-Some.first.now - c.args.shift) = search rules in
    let over : nat_lt 90_000 (get_or c.args.moments.now c.loop-index.index 0 - (c.in-Some.first.now - c.args.shift)) ≡ true = rw (sym after) (search rules) in
    sym (c.loop-index.invariant
    ∙ late_here c.args.shift c.loop-index.index c.in-Some.first.now c.loop-index.later.now c.in-Some.rest.now c.args.moments.now c.loop-index-test.true
    c.in-Some.ensures.cases.0 over
    ∙ ap (λ (n : ℕ). Some (PtsTooLate c.loop-index.index n)) (sym after))

pub loop-index-preserved : goal.loop-index-preserved
loop-index-preserved c =
    let after : c.saturating_sub-after.result ≡ get_or c.args.moments.now c.loop-index.index 0 - (c.in-Some.first.now - c.args.shift) = search rules in
    let within : nat_lt 90_000 (get_or c.args.moments.now c.loop-index.index 0 - (c.in-Some.first.now - c.args.shift)) ≡ false =
    rw (sym after) (search rules) in
    c.loop-index.invariant
    ∙ late_later c.args.shift c.loop-index.index c.in-Some.first.now c.loop-index.later.now c.in-Some.rest.now c.args.moments.now c.loop-index-test.true
    c.in-Some.ensures.cases.0 within

pub returns : goal.returns
returns c = sym (c.loop-index.invariant ∙ late_end c.args.shift c.loop-index.index c.loop-index.later.now c.args.moments.now c.loop-index-test.false)
