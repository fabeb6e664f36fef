use Rattle.std.proofs.Common.{◌≡◌, ◌∙◌, ℕ, suc, ◌+◌, ◌-◌, ◌<◌, ◌∷◌, ◌++◌, drop, length, List, Option, None, ap, arith, string_bytes}
use Rattle.std.proofs.lemmas.List.{drop_more}
use Rattle.page_curves.specs.declared.bounds.Bounds.{Bounds}
use Rattle.page_curves.specs.Slots.{slot_at}
use Rattle.page_curves.specs.Paths.{low}
use Rattle.page_curves.proofs.Backward.{back_more, back_none}
use Rattle.page_curves.proofs.paths.write_lows_back.Goals as goal

pub loop-back-init : goal.loop-back-init
loop-back-init c =
    let es = c.args.slots.now in
    back_none (low c.args.frame.now c.args.span) es (string_bytes c.args.text.now) (length es - 0) (omega arith)

pub loop-back-preserved : goal.loop-back-preserved
loop-back-preserved c =
    let es : List (Option Bounds) = c.args.slots.now in
    let f = c.args.frame.now in
    let back : ℕ = c.loop-back.back in
    let n : ℕ = length es - (back + 1) in
    let m : ℕ = length es - back in
    let slot : length es - 1 - back ≡ n = omega arith in
    let next : m ≡ suc n = omega (arith, c.loop-back-test.true) in
    let after_it : n + 1 ≡ m = omega (arith, next) in
    let within : n < length es = omega (arith, c.loop-back-test.true) in
    let one : drop n es ≡ slot_at es n ∷ drop m es = drop_more es n None within ∙ ap (λ (k : ℕ). slot_at es n ∷ drop k es) after_it in
    back_more (low f c.args.span) es (string_bytes c.args.text.now) (string_bytes c.loop-back.text) (string_bytes c.write_low_at.new.text) n m (slot_at es n)
    next one
    c.loop-back.invariant (rw slot at c.in_ok-write_low_at.ensures)
