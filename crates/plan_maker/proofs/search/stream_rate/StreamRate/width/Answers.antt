use Rattle.std.proofs.Common.{◌≡◌, ◌+◌, ℕ, arith, ap, ap₂, sym, ◌∙◌}
use Rattle.unit_timing.specs.Allowances.{allowance_rows}
use Rattle.plan_maker.specs.Bounded.{all_narrowed}
use Rattle.plan_maker.specs.Joined.{lesser, least_of}
use Rattle.plan_maker.specs.StreamNeeds.{stream_view, main_width, row_width}
use Rattle.plan_maker.proofs.JoinedNumbers.{least_of_none, least_of_more}
use Rattle.plan_maker.proofs.search.stream_rate.StreamRate.width.Goals as goal

pub loop-before-init : goal.loop-before-init
loop-before-init c =
    let v = stream_view c.args.self.now in
    c.main_width-width.ensures ∙ sym (least_of_none (main_width v c.args.period c.args.count) (λ before. row_width v c.args.period c.args.count (before + 1)))

pub loop-before-preserved : goal.loop-before-preserved
loop-before-preserved c =
    let v = stream_view c.args.self.now in
    let f = λ (before : ℕ). row_width v c.args.period c.args.count (before + 1) in
    c.lesser-width.ensures ∙ ap₂ lesser c.loop-before.invariant c.row_width.ensures
    ∙ sym (least_of_more (main_width v c.args.period c.args.count) c.loop-before.before f)

pub returns : goal.returns
returns c =
    let v = stream_view c.args.self.now in
    let end : c.loop-before.before ≡ allowance_rows v.stream.allowance = omega (arith, c.rows-before-end.ensures) in
    c.all_narrowed.ensures ∙ ap all_narrowed (c.loop-before.invariant
    ∙ ap (λ (n : ℕ). least_of (main_width v c.args.period c.args.count) n (λ before. row_width v c.args.period c.args.count (before + 1))) end)
