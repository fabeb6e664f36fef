use Rattle.std.proofs.Common.{ℕ, ◌+◌, ◌-◌, Bool, arith, ap₂, sym, ◌∙◌}
use Rattle.stream_choice.specs.Paces.{serves, halved}
use Rattle.stream_choice.proofs.Halving.{halved_below, halved_above, halved_here, halved_ends}
use Rattle.stream_choice.proofs.pace_selection.halved.Goals as goal
use Rattle.stream_choice.proofs.pace_selection.halved.Goals.{then-low-high+then-serves, then-low-high+else-serves, else-low-high}

pub loop-turn-preserved : goal.loop-turn-preserved
loop-turn-preserved g c =
    let f : ℕ → Bool = serves c.args.needs (g.U.PacedUnits.burst c.args.units.now) c.args.delay c.args.max_lead in
    let low : ℕ = c.loop-turn.low in
    let high : ℕ = c.loop-turn.high in
    let inv = c.loop-turn.invariant in
    let next : ℕ → ℕ → ℕ = λ a b. halved (27 - (c.loop-turn.turn + 1)) f a b in
    elim c.if-low-high.branch [
      | then-low-high+then-serves w ↦ record {
        same = inv.same ∙ halved_below 27 c.loop-turn.turn f low high (omega (arith, c.loop-turn-test.true)) (omega (arith, w.if-low-high.true))
            (sym w.serves.ensures ∙ w.if-serves.true)
            ∙ ap₂ next (sym w.low-is) (sym w.high-is);
        order = omega (arith, w.low-is, w.high-is, inv.order);
        bound = omega (arith, w.high-is, inv.order, inv.bound);
      }
      | then-low-high+else-serves w ↦ record {
        same = inv.same ∙ halved_above 27 c.loop-turn.turn f low high (omega (arith, c.loop-turn-test.true)) (omega (arith, w.if-low-high.true))
            (sym w.serves.ensures ∙ w.if-serves.false)
            ∙ ap₂ next (sym w.low-is) (sym w.high-is);
        order = omega (arith, w.low-is, w.high-is, inv.order);
        bound = omega (arith, w.high-is, inv.bound);
      }
      | else-low-high w ↦ record {
        same = inv.same ∙ halved_here 27 c.loop-turn.turn f low high (omega (arith, c.loop-turn-test.true)) (omega (arith, w.if-low-high.false))
            ∙ ap₂ next (sym w.low-is) (sym w.high-is);
        order = omega (arith, w.low-is, w.high-is, inv.order);
        bound = omega (arith, w.high-is, inv.bound);
      }
    ]

pub returns-clause-value : goal.returns-clause-value
returns-clause-value g c =
    let f : ℕ → Bool = serves c.args.needs (g.U.PacedUnits.burst c.args.units.now) c.args.delay c.args.max_lead in
    sym (c.loop-turn.invariant.same ∙ halved_ends 27 c.loop-turn.turn f c.loop-turn.low c.loop-turn.high (omega (arith, c.loop-turn-test.false)))
