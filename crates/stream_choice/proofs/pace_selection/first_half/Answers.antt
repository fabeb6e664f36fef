use Rattle.std.proofs.Common.{ℕ, Bool, arith, sym, ◌∙◌}
use Rattle.stream_choice.specs.Paces.{serves}
use Rattle.stream_choice.proofs.Halving.{half_stops, half_goes_on, half_ends}
use Rattle.stream_choice.proofs.pace_selection.first_half.Goals as goal

pub returns-then-serves-clause-value : goal.returns-then-serves-clause-value
returns-then-serves-clause-value g c =
    let f : ℕ → Bool = serves c.args.needs (g.U.PacedUnits.burst c.args.units.now) c.args.delay c.args.max_lead in
    sym (c.loop-turn.invariant.same ∙ half_stops 27 c.loop-turn.turn f c.loop-turn.pace (omega (arith, c.loop-turn-test.true))
    (sym c.serves.ensures ∙ c.if-serves.true))

pub loop-turn-preserved : goal.loop-turn-preserved
loop-turn-preserved g c =
    let f : ℕ → Bool = serves c.args.needs (g.U.PacedUnits.burst c.args.units.now) c.args.delay c.args.max_lead in
    record {
      same = c.loop-turn.invariant.same ∙ half_goes_on 27 c.loop-turn.turn f c.loop-turn.pace (omega (arith, c.loop-turn-test.true))
          (sym c.serves.ensures ∙ c.if-serves.false);
      bound = omega (arith, c.loop-turn.invariant.bound);
    }

pub returns-clause-value : goal.returns-clause-value
returns-clause-value g c =
    let f : ℕ → Bool = serves c.args.needs (g.U.PacedUnits.burst c.args.units.now) c.args.delay c.args.max_lead in
    sym (c.loop-turn.invariant.same ∙ half_ends 27 c.loop-turn.turn f c.loop-turn.pace (omega (arith, c.loop-turn-test.false)))
