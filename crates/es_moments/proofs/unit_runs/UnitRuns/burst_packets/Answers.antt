use Rattle.std.proofs.Common.{◌≡◌, ◌≤◌, ◌-◌, ◌^◌, ◌∙◌, ℕ, ap, min, sym, arith}
use Rattle.std.specs.Int.{div_ceil}
use Rattle.clock27.specs.Units.{slot_units_at_1bps}
use Rattle.clock27.proofs.MinMax.{max_is}
use Rattle.es_moments.specs.UnitRuns.{UnitRunsView, greatest_over}
use Rattle.es_moments.proofs.UnitCounts.{over_most, at_most}
use Rattle.es_moments.proofs.RunLevels.{run_more, runs_end, same_burst}
use Rattle.es_moments.proofs.unit_runs.UnitRuns.burst_packets.Goals as goal

pub loop-run-preserved : goal.loop-run-preserved
loop-run-preserved g c =
    let now = c.run_levels-after in
    record {
      greatest = run_more c.args.pace c.loop-run.level now.result.0 now.result.1 c.loop-run.greatest c.max-greatest.result
          (greatest_over c.args.pace 0 c.args.self.now.steps) c.loop-run.run-index
          c.self.inside.runs.items c.deref-run-items.result.now (record { time = 0; packets = 0; count = 0 }) c.deref-run-items.ensures.value
          c.loop-run-test.true
          now.ensures.after now.ensures.greatest c.max-greatest.ensures c.loop-run.invariant.greatest;
      bound = omega arith;
      level = omega (
        arith,
        now.ensures.within,
        c.max-greatest.ensures,
        max_is c.loop-run.greatest now.result.1,
        max_is c.loop-run.level now.result.1,
        c.loop-run.invariant.level,
      );
    }

pub returns-then-greatest-gt-MAX_LEVEL-clause-value : goal.returns-then-greatest-gt-MAX_LEVEL-clause-value
returns-then-greatest-gt-MAX_LEVEL-clause-value g c =
    let now = c.run_levels-after in
    let all : ℕ = greatest_over c.args.pace 0 c.args.self.now.steps in
    let more = run_more c.args.pace c.loop-run.level now.result.0 now.result.1 c.loop-run.greatest c.max-greatest.result all c.loop-run.run-index
    c.self.inside.runs.items c.deref-run-items.result.now (record { time = 0; packets = 0; count = 0 }) c.deref-run-items.ensures.value c.loop-run-test.true
    now.ensures.after now.ensures.greatest c.max-greatest.ensures c.loop-run.invariant.greatest in
    let reached : c.max-greatest.result ≤ all = omega (arith, more) in
    omega (arith, over_most all (2 ^ 64 - 1) (omega (arith, reached, c.if-greatest-gt-MAX_LEVEL.true)))

pub returns-then-greatest-gt-MAX_LEVEL-clause-of_units : goal.returns-then-greatest-gt-MAX_LEVEL-clause-of_units
returns-then-greatest-gt-MAX_LEVEL-clause-of_units g c = λ id base0 us is.
    returns-then-greatest-gt-MAX_LEVEL-clause-value g c ∙ ap (λ (burst : ℕ). min burst (2 ^ 64 - 1)) (same_burst id base0 c.args.pace us c.args.self.now is)

pub returns-clause-value : goal.returns-clause-value
returns-clause-value g c =
    let all : ℕ = greatest_over c.args.pace 0 c.args.self.now.steps in
    let none_left =
    runs_end c.args.pace c.loop-run.level c.loop-run.run-index c.self.inside.runs.items c.deref-run-items.result.now c.deref-run-items.ensures.value
    c.loop-run-test.false in
    let same : all ≡ c.loop-run.greatest = omega (arith, c.loop-run.invariant.greatest, none_left) in
    let burst : c.div_ceil-burst.result ≡ div_ceil all slot_units_at_1bps =
    c.div_ceil-burst.ensures ∙ ap (λ (level : ℕ). div_ceil level slot_units_at_1bps) (sym same) in
    let few : div_ceil all slot_units_at_1bps ≤ 2 ^ 64 - 1 = at_most all (2 ^ 64 - 1) (omega (arith, same, c.loop-run.invariant.bound)) in
    let own : c.self.inside.largest ≡ c.args.self.now.largest = ap (λ (runs : UnitRunsView). runs.largest) c.self.view_is in
    omega (arith, own, burst, few, c.max.ensures, c.max.type_inv, max_is c.self.inside.largest c.div_ceil-burst.result)

pub returns-clause-of_units : goal.returns-clause-of_units
returns-clause-of_units g c = λ id base0 us is.
    returns-clause-value g c ∙ ap (λ (burst : ℕ). min burst (2 ^ 64 - 1)) (same_burst id base0 c.args.pace us c.args.self.now is)
