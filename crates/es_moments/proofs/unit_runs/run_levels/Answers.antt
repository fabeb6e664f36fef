use Rattle.std.proofs.Common.{◌-◌, ◌∙◌, refl, arith}
use Rattle.es_moments.specs.UnitRuns.{step_of, level_over, greatest_over}
use Rattle.es_moments.proofs.RunLevels.{run_after, run_greatest}
use Rattle.es_moments.proofs.unit_runs.run_levels.Goals as goal

pub returns-then-run-eq0-clause-after : goal.returns-then-run-eq0-clause-after
unfolding level_over
returns-then-run-eq0-clause-after c = rw c.if-run-eq0.true refl

pub returns-then-run-eq0-clause-greatest : goal.returns-then-run-eq0-clause-greatest
unfolding greatest_over
returns-then-run-eq0-clause-greatest c = rw c.if-run-eq0.true refl

pub returns-clause-after : goal.returns-clause-after
returns-clause-after c =
    run_after c.args.pace c.args.level c.args.run.count (c.args.run.count - 1) c.first_level-first.result c.later_level-last.result (step_of c.args.run)
    (omega (arith, c.if-run-eq0.false)) c.first_level-first.ensures.value c.later_level-last.ensures.value

pub returns-clause-greatest : goal.returns-clause-greatest
returns-clause-greatest c =
    c.max.ensures
    ∙ run_greatest c.args.pace c.args.level c.args.run.count (c.args.run.count - 1) c.first_level-first.result c.later_level-last.result (step_of c.args.run)
    (omega (arith, c.if-run-eq0.false)) c.first_level-first.ensures.value c.later_level-last.ensures.value
