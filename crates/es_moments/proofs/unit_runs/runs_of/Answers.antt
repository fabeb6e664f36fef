use Rattle.std.specs.List.{flat_map}
use Rattle.std.proofs.Common.{◌++◌, [], ◌∙◌, List, get_or, refl, sym, ap}
use Rattle.std.proofs.lemmas.List.Elements.{All-push}
use Rattle.std.proofs.lemmas.List.{append-nil, flat_map_more}
use Rattle.es_moments.specs.UnitRuns.{IsRun, UnitStep, steps_of}
use Rattle.es_moments.proofs.UnitWeights.{counted_more, none, step_end}
use Rattle.es_moments.proofs.unit_runs.runs_of.Goals as goal

pub loop-weight-preserved : goal.loop-weight-preserved
loop-weight-preserved g c = record {
  steps = counted_more c.loop-weight.weight-index c.loop-weight.last c.saturating_sub-time.result c.args.weights.now
      (get_or c.args.weights.now c.loop-weight.weight-index none)
      _ _ _ c.loop-weight-test.true refl c.saturating_sub-time.ensures c.in_ok-run.ensures.steps c.loop-weight.invariant.steps;
  run = c.in_ok-run.ensures.next;
  runs = c.in_ok-run.ensures.runs;
}

pub returns-clause-steps : goal.returns-clause-steps
returns-clause-steps g c =
    ap (flat_map steps_of) c.in_ok-push.ensures.items ∙ sym (flat_map_more steps_of [] c.loop-weight.runs.items c.loop-weight.run)
    ∙ sym (c.loop-weight.invariant.steps ∙ ap (λ (ss : List UnitStep). (flat_map steps_of c.loop-weight.runs.items ++ steps_of c.loop-weight.run) ++ ss)
    (step_end c.loop-weight.weight-index c.loop-weight.last c.args.weights.now c.loop-weight-test.false)
    ∙ append-nil (flat_map steps_of c.loop-weight.runs.items ++ steps_of c.loop-weight.run))

pub returns-clause-runs : goal.returns-clause-runs
returns-clause-runs g c =
    rw c.in_ok-push.ensures.items (All-push IsRun c.loop-weight.runs.items c.loop-weight.run c.loop-weight.invariant.runs c.loop-weight.invariant.run)
