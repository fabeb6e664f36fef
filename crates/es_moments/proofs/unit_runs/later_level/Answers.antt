use Rattle.std.proofs.Common.{◌∙◌, sym}
use Rattle.es_moments.specs.UnitRuns.{step_of}
use Rattle.es_moments.proofs.RunLevels.{alike_after}
use Rattle.es_moments.proofs.unit_runs.later_level.Goals as goal

pub returns : goal.returns
returns c = record {
  value = c.max.ensures
      ∙ (rw (c.saturating_sub.ensures, c.from-on.ensures, c.from.ensures, c.from-2.ensures, c.from-more.ensures)
      (sym (alike_after c.args.pace c.args.more c.args.first (step_of c.args.run) c.requires.above)));
}
