use Rattle.analysis.specs.Analysis.{start}
use Rattle.tsview_cli.proofs.CapturedParts.{so_far_none}
use Rattle.tsview_cli.proofs.captured.CapturedView.new.Goals as goal

pub returns-clause-view : goal.returns-clause-view
returns-clause-view c = so_far_none _ (start c.args.request) c.new.ensures c.new-2.ensures.analysed
