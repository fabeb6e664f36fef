use Rattle.std.proofs.Common.{ℕ, Bool, Option, subst}
use Rattle.analysis.specs.Analysis.{start}
use Rattle.view_page.specs.Pages.{IsPage, no_events}
use Rattle.tsview_cli.specs.Drawing.{first_page}
use Rattle.tsview_cli.proofs.Drawn.{drawn_none}
use Rattle.tsview_cli.proofs.drawing.Drawing.new.Goals as goal

pub returns : goal.returns
returns c =
    drawn_none c.new.result c.new-page.result (start c.args.request) (first_page c.args.request) c.new.ensures.view
    (subst (λ (r : Option ℕ). IsPage c.new-page.result (no_events c.args.request.options.window r c.args.request.stamps)) c.rate_of-rate.ensures
    (subst (λ (n : ℕ). IsPage c.new-page.result (no_events n c.rate_of-rate.result c.args.request.stamps)) c.window_of.ensures
    (subst (λ (b : Bool). IsPage c.new-page.result (no_events c.window_of.result c.rate_of-rate.result b)) c.stamps_of.ensures c.new-page.ensures)))
