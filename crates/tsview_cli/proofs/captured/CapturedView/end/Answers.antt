use Rattle.std.proofs.Common.{[], refl}
use Rattle.tsview_cli.specs.declared.captured.ViewedParts.{ViewedParts}
use Rattle.tsview_cli.proofs.CapturedParts.{ended_by, takes_none}
use Rattle.tsview_cli.proofs.captured.CapturedView.end.Goals as goal

pub returns : goal.returns
returns c = λ first bytes found so_far.
    let begin : ViewedParts = record { view = c.args.self.now.parts.view; events = c.clear.new.self } in
    ended_by c.push_last.result c.args.rate first c.args.self.now c.end.new.taker _ begin bytes found c.in_ok-end.end so_far refl c.clear.ensures.items
    (c.in_ok-end.ensures begin [] (takes_none begin)) c.push_last.ensures.events c.push_last.ensures.good
