use Rattle.std.proofs.Common.{[], refl}
use Rattle.tsview_cli.specs.declared.captured.ViewedParts.{ViewedParts}
use Rattle.tsview_cli.proofs.CapturedParts.{is_more, on_two, takes_none}
use Rattle.tsview_cli.proofs.captured.CapturedView.take.Goals as goal

pub returns : goal.returns
returns c = λ first bytes found so_far.
    let begin : ViewedParts = record { view = c.args.self.now.parts.view; events = c.clear.new.self } in
    on_two c.take.result (λ few taken. is_more first c.args.self.now _ begin bytes c.args.piece.now found so_far refl c.clear.ensures.items few taken)
    c.take.ensures.few (c.take.ensures.taken begin [] (takes_none begin))
