use Rattle.std.proofs.Common.{◌++◌}
use Rattle.view_page.specs.Pages.{after_events}
use Rattle.tsview_cli.specs.CapturedStreams.{IsMore, events_of}
use Rattle.tsview_cli.proofs.Drawn.{drawn_more, on_ok}
use Rattle.tsview_cli.proofs.drawing.Drawing.take.Goals as goal

pub returns : goal.returns
returns c = λ s p bytes d.
    let m : IsMore s c.take.new.self (bytes ++ c.args.piece.now) d.found = c.in_ok-take.ensures s bytes d.found d.so_far in
    on_ok c.take_all.result
    (λ page. drawn_more s p c.take.new.self c.take_all.new.self (bytes ++ c.args.piece.now) d.found c.deref.result.now m c.deref.ensures.value page)
    (c.take_all.ensures (after_events p (events_of s d.found)) d.page)
