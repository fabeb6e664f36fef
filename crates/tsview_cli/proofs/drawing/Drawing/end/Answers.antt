use Rattle.view_page.specs.Pages.{after_events}
use Rattle.tsview_cli.specs.CapturedStreams.{IsEnded, events_of}
use Rattle.tsview_cli.proofs.Drawn.{drawn_end}
use Rattle.tsview_cli.proofs.drawing.Drawing.end.Goals as goal

pub returns : goal.returns
returns c = λ s p bytes d.
    let e : IsEnded c.args.rate s c.end.new.self bytes d.found c.in_ok-good.good = c.in_ok-good.ensures s bytes d.found d.so_far in
    drawn_end c.args.rate s p c.end.new.self c.take_all.new.self bytes d.found c.deref.result.now c.in_ok-good.good e c.deref.ensures.value
    (c.in_ok-take_all.ensures (after_events p (events_of s d.found)) d.page)
