use Rattle.std.proofs.Common.{◌≡◌, ◌∙◌, ◌+◌, ◌∷◌, drop, ap, sym, arith}
use Rattle.std.proofs.lemmas.List.{drop_all, drop_more}
use Rattle.events.specs.declared.timed_event.TimedEvent.{TimedEvent}
use Rattle.view_page.specs.Pages.{after_events}
use Rattle.view_page.proofs.Events.{here, one_taken, past}
use Rattle.view_page.proofs.page.Page.take_all.Goals as goal

pub loop-event-init : goal.loop-event-init
loop-event-init c = λ s is. here c.args.self.now c.args.events.now s is

pub loop-event-preserved : goal.loop-event-preserved
loop-event-preserved c = λ s is.
    let events = c.args.events.now in
    let i = c.loop-event.event-index in
    let left : drop i events ≡ c.event-item.result ∷ drop (i + 1) events =
    drop_more events i c.event-item.result c.loop-event-test.true ∙ ap (λ (e : TimedEvent). e ∷ drop (i + 1) events) (sym c.event-item.is) in
    one_taken c.loop-event.self c.take.new.self events i c.event-item.result (after_events s events) left c.in_ok-take.ensures (c.loop-event.invariant s is)

pub returns : goal.returns
returns c = λ s is. past c.loop-event.self c.args.events.now c.loop-event.event-index (after_events s c.args.events.now)
    (drop_all c.loop-event.event-index c.args.events.now (omega (arith, c.loop-event-test.false))) (c.loop-event.invariant s is)
