use Rattle.es_view.proofs.Leaks.{none_stays, some_stays}
use Rattle.es_view.proofs.stream_entry.push_leak_stay.Goals as goal

pub returns-in-None : goal.returns-in-None
returns-in-None c = λ h held sizes same k.
    none_stays c.args.options.now c.args.place.now c.args.buffers.now.video sizes held h c.args.events.now.items c.in-None.is k

pub returns-in_ok-push_busy_if-in-Some : goal.returns-in_ok-push_busy_if-in-Some
returns-in_ok-push_busy_if-in-Some c = λ h held sizes same k.
    some_stays c.args.options.now c.args.place.now c.args.buffers.now.video c.in-Some.video sizes held h c.args.count c.args.events.now.items
    c.push_busy_if.new.events.items
    c.in-Some.is k same c.in_ok-push_busy_if-in-Some.ensures
