use Rattle.std.proofs.Common.{◌≡◌, ◌∙◌, ℕ, List, ◌++◌, ap, ap₂, append_assoc}
use Rattle.tstd_rows.specs.declared.busy_watch.BusyWatch.{BusyWatch}
use Rattle.tstd_rows.specs.Held.{transport_busy}
use Rattle.events.specs.declared.event.Event.{Event}
use Rattle.events.specs.declared.rule_event.BufferKind.TheVariants.{Transport}
use Rattle.es_events.specs.EntryStays.{busy_ended, busy_since}
use Rattle.es_view.specs.declared.counted_buffers.BusyCounts.{BusyCounts}
use Rattle.es_view.specs.EntryFrames.{leak_busy_of, leak_ended}
use Rattle.es_view.proofs.stream_entry.push_stays.Goals as goal

pub returns : goal.returns
returns c = λ h held sizes same is k.
    let options = c.args.options.now in
    let place = c.args.place.now in
    let t0 : List Event = c.args.events.now.items in
    let ended : List Event = busy_ended options place Transport (transport_busy held) (transport_busy h) in
    let leaks : List Event = leak_ended options place (leak_busy_of sizes held) (leak_busy_of sizes h) in
    let first : c.push_busy_if.new.events.items ≡ t0 ++ ended =
    c.in_ok-push_busy_if.ensures
    ∙ ap₂ (λ (n : ℕ) (b : BusyWatch). t0 ++ busy_since options place Transport n b) (ap (λ (b : BusyCounts). b.transport) same) is.busy in
    c.in_ok-push_leak_stay.ensures h held sizes (ap (λ (b : BusyCounts). b.multiplexing) same) k
    ∙ ap (λ (t : List Event). t ++ leaks) first ∙ append_assoc t0 ended leaks
