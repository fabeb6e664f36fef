use Rattle.std.proofs.Common.{◌≡◌, ◌∙◌, ℕ, List, ◌++◌, Option, refl, ap, ap₂, is_some, if◌then◌else◌}
use Rattle.ts_packet.specs.Views.{packet_view}
use Rattle.tstd_rows.specs.Held.{Held}
use Rattle.tstd_rows.specs.declared.busy_watch.Stay.{Stay}
use Rattle.events.specs.declared.event.Event.{Event}
use Rattle.events.specs.declared.rule_event.BufferKind.{BufferKind}
use Rattle.es_events.specs.declared.clocks.Beginning.{Beginning}
use Rattle.es_events.specs.declared.entry_events.Place.{Place}
use Rattle.es_events.specs.EntryEvents.{ahead_events}
use Rattle.es_view.specs.LastPayloads.{LastView, kept}
use Rattle.es_view.specs.EntryFrames.{busy_seen, counts_of, stays_ended}
use Rattle.es_events.specs.EntryStays.{delayed_events}
use Rattle.es_view.specs.Entries.{IsEntry, ahead_by, beginning_in, entry_entered, events_entered, held_after, last_buffer, place_at, seen_held}
use Rattle.es_view.specs.Entries.{unit_stay}
use Rattle.es_events.specs.MarkTallies.{with_beginning}
use Rattle.es_events.specs.Tallies.{more}
use Rattle.es_view.proofs.Framings.{entered_held, entry_counted}
use Rattle.es_events.proofs.Joins.{four}
use Rattle.es_view.proofs.stream_entry.StreamEntry.take.Goals as goal

pub returns-clause-entry : goal.returns-clause-entry
returns-clause-entry c = λ e k.
    let options = c.args.options.now in
    let packet = packet_view c.args.packet.now in
    let clock = c.args.clock.now in
    let index = c.args.index in
    let s : IsEntry c.enter.new.self (entry_entered options index c.args.window clock e packet) = c.in_ok-enter.ensures.entry e k in
    let stay : c.unit_stay-stay.result ≡ unit_stay options index clock e.limit e.last packet =
    c.unit_stay-stay.ensures ∙ ap₂ (λ (l : ℕ) (n : LastView). unit_stay options index clock l n packet) k.limit k.last in
    let beginning : c.beginning_in-beginning.result ≡ beginning_in e.last packet =
    c.beginning_in-beginning.ensures ∙ ap (λ (n : LastView). beginning_in n packet) k.last in
    entry_counted c.enter.new.self _ options index c.args.window clock e packet s refl refl
    (c.in_ok-keep.ensures ∙ ap (λ (l : LastView). kept l packet) s.last) refl refl refl
    c.add_delayed_if.ensures.buffers c.add_delayed_if.ensures.tally
    (c.add_delayed_if.ensures.delayed ∙ ap (λ (o : Option Stay). more c.enter.new.self.seen.delayed (if is_some o then 1 else 0)) stay)
    (c.add_packet.ensures ∙ ap (λ (b : Beginning). with_beginning c.enter.new.self.mark_tally b packet) beginning)

pub returns-clause-found : goal.returns-clause-found
returns-clause-found c = λ e k.
    let options = c.args.options.now in
    let packet = packet_view c.args.packet.now in
    let clock = c.args.clock.now in
    let index = c.args.index in
    let s : IsEntry c.enter.new.self (entry_entered options index c.args.window clock e packet) = c.in_ok-enter.ensures.entry e k in
    let stay : c.unit_stay-stay.result ≡ unit_stay options index clock e.limit e.last packet =
    c.unit_stay-stay.ensures ∙ ap₂ (λ (l : ℕ) (n : LastView). unit_stay options index clock l n packet) k.limit k.last in
    let beginning : c.beginning_in-beginning.result ≡ beginning_in e.last packet =
    c.beginning_in-beginning.ensures ∙ ap (λ (n : LastView). beginning_in n packet) k.last in
    let place : c.place-place.result ≡ place_at index e = c.place-place.ensures e k in
    let ahead : c.ahead_by.result ≡ ahead_by clock (beginning_in e.last packet) = c.ahead_by.ensures ∙ ap (ahead_by clock) beginning in
    let buffer : c.last_buffer-buffer.result ≡ last_buffer e.video = c.last_buffer-buffer.ensures (seen_held e) e.video k.video in
    let held : Held = seen_held (entry_entered options index c.args.window clock e packet) in
    let before : c.busy_counts-before.result ≡ counts_of (busy_seen e.video (seen_held e)) =
    c.busy_counts-before.ensures (seen_held e) e.video k.held k.video in
    let t0 : List Event = c.args.events.now.items in
    let t1 : List Event = c.push_ahead_if.new.events.items in
    let t2 : List Event = c.push_delayed_if.new.events.items in
    let t3 : List Event = c.enter.new.events.items in
    let t4 : List Event = c.push_stays.new.events.items in
    let first : t1 ≡ t0 ++ ahead_events (place_at index e) (ahead_by clock (beginning_in e.last packet)) =
    c.in_ok-push_ahead_if.ensures ∙ ap₂ (λ (p : Place) (o : Option ℕ). t0 ++ ahead_events p o) place ahead in
    let second : t2 ≡ t1 ++ delayed_events options (place_at index e) (last_buffer e.video) e.limit (unit_stay options index clock e.limit e.last packet) =
    c.in_ok-push_delayed_if.ensures
    ∙ ap₂ (λ (p : Place) (b : BufferKind). t1 ++ delayed_events options p b c.args.self.now.limit c.unit_stay-stay.result) place buffer
    ∙ ap₂ (λ (l : ℕ) (o : Option Stay). t1 ++ delayed_events options (place_at index e) (last_buffer e.video) l o) k.limit stay in
    let third : t3 ≡ t2 ++ events_entered options index clock (place_at index e) e packet e.framed =
    c.in_ok-enter.ensures.found e k ∙ ap (λ (p : Place). t2 ++ events_entered options index clock p e packet e.framed) place in
    let fourth : t4 ≡ t3
    ++ stays_ended options (place_at index e) (busy_seen e.video (seen_held e)) (busy_seen e.video (held_after options index clock e packet e.framed)) =
    c.in_ok-push_stays.ensures held (seen_held e) e.video before s.held s.video
    ∙ ap (λ (p : Place). t3 ++ stays_ended options p (busy_seen e.video (seen_held e)) (busy_seen e.video held)) place
    ∙ ap (λ (h : Held). t3 ++ stays_ended options (place_at index e) (busy_seen e.video (seen_held e)) (busy_seen e.video h))
    (entered_held options index c.args.window clock e packet) in
    four t0 t1 t2 t3 t4 _ _ _ _ first second third fourth
