-- The last events of a stream
use Rattle.std.proofs.Common.{◌≡◌, ◌∙◌, sym, ap, refl, ℕ, List, ◌++◌, ◌∷◌, [], None}
use Rattle.std.proofs.lemmas.List.{append_assoc}
use Rattle.events.specs.declared.event.Event.{Event}
use Rattle.es_events.specs.EntryEvents.{main_event, main_figures, transport_total, under_way_events}
use Rattle.es_view.specs.Entries.{EntryState, closed, closed_seen, place_at, seen_held, stays_closing}
use Rattle.es_view.specs.HeldEvents.{tally_events}
use Rattle.es_events.specs.MarkTallies.{mark_events}
use Rattle.es_events.specs.VideoEvents.{video_closing_events}
use Rattle.es_events.specs.VideoFigures.{figures_of}
use Rattle.laws_view.specs.WholeStreams.{LastEventsLaw}

by_packets : (window : ℕ) (e : EntryState) → e.framed ≡ None → (seen_held e ≡ e.held) × (closed_seen window e ≡ closed window e)
unfolding Rattle.es_view.specs.Entries.held_in Rattle.es_view.specs.Entries.tally_in
by_packets window e none = rw none (refl, refl)

pub last_events_law : LastEventsLaw
last_events_law options count window e =
    let h = seen_held e in
    let t = closed_seen window e in
    let window_events = tally_events options window (place_at count e) t h in
    let under_way = under_way_events options (place_at count e) h in
    let totals = transport_total (place_at count e) h t ∷ main_event (place_at count e) (main_figures h t) t ∷ [] in
    let after = video_closing_events options (place_at count e) (figures_of e.video h) t.units e.video_tally
    ++ (stays_closing options (place_at count e) e ++ mark_events e.pid e.mark_tally) in
    record {
      before = window_events ++ under_way;
      events = ap (λ (es : List Event). window_events ++ es) (append_assoc under_way totals after)
          ∙ sym (append_assoc window_events under_way (totals ++ after));
      by_packets = by_packets window e;
    }
