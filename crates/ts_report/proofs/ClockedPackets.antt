-- Packets one by one, if packets may wait
use Rattle.std.proofs.Common.{◌≡◌, ◌∙◌, sym, ℕ, List, [], ◌∷◌, ◌++◌, ap, subst, append_assoc, append-nil}
use Rattle.events.specs.declared.event.Event.{Event}
use Rattle.ts_report.specs.declared.clocked_view.ClockedView.{ClockedView}
use Rattle.ts_report.specs.ClockedViews.{ClockedState, IsClocked, after_all, after_packet, events_all, events_at}

-- The state of a view after some packets, with the remaining packets and the events that still follow
pub record Settled (view : ClockedView) (packets : List (List ℕ)) (events : List Event) (last : ClockedState) (whole : List Event) : Type 0 where
  pub now : ClockedState
  pub is : IsClocked view now
  pub kept : after_all now packets ≡ last
  pub rest : events ++ events_all now packets ≡ whole

pub one_taken : (view view' : ClockedView) (packet : List ℕ) (packets : List (List ℕ)) (events events' : List Event) (last : ClockedState) (whole : List Event)
    →
    ((s : ClockedState) → IsClocked view s → IsClocked view' (after_packet s packet)) →
    ((s : ClockedState) → IsClocked view s → events' ≡ events ++ events_at s packet) →
    Settled view (packet ∷ packets) events last whole → Settled view' packets events' last whole
unfolding after_all events_all
one_taken view view' packet packets events events' last whole takes writes s = record {
  now = after_packet s.now packet;
  is = takes s.now s.is;
  kept = s.kept;
  rest = ap (λ (t : List Event). t ++ events_all (after_packet s.now packet) packets) (writes s.now s.is)
      ∙ append_assoc events (events_at s.now packet) (events_all (after_packet s.now packet) packets) ∙ s.rest;
}

pub all_kept : (view : ClockedView) (events : List Event) (last : ClockedState) (whole : List Event) → Settled view [] events last whole → IsClocked view last
unfolding after_all
all_kept view events last whole s = subst (IsClocked view) s.kept s.is

pub all_settled : (view : ClockedView) (events : List Event) (last : ClockedState) (whole : List Event) → Settled view [] events last whole → events ≡ whole
unfolding events_all
all_settled view events last whole s = sym (append-nil events) ∙ s.rest
