-- Events one by one, and packets one by one
use Rattle.std.proofs.Common.{◌≡◌, ◌∙◌, sym, ℕ, List, [], ◌∷◌, ◌++◌, ap, subst, append_assoc, append-nil}
use Rattle.events.specs.declared.event.Event.{Event}
use Rattle.events.specs.declared.timed_event.TimedEvent.{TimedEvent}
use Rattle.analysis.specs.declared.analyser.Analyser.{Analyser}
use Rattle.analysis.specs.Analysis.{AnalysisState, IsAnalysed, after_all, after_packet, all_timed, events_all, events_at, timed, with_event, with_events}

-- 1. Events one by one

-- The state of an analyser after some events, with the remaining events and the lines that are still to be written
pub record Going (analyser : Analyser) (left : List Event) (out : List TimedEvent) (last : AnalysisState) (whole : List TimedEvent) : Type 0 where
  pub now : AnalysisState
  pub is : IsAnalysed analyser now
  pub kept : with_events now left ≡ last
  pub rest : out ++ all_timed now left ≡ whole

pub event_taken : (old new : Analyser) (event : Event) (left : List Event) (out out' : List TimedEvent) (last : AnalysisState) (whole : List TimedEvent) →
    ((s : AnalysisState) → IsAnalysed old s → IsAnalysed new (with_event s event)) → ((s : AnalysisState) → IsAnalysed old s → out' ≡ out ++ timed s event) →
    Going old (event ∷ left) out last whole → Going new left out' last whole
unfolding with_events all_timed
event_taken old new event left out out' last whole takes writes g = record {
  now = with_event g.now event;
  is = takes g.now g.is;
  kept = g.kept;
  rest = ap (λ (t : List TimedEvent). t ++ all_timed (with_event g.now event) left) (writes g.now g.is)
      ∙ append_assoc out (timed g.now event) (all_timed (with_event g.now event) left) ∙ g.rest;
}

pub events_kept : (analyser : Analyser) (out : List TimedEvent) (last : AnalysisState) (whole : List TimedEvent) → Going analyser [] out last whole →
    IsAnalysed analyser last
unfolding with_events
events_kept analyser out last whole g = subst (IsAnalysed analyser) g.kept g.is

pub events_written : (analyser : Analyser) (out : List TimedEvent) (last : AnalysisState) (whole : List TimedEvent) → Going analyser [] out last whole →
    out ≡ whole
unfolding all_timed
events_written analyser out last whole g = sym (append-nil out) ∙ g.rest

-- 2. Packets one by one

-- The state of an analyser after some packets, with the remaining packets and the events that still follow
pub record Settled (analyser : Analyser) (packets : List (List ℕ)) (events : List TimedEvent) (last : AnalysisState) (whole : List TimedEvent) : Type 0 where
  pub now : AnalysisState
  pub is : IsAnalysed analyser now
  pub kept : after_all now packets ≡ last
  pub rest : events ++ events_all now packets ≡ whole

pub one_taken : (old new : Analyser) (packet : List ℕ) (packets : List (List ℕ)) (events events' : List TimedEvent) (last : AnalysisState)
    (whole : List TimedEvent) →
    ((s : AnalysisState) → IsAnalysed old s → IsAnalysed new (after_packet s packet)) →
    ((s : AnalysisState) → IsAnalysed old s → events' ≡ events ++ events_at s packet) →
    Settled old (packet ∷ packets) events last whole → Settled new packets events' last whole
unfolding after_all events_all
one_taken old new packet packets events events' last whole takes writes s = record {
  now = after_packet s.now packet;
  is = takes s.now s.is;
  kept = s.kept;
  rest = ap (λ (t : List TimedEvent). t ++ events_all (after_packet s.now packet) packets) (writes s.now s.is)
      ∙ append_assoc events (events_at s.now packet) (events_all (after_packet s.now packet) packets) ∙ s.rest;
}

pub all_kept : (analyser : Analyser) (events : List TimedEvent) (last : AnalysisState) (whole : List TimedEvent) → Settled analyser [] events last whole →
    IsAnalysed analyser last
unfolding after_all
all_kept analyser events last whole s = subst (IsAnalysed analyser) s.kept s.is

pub all_settled : (analyser : Analyser) (events : List TimedEvent) (last : AnalysisState) (whole : List TimedEvent) → Settled analyser [] events last whole →
    events ≡ whole
unfolding events_all
all_settled analyser events last whole s = sym (append-nil events) ∙ s.rest
