-- If packets arrive in order, the bytes of a stream do too, up to the end of a window. The line `held` then has the greatest fullness of the transport buffer.
use Rattle.std.proofs.Common.{◌≡◌, ◌∙◌, ℕ, ◌+◌, ◌^◌, ◌≤◌, ◌<◌, true, List, [], ◌∷◌, ◌++◌, length, Some, ap, subst, inl, inr, arith, All}
use Rattle.std.specs.Prelude.{◌==◌, slice_get}
use Rattle.std.proofs.lemmas.List.{length-append}
use Rattle.std.proofs.lemmas.List.Elements.{All-nil, All-cons, All-head, All-tail}
use Rattle.tstd_rows.specs.TransportLaws.{Rises}
use Rattle.arrival.specs.Arrivals.{step_of}
use Rattle.laws_view.specs.Leads.{AllLead}
use Rattle.laws_view.specs.TimedPackets.{Timed}
use Rattle.laws_view.specs.Times.{times_among}
use Rattle.laws_view.proofs.Rising.{among-append}
use Rattle.tstd_rows.specs.History.{arrivals_of}
use Rattle.tstd_rows.specs.Held.{Held}
use Rattle.ts_watch.specs.Choices.{RequestView}
use Rattle.es_view.specs.Entries.{EntryState}
use Rattle.ts_report.specs.Views.{start}
use Rattle.laws_view.specs.HeldWindows.{OfWindow, window_entering}
use Rattle.laws_view.specs.StreamPackets.{most_packets}
use Rattle.laws_view.specs.TimedStreams.{InOrder, after_entering, entering_among, view_by}
use Rattle.laws_view.specs.TransportHighs.{IsFullWith}
use Rattle.laws_view.proofs.HeldWindows.{window_held}
use Rattle.laws_view.proofs.Steps.{followed, known}
use Rattle.laws_view.proofs.TimedExcesses.{rate_by}
use Rattle.laws_view.proofs.TimedGrown.{BeganBy, came_by}
use Rattle.laws_view.proofs.TimedOrder.{that_one}
use Rattle.laws_view.proofs.TimedWhole.{timed_stream_law}
use Rattle.laws_view.proofs.TransportHighs.{timed_transport_law}
use Rattle.laws_view.proofs.Whole.{none_agree}

-- The first of rising times

first_rise : (from : ℕ) (ts us : List ℕ) → Rises from (ts ++ us) → Rises from ts
unfolding Rises
first_rise from [] us rises = tt
first_rise from (t ∷ ts) us rises = (rises.0, first_rise t ts us rises.1)

first_lead : (index : ℕ) (ps qs : List Timed) → AllLead index (ps ++ qs) → AllLead index ps
unfolding AllLead
first_lead index [] qs all = tt
first_lead index (p ∷ ps) qs all = (all.0, first_lead (index + 1) ps qs all.1)

pub first_all : (P : Timed → Type 0) (ps qs : List Timed) → All P (ps ++ qs) → All P ps
first_all P [] qs all = All-nil P
first_all P (p ∷ ps) qs all = All-cons P p ps (All-head P p (ps ++ qs) all) (first_all P ps qs (All-tail P p (ps ++ qs) all))

pub first_in_order : (step : ℕ) (ps qs : List Timed) → InOrder step (ps ++ qs) → InOrder step ps
first_in_order step ps qs order = record {
  rises = λ chosen drain. first_rise 0 (times_among chosen drain 0 ps) (times_among chosen drain (0 + length ps) qs)
      (subst (λ (ts : List ℕ). Rises 0 ts) (among-append chosen drain 0 ps qs) (order.rises chosen drain));
  leads = first_lead 0 ps qs order.leads;
  same = first_all (λ p. step_of p.arrival ≡ step) ps qs order.same;
}

-- A stream of packets in order

-- Each byte takes the same step in the stream's buffers.
pub step_is : (request : RequestView) (step : ℕ) (packets : List Timed) (place : ℕ) (e : EntryState) → All (λ p. step_of p.arrival ≡ step) packets →
    length packets < 2 ^ 64 →
    slice_get (view_by (start request) packets).table.entries place ≡ Some e → e.held.rate ≡ step
step_is request step packets place e all few there =
    elim (came_by (start request) packets place e (none_agree request) (omega (arith, few)) there) [
      | inl old ↦ absurd (none place old.0 old.1)
      | inr b ↦ began b
    ]
  where
    none : (j : ℕ) (d : EntryState) → slice_get [] j ≡ Some d → ⊥
    none j d h = cc

    began : BeganBy (start request) packets e → e.held.rate ≡ step
    began b =
        let first : step_of b.p.arrival ≡ step =
        that_one (λ p. step_of p.arrival ≡ step) b.before b.p b.later (subst (λ (l : List Timed). All (λ p. step_of p.arrival ≡ step) l) b.split all) in
        ap (λ (h : Held). h.rate) b.grown.held
        ∙ rate_by b.first.held
        (entering_among (followed (view_by (start request) b.before) b.first) (known (view_by (start request) b.before) b.first) (b.p ∷ b.later))
        ∙ ap (λ (x : EntryState). x.held.rate) b.begins.is ∙ first

-- The bytes that have entered the transport buffer arrived in order.
window_rises : (request : RequestView) (step : ℕ) (before packets : List Timed) (window place : ℕ) (e e' : EntryState) →
    OfWindow request before packets window place e e' → 0 < step → InOrder step (before ++ packets) → length before + length packets ≤ most_packets →
    Rises 0 (arrivals_of (after_entering e.held (window_entering request before e packets)).parts)
window_rises request step before packets window place e e' w pos order few =
    let whole = timed_stream_law request step (before ++ packets) place e' pos order (omega (arith, few, length-append before packets)) w.come in
    subst (λ (h : Held). Rises 0 (arrivals_of h.parts)) (window_held request before packets window place e e' w) whole.rises

pub ordered_transport : (request : RequestView) (step : ℕ) (before packets : List Timed) (window place : ℕ) (e e' : EntryState) →
    OfWindow request before packets window place e e' → (e'.tally.window == window) ≡ true → 0 < step → InOrder step (before ++ packets) →
    length before + length packets ≤ most_packets → 0 < e'.tally.window_transport →
    IsFullWith e.held (window_entering request before e packets) e'.tally.window_transport
ordered_transport request step before packets window place e e' w reported pos order few some =
    let same = step_is request step before place e (first_in_order step before packets order).same (omega (arith, few)) w.begun in
    timed_transport_law request before packets window place e e' w reported (omega (arith, pos, same))
    (window_rises request step before packets window place e e' w pos order few) some
