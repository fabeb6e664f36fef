-- At a constant rate all packets of a window arrive alike: a law of windows for any arrival says what a line `held` says at that rate.
use Rattle.std.proofs.Common.{◌≡◌, ◌∙◌, sym, ℕ, ◌+◌, ◌-◌, ◌*◌, ◌^◌, ◌≤◌, ◌<◌, nat_le, nat_lt, true, List, [], ◌∷◌, ◌++◌, length, refl, ap, subst, inl, inr}
use Rattle.std.proofs.Common.{arith}
use Rattle.std.specs.Prelude.{slice_get}
use Rattle.std.proofs.lemmas.List.{map-append}
use Rattle.arrival.specs.Arrivals.{has_times}
use Rattle.arrival.specs.declared.arrival.Arrival.{Arrival}
use Rattle.arrival.specs.declared.arrival.Arrival.TheVariants.{Unknown, AtRate, OnLines}
use Rattle.arrival.specs.declared.arrival.ClockLines.{ClockLines}
use Rattle.laws_view.specs.TimedPackets.{Timed, arriving_so}
use Rattle.laws_view.proofs.TimedPackets.{many_arrive}
use Rattle.tstd_rows.specs.History.{transport_of}
use Rattle.tstd_rows.specs.Held.{Held}
use Rattle.tstd_rows.specs.Entering.{after}
use Rattle.tstd_rows.specs.declared.arriving.Arriving.{Arriving}
use Rattle.es_events.specs.declared.view_options.ViewOptions.{ViewOptions}
use Rattle.ts_watch.specs.Choices.{RequestView}
use Rattle.es_view.specs.Entries.{EntryState}
use Rattle.ts_report.specs.Seen.{with_arrival}
use Rattle.ts_report.specs.StreamTables.{TableState}
use Rattle.ts_report.specs.Views.{ViewState, after_all, start}
use Rattle.ts_watch.specs.WindowEvents.{window_of}
use Rattle.laws_view.specs.HeldWindows.{BeginIn, HasHeld, HeldWindowLaw, OfRateWindow, OfWindow, RateWithoutLaw, known_then, window_entering, window_packets}
use Rattle.laws_view.specs.StreamPackets.{Before, Followed, most_packets}
use Rattle.laws_view.specs.TimedStreams.{Entering, InOrder, entering, entering_among, followed_by, view_by}
use Rattle.laws_view.specs.TransportHighs.{IsFullWith, RateTransportLaw}
use Rattle.laws_view.specs.WholeStreams.{followed as request_followed}
use Rattle.laws_view.specs.WindowHighs.{RateHighLaw}
use Rattle.laws_view.specs.WindowLows.{HasPayload}
use Rattle.laws_view.proofs.ClockedStreams.{Like, each_more}
use Rattle.laws_view.proofs.HeldWindows.{CountedOver, says_high, says_low, timed_without_law, window_counted}
use Rattle.laws_view.proofs.OrderedWindows.{ordered_transport}
use Rattle.laws_view.proofs.RateStreams.{Same, entering_is, followed_is, same_options}
use Rattle.laws_view.proofs.TimedOrder.{rate_order_law}
use Rattle.laws_view.proofs.WindowLows.{last_of_three}

-- Before a line is known no byte enters.
no_payload : (h : Held) (ps : List Arriving) → HasPayload h (entering Unknown ps) → ⊥
unfolding HasPayload has_times
no_payload h [] has = has
no_payload h (p ∷ ps) (inl here) =
    let known : has_times Unknown (188 * p.index) 188 ≡ true =
    last_of_three (nat_lt p.index most_packets) (nat_le (transport_of h.rate h.parts).bytes (2 ^ 40 - 188)) (has_times Unknown (188 * p.index) 188) here.0 in
    let no : ⊥ = cc in no
no_payload h (p ∷ ps) (inr later) = no_payload (after h Unknown p) ps later

begin_in : (o : ViewOptions) (a : Arrival) (window index : ℕ) (packets : List (List ℕ)) → with_arrival o a ≡ o →
    ((i : ℕ) → index ≤ i → i < index + length packets → window_of o i ≡ window) → BeginIn o window index (arriving_so a packets)
unfolding BeginIn
begin_in o a window index [] same all = tt
begin_in o a window index (bytes ∷ packets) same all =
    let rest = begin_in o a window (index + 1) packets same (λ i from to. all i (omega (arith, from)) (omega (arith, to))) in (
      ap (λ (x : ViewOptions). window_of x index) same ∙ all index (omega arith) (omega arith),
      subst (λ (x : ViewOptions). BeginIn x window (index + 1) (arriving_so a packets)) (sym same) rest,
    )

knows_then : (s s' : ViewState) (e : EntryState) → Like s s' → known_then s' e ≡ known_then s e
knows_then s s' e l = rw (l.packets, l.clocks) refl

-- All packets have this arrival, with times: the same window in a view of the packets one by one.
record Alike (request : RequestView) (a : Arrival) (before packets : List (List ℕ)) (window place : ℕ) (e e' : EntryState) : Type 0 where
  window_is : OfWindow request (arriving_so a before) (arriving_so a packets) window place e e'
  xs_are : window_entering request (arriving_so a before) e (arriving_so a packets) ≡ entering a (window_packets request before e packets)

so_both : (a : Arrival) (before packets : List (List ℕ)) → arriving_so a (before ++ packets) ≡ arriving_so a before ++ arriving_so a packets
so_both a before packets = map-append (λ bytes. record { arrival = a; bytes = bytes }) before packets

alike : (request : RequestView) (a : Arrival) (before packets : List (List ℕ)) (window place : ℕ) (e e' : EntryState) → (a ≡ Unknown → ⊥) →
    request.options.arrival ≡ a →
    OfRateWindow request before packets window place e e' → Alike request a before packets window place e e'
alike request a before packets window place e e' known is w =
    let f : Followed = request_followed request e in
    let same : Same a f = same_options request.options a known is in
    let itself : Like (start request) (start request) = record { options = refl; packets = refl; clocks = refl; named = refl; table = refl } in
    let like : Like (after_all (start request) before) (view_by (start request) (arriving_so a before)) =
    each_more (start request) (start request) a before itself same in
    let like_all : Like (after_all (start request) (before ++ packets)) (view_by (start request) (arriving_so a (before ++ packets))) =
    each_more (start request) (start request) a (before ++ packets) itself same in
    let f_is : followed_by f (arriving_so a before) ≡ f = followed_is a f before same in
    let many : length (arriving_so a before) ≡ length before = many_arrive a before in
    record {
      window_is = record {
        few = omega (arith, many, many_arrive a packets, w.few);
        begun = ap (λ (t : TableState). slice_get t.entries place) like.table ∙ w.begun;
        come = ap (λ (l : List Timed). slice_get (view_by (start request) l).table.entries place) (sym (so_both a before packets))
            ∙ ap (λ (t : TableState). slice_get t.entries place) like_all.table ∙ w.come;
        other = w.other;
        all = subst (λ (g : Followed). BeginIn g.options window (length (arriving_so a before)) (arriving_so a packets)) (sym f_is)
            (subst (λ (i : ℕ). BeginIn request.options window i (arriving_so a packets)) (sym many)
            (begin_in request.options a window (length before) packets same w.all));
      };
      xs_are = ap (λ (g : Followed). entering_among g (known_then (view_by (start request) (arriving_so a before)) e) (arriving_so a packets)) f_is
          ∙ ap (λ (b : Before). entering_among f b (arriving_so a packets))
          (knows_then (after_all (start request) before) (view_by (start request) (arriving_so a before)) e like)
          ∙ entering_is a f (known_then (after_all (start request) before) e) packets same;
    }

rate_known : (rate : ℕ) → AtRate rate ≡ Unknown → ⊥
rate_known rate h = cc

lines_known : (lines : ClockLines) → OnLines lines ≡ Unknown → ⊥
lines_known lines h = cc

-- If a byte enters, the packets have times.
rate_counted : (request : RequestView) (before packets : List (List ℕ)) (window place : ℕ) (e e' : EntryState) →
    OfRateWindow request before packets window place e e' →
    HasPayload e.held (entering request.options.arrival (window_packets request before e packets)) →
    CountedOver e.tally e'.tally window e.held (entering request.options.arrival (window_packets request before e packets))
rate_counted request before packets window place e e' w has = by request.options.arrival refl
  where
    those : (request.options.arrival ≡ Unknown → ⊥) →
        CountedOver e.tally e'.tally window e.held (entering request.options.arrival (window_packets request before e packets))
    those known =
        let a : Arrival = request.options.arrival in
        let l = alike request a before packets window place e e' known refl w in
        subst (λ (xs : List Entering). CountedOver e.tally e'.tally window e.held xs) l.xs_are
        (window_counted request (arriving_so a before) (arriving_so a packets) window place e e' l.window_is)

    by : (a : Arrival) → request.options.arrival ≡ a →
        CountedOver e.tally e'.tally window e.held (entering request.options.arrival (window_packets request before e packets))
    by Unknown is =
        absurd (no_payload e.held (window_packets request before e packets)
        (subst (λ (x : Arrival). HasPayload e.held (entering x (window_packets request before e packets))) is has))
    by (AtRate rate) is = those (λ h. rate_known rate (sym is ∙ h))
    by (OnLines lines) is = those (λ h. lines_known lines (sym is ∙ h))

pub held_window_law : HeldWindowLaw
held_window_law request before packets window place e e' w pos has =
    says_low e.tally e'.tally window e.held (entering request.options.arrival (window_packets request before e packets))
    (rate_counted request before packets window place e e' w has) w.other pos has

pub rate_high_law : RateHighLaw
rate_high_law request before packets window place e e' w pos has =
    says_high e.tally e'.tally window e.held (entering request.options.arrival (window_packets request before e packets))
    (rate_counted request before packets window place e e' w has) w.other pos has

pub rate_without_law : RateWithoutLaw
rate_without_law request rate before packets window place e e' w now is none =
    let a : Arrival = AtRate rate in
    let l = alike request a before packets window place e e' (rate_known rate) is w in
    subst (λ (xs : List Entering). HasHeld e e' xs) l.xs_are
    (timed_without_law request (arriving_so a before) (arriving_so a packets) window place e e' l.window_is now
    (λ has. none (subst (λ (xs : List Entering). HasPayload e.held xs) l.xs_are has)))

pub rate_transport_law : RateTransportLaw
rate_transport_law request rate before packets window place e e' w reported is pos few some =
    let a : Arrival = AtRate rate in
    let l = alike request a before packets window place e e' (rate_known rate) is w in
    let order : InOrder rate (arriving_so a before ++ arriving_so a packets) =
    subst (λ (ps : List Timed). InOrder rate ps) (so_both a before packets) (rate_order_law rate (before ++ packets)) in
    subst (λ (xs : List Entering). IsFullWith e.held xs e'.tally.window_transport) l.xs_are
    (ordered_transport request rate (arriving_so a before) (arriving_so a packets) window place e e' l.window_is reported pos order
    (omega (arith, many_arrive a before, many_arrive a packets, few)) some)
