-- Packets that wait for their arrival times: rules that do not depend on arrival find the same faults in them.
use Rattle.std.proofs.Common.{◌≡◌, ◌∙◌, ℕ, ◌+◌, ◌-◌, ◌/◌, ◌^◌, ◌%◌, ◌<◌, List, [], ◌∷◌, ◌++◌, length, map, filter, Option, Some, None, Bool, refl, sym, ap, ap₂}
use Rattle.std.proofs.Common.{append_assoc, arith}
use Rattle.std.specs.List.{enumerate_from}
use Rattle.std.proofs.lemmas.List.{append-nil, length-append}
use Rattle.ts_packet.specs.PidList.{cut_packets}
use Rattle.arrival.specs.declared.arrival.Arrival.{Arrival}
use Rattle.arrival.specs.declared.arrival.Arrival.TheVariants.{Unknown, AtRate, OnLines}
use Rattle.packet_times.specs.Waiting.{QueueState, last_arrival, released, stepped, with_held}
use Rattle.tr101290.specs.Continuity.{errors_from}
use Rattle.events.specs.declared.event.Event.{Event}
use Rattle.ts_watch.specs.Choices.{RequestView}
use Rattle.ts_report.specs.ClockedViews.{ClockedState, events_after, events_in, events_with, held_after, last_events, last_view, queue_of, view_after}
use Rattle.ts_report.specs.ClockedViews.{after_all as clocked_after, after_in, end_events as clocked_end, events_all as clocked_events}
use Rattle.ts_report.specs.Seen.{arrival_events}
use Rattle.ts_report.specs.Views.{ViewState, after_all, after_packet, arriving, end_events, events_all, events_at, start}
use Rattle.monitor.specs.declared.fault.StreamFault.{StreamFault}
use Rattle.monitor.specs.Faults.{packet_faults}
use Rattle.monitor.specs.InOrder.{rule_number}
use Rattle.monitor.proofs.FoundWhole.{packet_count}
use Rattle.laws_view.specs.Continuity.{counter_fault, sound_packets}
use Rattle.laws_view.specs.FaultsByRule.{is_by}
use Rattle.laws_view.specs.ViewedFaults.{events_to_end, faults_before_end, viewed_faults}
use Rattle.laws_view.proofs.QuietEnds.{Ends, arrivals, of_no_stop}
use Rattle.laws_view.proofs.ViewedPackets.{of_quiet, part, part_append}
use Rattle.laws_view.proofs.ViewedRules.{Refuses, counters_along, next_count, refused_along}

-- 1. Packets after other packets

all_append : (v : ViewState) (xs ys : List (List ℕ)) → events_all v (xs ++ ys) ≡ events_all v xs ++ events_all (after_all v xs) ys
unfolding events_all after_all
all_append v [] ys = refl
all_append v (x ∷ xs) ys =
    ap (λ (l : List Event). events_at v x ++ l) (all_append (after_packet v x) xs ys)
    ∙ sym (append_assoc (events_at v x) (events_all (after_packet v x) xs) (events_all (after_all (after_packet v x) xs) ys))

count_after : (v : ViewState) (xs : List (List ℕ)) → v.seen.packets + length xs < 2 ^ 64 → (after_all v xs).seen.packets ≡ v.seen.packets + length xs
unfolding after_all
count_after v [] n = omega arith
count_after v (x ∷ xs) n =
    let e : (after_packet v x).seen.packets ≡ v.seen.packets + 1 = next_count v x (omega arith) in
    let k : (after_all (after_packet v x) xs).seen.packets ≡ (after_packet v x).seen.packets + length xs = count_after (after_packet v x) xs (omega arith) in
    omega (arith, e, k)

-- 2. Faults that do not depend on arrival times

abbrev pub Still : (StreamFault → Bool) → Type 0
Still p = (v : ViewState) (arrival : Arrival) (count : ℕ) (packets : List (List ℕ)) → v.seen.packets + length packets < 2 ^ 64 →
    part p (events_all (arriving v arrival count) packets) ≡ part p (events_all v packets)

abbrev with_queue : ViewState → Option QueueState → ClockedState
with_queue v queue = record { view = v; queue = queue }

-- The packets that waited give the faults that they would have given at once.
released_part : (p : StreamFault → Bool) (v : ViewState) (q : QueueState) (arrival : Arrival) → Still p → v.seen.packets + length q.held < 2 ^ 64 →
    part p (events_with v q arrival) ≡ part p (events_all v q.held)
released_part p v q arrival still n =
    part_append p (arrival_events v.seen arrival (length q.held)) (events_all (arriving v arrival (length q.held)) q.held)
    ∙ ap₂ (λ (a b : List StreamFault). a ++ b) (of_quiet p (arrival_events v.seen arrival (length q.held)) (arrivals v.seen arrival (length q.held)))
    (still v arrival (length q.held) q.held n)

waiting : (p : StreamFault → Bool) (v : ViewState) (q : QueueState) (packets : List (List ℕ)) (left : ℕ) → Still p → Ends p →
    v.seen.packets + length q.held + length packets < 2 ^ 64 →
    part p (events_to_end (with_queue v (Some q)) packets left) ≡ part p (events_all v (q.held ++ packets))
unfolding clocked_events clocked_after after_in events_in last_events last_view view_after events_after held_after
waiting p v q [] left still ends n =
    part_append p (events_with v q (last_arrival q)) (end_events (after_all (arriving v (last_arrival q) (length q.held)) q.held) left)
    ∙ ap₂ (λ (a b : List StreamFault). a ++ b) (released_part p v q (last_arrival q) still (omega arith))
    (ends (after_all (arriving v (last_arrival q) (length q.held)) q.held) left)
    ∙ append-nil (part p (events_all v q.held))
    ∙ ap (λ (l : List (List ℕ)). part p (events_all v l)) (sym (append-nil q.held))
waiting p v q (bytes ∷ packets) left still ends n = by (released q bytes) (λ w r k. waiting p w r packets left still ends k)
  where
    next : List (List ℕ) → QueueState
    next held = with_held (stepped q bytes) held

    rest : Option Arrival → ClockedState
    rest o = with_queue (view_after v (stepped q bytes) o) (Some (next (held_after (stepped q bytes) o ++ bytes ∷ [])))

    by : (o : Option Arrival) → ((w : ViewState) (r : QueueState) → w.seen.packets + length r.held + length packets < 2 ^ 64 →
        part p (events_to_end (with_queue w (Some r)) packets left) ≡ part p (events_all w (r.held ++ packets))) →
        part p ((events_after v (stepped q bytes) o ++ clocked_events (rest o) packets) ++ clocked_end (clocked_after (rest o) packets) left)
        ≡ part p (events_all v (q.held ++ bytes ∷ packets))
    by None later =
        let longer : length (q.held ++ bytes ∷ []) ≡ length q.held + 1 = length-append q.held (bytes ∷ []) in
        later v (next (q.held ++ bytes ∷ [])) (omega (arith, n, longer))
        ∙ ap (λ (l : List (List ℕ)). part p (events_all v l)) (append_assoc q.held (bytes ∷ []) packets)
    by (Some arrival) later =
        let before = arriving v arrival (length q.held) in
        let w = after_all before q.held in
        let k : w.seen.packets ≡ v.seen.packets + length q.held = count_after before q.held (omega (arith, n)) in
        let all : length (q.held ++ bytes ∷ packets) ≡ length q.held + length (bytes ∷ packets) = length-append q.held (bytes ∷ packets) in
        ap (part p) (append_assoc (events_with v q arrival) (clocked_events (rest (Some arrival)) packets)
        (clocked_end (clocked_after (rest (Some arrival)) packets) left))
        ∙ part_append p (events_with v q arrival) (events_to_end (rest (Some arrival)) packets left)
        ∙ ap₂ (λ (a b : List StreamFault). a ++ b)
        (part_append p (arrival_events v.seen arrival (length q.held)) (events_all before q.held)
        ∙ ap (λ (l : List StreamFault). l ++ part p (events_all before q.held))
        (of_quiet p (arrival_events v.seen arrival (length q.held)) (arrivals v.seen arrival (length q.held))))
        (later w (next (bytes ∷ [])) (omega (arith, n, k)))
        ∙ sym (part_append p (events_all before q.held) (events_all w (bytes ∷ packets)))
        ∙ ap (part p) (sym (all_append before q.held (bytes ∷ packets)))
        ∙ still v arrival (length q.held) (q.held ++ bytes ∷ packets) (omega (arith, n, all))

-- 3. Packets that do not wait

pub at_once : (p : StreamFault → Bool) (v : ViewState) (packets : List (List ℕ)) (left : ℕ) → Ends p →
    part p (events_to_end (with_queue v None) packets left) ≡ part p (events_all v packets)
unfolding clocked_events clocked_after after_in events_in last_events last_view events_all
at_once p v [] left ends = ends v left
at_once p v (bytes ∷ packets) left ends =
    ap (part p) (append_assoc (events_at v bytes) (clocked_events (with_queue (after_packet v bytes) None) packets)
    (clocked_end (clocked_after (with_queue (after_packet v bytes) None) packets) left))
    ∙ part_append p (events_at v bytes) (events_to_end (with_queue (after_packet v bytes) None) packets left)
    ∙ ap (λ (l : List StreamFault). part p (events_at v bytes) ++ l) (at_once p (after_packet v bytes) packets left ends)
    ∙ sym (part_append p (events_at v bytes) (events_all (after_packet v bytes) packets))

from_start : (p : StreamFault → Bool) (v : ViewState) (arrival : Arrival) (programs : List ℕ) (packets : List (List ℕ)) (left : ℕ) → Still p → Ends p →
    v.seen.packets + length packets < 2 ^ 64 → part p (events_to_end (with_queue v (queue_of arrival programs)) packets left) ≡ part p (events_all v packets)
unfolding queue_of
from_start p v Unknown programs packets left still ends n = waiting p v _ packets left still ends (omega (arith, n))
from_start p v (AtRate rate) programs packets left still ends n = at_once p v packets left ends
from_start p v (OnLines lines) programs packets left still ends n = at_once p v packets left ends

none_wait : (v : ViewState) (packets : List (List ℕ)) → clocked_events (with_queue v None) packets ≡ events_all v packets
unfolding clocked_events after_in events_in events_all
none_wait v [] = refl
none_wait v (bytes ∷ packets) = ap (λ (l : List Event). events_at v bytes ++ l) (none_wait (after_packet v bytes) packets)

pub at_one_rate : (p : StreamFault → Bool) (rate : ℕ) (request : RequestView) (bytes : List ℕ) → request.options.arrival ≡ AtRate rate →
    filter p (faults_before_end request bytes) ≡ part p (events_all (start request) (cut_packets bytes))
unfolding queue_of
at_one_rate p rate request bytes at =
    ap (λ (o : Option QueueState). part p (clocked_events (with_queue (start request) o) (cut_packets bytes)))
    (ap (λ (a : Arrival). queue_of a request.choice.programs) at)
    ∙ ap (part p) (none_wait (start request) (cut_packets bytes))

-- 4. A whole report

still_refused : (p : StreamFault → Bool) → Refuses p → Still p
still_refused p h v arrival count packets n = refused_along p (arriving v arrival count) packets h n ∙ sym (refused_along p v packets h n)

ends_refused : (p : StreamFault → Bool) → Refuses p → Ends p
ends_refused p h = of_no_stop p (record { nit = h.nit; sdt = h.sdt; tdt = h.tdt; pcr = h.pcr })

ends_counted : Ends (is_by 4)
unfolding rule_number
ends_counted = of_no_stop (is_by 4) (record { nit = λ o k. refl; sdt = λ o k. refl; tdt = λ o k. refl; pcr = λ o k. refl })

still_counted : Still (is_by 4)
still_counted v arrival count packets n = counters_along (arriving v arrival count) packets n ∙ sym (counters_along v packets n)

whole : (p : StreamFault → Bool) (request : RequestView) (bytes : List ℕ) → Still p → Ends p → length (cut_packets bytes) < 2 ^ 64 →
    filter p (viewed_faults request bytes) ≡ part p (events_all (start request) (cut_packets bytes))
whole p request bytes still ends n =
    from_start p (start request) request.options.arrival request.choice.programs (cut_packets bytes) (length bytes % 188) still ends
    (omega (arith, n))

pub viewed_counters : (request : RequestView) (bytes : List ℕ) → length bytes / 188 < 2 ^ 64 - 1 →
    filter (is_by 4) (viewed_faults request bytes) ≡ map counter_fault (errors_from [] (sound_packets bytes))
viewed_counters request bytes n =
    let k : length (cut_packets bytes) ≡ length bytes / 188 = packet_count (length bytes / 188) bytes in
    whole (is_by 4) request bytes still_counted ends_counted (omega (arith, n, k)) ∙ counters_along (start request) (cut_packets bytes) (omega (arith, n, k))

pub viewed_refusals : (p : StreamFault → Bool) (request : RequestView) (bytes : List ℕ) → Refuses p → length bytes / 188 < 2 ^ 64 - 1 →
    filter p (viewed_faults request bytes) ≡ filter p (packet_faults (enumerate_from 0 (cut_packets bytes)))
viewed_refusals p request bytes h n =
    let k : length (cut_packets bytes) ≡ length bytes / 188 = packet_count (length bytes / 188) bytes in
    whole p request bytes (still_refused p h) (ends_refused p h) (omega (arith, n, k)) ∙ refused_along p (start request) (cut_packets bytes) h (omega (arith, n, k))
