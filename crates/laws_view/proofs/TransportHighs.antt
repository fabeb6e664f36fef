-- The greatest number of a transport buffer in a line `held` is its greatest fullness from the first byte of the window's packets on.
use Rattle.std.proofs.Common.{◌≡◌, ◌∙◌, sym, ℕ, ◌+◌, ◌-◌, ◌*◌, ◌<◌, max, Bool, true, false, List, [], ◌∷◌, ◌++◌, length, map, Option, Some, None, if◌then◌else◌}
use Rattle.std.proofs.Common.{refl, ap, ap₂, subst, inl, inr, arith, append_assoc}
use Rattle.std.specs.Prelude.{◌==◌}
use Rattle.std.proofs.lemmas.Bool.Decides.{eqb_tells}
use Rattle.std.proofs.lemmas.List.{append-nil}
use Rattle.clock27.specs.Departure.{last_left}
use Rattle.clock27.specs.Peak.{most_found}
use Rattle.clock27.proofs.Departures.{last_left-append}
use Rattle.tstd_rows.specs.TransportLaws.{Rises}
use Rattle.arrival.specs.Arrivals.{times_at}
use Rattle.arrival.specs.declared.arrival.Arrival.{Arrival}
use Rattle.tstd_rows.specs.History.{Part, arrivals_of, last_of}
use Rattle.tstd_rows.specs.declared.unit_seen.DueTime.{DueTime}
use Rattle.tstd_rows.specs.declared.unit_seen.UnitSeen.{UnitSeen}
use Rattle.tstd_rows.specs.Held.{Held, carried, passed, transport_found, transport_most}
use Rattle.tstd_rows.specs.Entering.{EnteredView, after, after_begin, after_header, after_lead, after_payload, after_unit, ended_with, entered, lead_in}
use Rattle.tstd_rows.specs.Entering.{nothing, payload_transport_most, size_of, takes_in, with_packet}
use Rattle.tstd_rows.specs.declared.arriving.Arriving.{Arriving}
use Rattle.es_events.specs.Tallies.{tally_after}
use Rattle.es_events.specs.Tallies.{in_window, with_excesses, with_packet as with_tallied, with_unit_if}
use Rattle.es_events.specs.declared.tally.Tally.{Tally}
use Rattle.laws_view.specs.HeldWindows.{window_entering}
use Rattle.laws_view.specs.TimedStreams.{Entering, after_entering, entered_by}
use Rattle.laws_view.specs.TransportHighs.{IsFull, IsFullWith, TimedTransportLaw, TransportHighLaw, TransportWithoutLaw, WindowTransportLaw, transport_after}
use Rattle.laws_view.specs.WindowLows.{counted_each}
use Rattle.laws_view.proofs.HeldWindows.{CountedOver, window_counted, with_kept}
use Rattle.laws_view.proofs.TransportFull.{is_full, most_found-append}
use Rattle.laws_view.proofs.WindowLows.{in_that_window, same_window}

-- The bytes that arrive with a packet

-- Bytes arrive, and `most` is the most that any of them finds.
pub record Arrives (h h' : Held) (most : ℕ) : Type 0 where
  pub own : List ℕ
  pub arrivals : arrivals_of h'.parts ≡ arrivals_of h.parts ++ own
  pub rate : h'.rate ≡ h.rate
  pub most_found : most_found h.rate (last_of h.rate h.parts) own ≡ most

nothing_arrives : (h : Held) → Arrives h h 0
unfolding most_found
nothing_arrives h = record { own = []; arrivals = sym (append-nil (arrivals_of h.parts)); rate = refl; most_found = refl }

both_arrive : (h h' h'' : Held) (m n : ℕ) → Arrives h h' m → Arrives h' h'' n → Arrives h h'' (max m n)
both_arrive h h' h'' m n first second =
    let last : last_left h.rate (last_of h.rate h.parts) first.own ≡ last_of h'.rate h'.parts =
    sym (last_left-append h.rate 0 (arrivals_of h.parts) first.own) ∙ ap (λ (ts : List ℕ). last_left h.rate 0 ts) (sym first.arrivals)
    ∙ ap (λ (k : ℕ). last_left k 0 (arrivals_of h'.parts)) (sym first.rate) in
    record {
      own = first.own ++ second.own;
      arrivals = second.arrivals ∙ ap (λ (ts : List ℕ). ts ++ second.own) first.arrivals ∙ append_assoc (arrivals_of h.parts) first.own second.own;
      rate = second.rate ∙ first.rate;
      most_found = most_found-append h.rate (last_of h.rate h.parts) first.own second.own
          ∙ ap (λ (k : ℕ). max (most_found h.rate (last_of h.rate h.parts) first.own) (most_found h.rate k second.own)) last
          ∙ ap (λ (k : ℕ). max (most_found h.rate (last_of h.rate h.parts) first.own) (most_found k (last_of h'.rate h'.parts) second.own)) (sym first.rate)
          ∙ ap (λ (k : ℕ). max k (most_found h'.rate (last_of h'.rate h'.parts) second.own)) first.most_found
          ∙ ap (λ (k : ℕ). max m k) second.most_found;
    }

goes_arrives : (h : Held) (enters : Bool) (times : List ℕ) → Arrives h (if enters then carried h times else passed h times) (transport_found h times)
unfolding arrivals_of
goes_arrives h true times = record { own = times; arrivals = refl; rate = refl; most_found = refl }
goes_arrives h false times = record { own = times; arrivals = refl; rate = refl; most_found = refl }

payload_arrives : (h : Held) (enters : Bool) (n : ℕ) (times : List ℕ) → Arrives h (after_payload h enters n times) (payload_transport_most h n times)
unfolding after_payload payload_transport_most
payload_arrives h enters n times = elim (eqb_tells n 0) [
  | inl none ↦ rw none.0 (nothing_arrives h)
  | inr some ↦ rw some.0 (goes_arrives h enters times)
]

begin_arrives : (h : Held) (due : Option DueTime) → Arrives h (after_begin h due) 0
unfolding after_begin arrivals_of most_found
begin_arrives h None = nothing_arrives h
begin_arrives h (Some due) = record { own = []; arrivals = sym (append-nil (arrivals_of h.parts)); rate = refl; most_found = refl }

parts_arrive : (h : Held) (arrival : Arrival) (p : Arriving) (size lead : ℕ) →
    Arrives h (with_packet h arrival p size lead) (ended_with h arrival p size lead).transport_most
parts_arrive h arrival p size lead =
    let a : Held = after_lead h arrival p lead in
    let b : Held = after_header h arrival p size lead in
    let c : Held = after_unit h arrival p size lead in
    let first = payload_arrives h false lead (times_at arrival h.rx (188 * p.index) lead) in
    let second = payload_arrives a false (188 - size - lead) (times_at arrival a.rx (188 * p.index + lead) (188 - size - lead)) in
    let third = begin_arrives b p.begins in
    let last = payload_arrives c p.enters size (times_at arrival c.rx (188 * p.index + (188 - size)) size) in
    let header : Arrives h b _ = both_arrive h a b _ _ first second in
    subst (λ (n : ℕ). Arrives h (with_packet h arrival p size lead) n) (same _ _)
    (both_arrive h c (with_packet h arrival p size lead) _ _ (both_arrive h b c _ 0 header third) last)
  where
    same : (m n : ℕ) → max (max m 0) n ≡ max m n
    same m n = omega arith

pub packet_arrives : (h : Held) (arrival : Arrival) (p : Arriving) → Arrives h (after h arrival p) (entered h arrival p).transport_most
unfolding after entered
packet_arrives h arrival p = by (takes_in h arrival p)
  where
    by : (b : Bool) → Arrives h (if b then with_packet h arrival p (size_of p) (lead_in arrival p) else h)
        (if b then ended_with h arrival p (size_of p) (lead_in arrival p) else nothing).transport_most
    by true = parts_arrive h arrival p (size_of p) (lead_in arrival p)
    by false = nothing_arrives h

pub each_arrives : (h h' : Held) (most : ℕ) (xs : List Entering) → Arrives h h' most →
    Arrives h (after_entering h' xs) (transport_after most (entered_by h' xs))
unfolding after_entering entered_by transport_after
each_arrives h h' most [] come = come
each_arrives h h' most (x ∷ xs) come =
    let n : ℕ = (entered h' x.arrival x.packet).transport_most in
    each_arrives h (after h' x.arrival x.packet) (max most n) xs
    (both_arrive h h' (after h' x.arrival x.packet) most n come (packet_arrives h' x.arrival x.packet))

-- If nothing came before, the most covers all bytes that have arrived.
pub first_full : (h h' : Held) (most : ℕ) → h.parts ≡ [] → Arrives h h' most → transport_most h' ≡ most
unfolding arrivals_of last_left
first_full h h' most none come =
    let all : arrivals_of h'.parts ≡ come.own = come.arrivals ∙ ap (λ (ps : List Part). arrivals_of ps ++ come.own) none in
    let found : most_found h.rate 0 come.own ≡ most = ap (λ (ps : List Part). most_found h.rate (last_of h.rate ps) come.own) (sym none) ∙ come.most_found in
    let same : most_found h'.rate 0 (arrivals_of h'.parts) ≡ most = ap₂ (λ (r : ℕ) (ts : List ℕ). most_found r 0 ts) come.rate all ∙ found in
    omega (arith, same)

full_of : (step : ℕ) (before own : List ℕ) → 0 < step → Rises 0 (before ++ own) → 0 < most_found step (last_left step 0 before) own →
    IsFull step before (before ++ own) (most_found step (last_left step 0 before) own)
unfolding most_found
full_of step before [] pos rises some = absurd (omega (arith, some))
full_of step before (t ∷ ts) pos rises some = is_full step t before ts pos rises

pub transport_high_law : TransportHighLaw
transport_high_law h xs pos rises some =
    let come = each_arrives h h 0 xs (nothing_arrives h) in
    let rises' : Rises 0 (arrivals_of h.parts ++ come.own) = subst (λ (ts : List ℕ). Rises 0 ts) come.arrivals rises in
    let full = full_of h.rate (arrivals_of h.parts) come.own pos rises' (omega (arith, some, come.most_found)) in
    subst (λ (ts : List ℕ). IsFull h.rate (arrivals_of h.parts) ts (transport_after 0 (entered_by h xs))) (sym come.arrivals)
    (subst (λ (n : ℕ). IsFull h.rate (arrivals_of h.parts) (arrivals_of h.parts ++ come.own) n) come.most_found full)

pub transport_without_law : TransportWithoutLaw
unfolding most_found
transport_without_law h xs none =
    let come = each_arrives h h 0 xs (nothing_arrives h) in
    come.arrivals ∙ by come.own (come.most_found ∙ none)
  where
    by : (own : List ℕ) → most_found h.rate (last_of h.rate h.parts) own ≡ 0 → arrivals_of h.parts ++ own ≡ arrivals_of h.parts
    by [] e = append-nil (arrivals_of h.parts)
    by (t ∷ ts) e = absurd (let no : ⊥ = omega (arith, e) in no)

-- The counts of a window

unit_transport : (t : Tally) (window : ℕ) (unit : Option UnitSeen) → t.window ≡ window →
    ((with_unit_if t window unit).window_transport ≡ t.window_transport) × ((with_unit_if t window unit).window ≡ window)
unfolding with_unit_if
unit_transport t window None is = (refl, is)
unit_transport t window (Some u) is =
    (ap (λ (k : Tally). k.window_transport) (same_window t window is), ap (λ (k : Tally). k.window) (same_window t window is) ∙ is)

pub packet_transport : (t : Tally) (window : ℕ) (unread : Bool) (v : EnteredView) →
    ((tally_after t window unread v).window_transport ≡ max (in_window t window).window_transport v.transport_most)
    × ((tally_after t window unread v).window ≡ window)
packet_transport t window unread v =
    unit_transport (with_excesses (with_tallied t window v) (length v.transport) (length v.main) unread) window v.unit (in_that_window t window)

pub each_transport : (t : Tally) (window : ℕ) (vs : List (Bool × EnteredView)) → t.window ≡ window →
    (counted_each t window vs).window_transport ≡ transport_after t.window_transport (map (λ w. w.1) vs)
unfolding counted_each transport_after
each_transport t window [] is = refl
each_transport t window (v ∷ vs) is =
    let one = packet_transport t window v.0 v.1 in
    let same = ap (λ (k : Tally). max k.window_transport v.1.transport_most) (same_window t window is) in
    each_transport (tally_after t window v.0 v.1) window vs one.1
    ∙ ap (λ (n : ℕ). transport_after n (map (λ w. w.1) vs)) (one.0 ∙ same)

pub window_transport_law : WindowTransportLaw
unfolding counted_each transport_after
window_transport_law t window v vs none =
    let one = packet_transport t window v.0 v.1 in
    each_transport (tally_after t window v.0 v.1) window vs one.1
    ∙ ap (λ (n : ℕ). transport_after n (map (λ w. w.1) vs)) (one.0 ∙ ap (λ (n : ℕ). max n v.1.transport_most) none)

-- The line in a report

not_both : true ≡ false → ⊥
not_both h = cc

says_full : (t t' : Tally) (window : ℕ) (h : Held) (xs : List Entering) → CountedOver t t' window h xs → (t.window == window) ≡ false →
    (t'.window == window) ≡ true → 0 < h.rate → Rises 0 (arrivals_of (after_entering h xs).parts) → 0 < t'.window_transport →
    IsFullWith h xs t'.window_transport
unfolding counted_each
says_full t t' window h xs c other reported pos rises some =
    let is : t'.window_transport ≡ transport_after 0 (entered_by h xs) = by c.vs c.tally c.same in
    subst (λ (n : ℕ). IsFullWith h xs n) (sym is) (transport_high_law h xs pos rises (omega (arith, some, is)))
  where
    none : (in_window t window).window_transport ≡ 0
    none = rw other refl

    by : (vs : List (Bool × EnteredView)) → t' ≡ with_kept (counted_each t window vs) t'.traces → map (λ w. w.1) vs ≡ entered_by h xs →
        t'.window_transport ≡ transport_after 0 (entered_by h xs)
    by [] is same = absurd (not_both (sym reported ∙ ap (λ (k : Tally). k.window == window) is ∙ other))
    by (v ∷ vs) is same =
        ap (λ (k : Tally). k.window_transport) is ∙ window_transport_law t window v vs none ∙ ap (λ (l : List EnteredView). transport_after 0 l) same

pub timed_transport_law : TimedTransportLaw
timed_transport_law request before packets window place e e' w reported pos rises some =
    says_full e.tally e'.tally window e.held (window_entering request before e packets) (window_counted request before packets window place e e' w) w.other
    reported
    pos rises some
