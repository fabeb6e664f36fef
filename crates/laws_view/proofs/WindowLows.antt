-- The least number of a main buffer in a line `held` is its least fullness while the packets of the window come.
use Rattle.std.proofs.Common.{◌≡◌, ◌∙◌, sym, ℕ, zero, suc, ◌+◌, ◌-◌, ◌*◌, ◌^◌, ◌<◌, ◌&&◌, is_some, nat_le, nat_lt, max, min, Bool, true, false, List, [], ◌∷◌}
use Rattle.std.proofs.Common.{◌++◌, length, map, Option, Some, None, if◌then◌else◌, refl, ap, subst, inl, inr, arith, append_assoc}
use Rattle.std.proofs.lemmas.Bool.Decides.{eqb_tells}
use Rattle.arrival.specs.declared.arrival.Arrival.{Arrival}
use Rattle.clock27.specs.Arrival.{bytes_from}
use Rattle.clock27.specs.Departure.{departures}
use Rattle.arrival.specs.Lines.{arrivals_on}
use Rattle.tstd_rows.specs.Least.{least_found, lesser}
use Rattle.arrival.specs.Arrivals.{has_times, times_at}
use Rattle.arrival.specs.declared.arrival.Arrival.TheVariants.{Unknown, AtRate, OnLines}
use Rattle.tstd_rows.specs.Held.{Held, carried, main_found, main_least_found, passed}
use Rattle.tstd_rows.specs.Entering.{EnteredView, after, after_begin, after_header, after_lead, after_payload, after_unit, ended_with, entered, lead_in}
use Rattle.tstd_rows.specs.Entering.{nothing, payload_main_least, payload_main_most, size_of, takes_in, with_packet}
use Rattle.tstd_rows.specs.declared.arriving.Arriving.{Arriving}
use Rattle.tstd.specs.BufferedUnits.{one_buffered}
use Rattle.tstd_rows.specs.History.{Part, last_of, left_after, main_fullness, row_least, transport_of, until_of}
use Rattle.tstd_rows.specs.History.Part.{Passes, Carries, Begins}
use Rattle.tstd_rows.specs.Lows.{least_of, least_of_both}
use Rattle.tstd_rows.specs.RowEntry.{entered as row_entered}
use Rattle.tstd_rows.specs.declared.unit_seen.DueTime.{DueTime}
use Rattle.tstd_rows.specs.declared.unit_seen.UnitSeen.{UnitSeen}
use Rattle.tstd_rows.proofs.Lows.{lows_law}
use Rattle.es_view.specs.HeldEvents.{main_held, main_now}
use Rattle.es_events.specs.Tallies.{tally_after}
use Rattle.es_events.specs.Tallies.{in_window, with_excesses, with_packet as with_tallied, with_unit_if}
use Rattle.es_events.specs.declared.tally.Tally.{Tally}
use Rattle.laws_view.specs.StreamPackets.{most_packets}
use Rattle.laws_view.specs.TimedStreams.{Entering, after_entering, entered_by}
use Rattle.laws_view.specs.WindowHighs.{most_after}
use Rattle.laws_view.specs.WindowLows.{HasPayload, WholeWindowLaw, WindowLeastLaw, WindowLowLaw, WindowWithoutLaw, counted_each, least_after, still_held}
use Rattle.laws_view.proofs.MainHighs.{most_of, most_of-append}

-- The least of several numbers

both_assoc : (a b c : Option ℕ) → least_of_both (least_of_both a b) c ≡ least_of_both a (least_of_both b c)
unfolding least_of_both
both_assoc None b c = refl
both_assoc (Some l) None c = refl
both_assoc (Some l) (Some m) None = refl
both_assoc (Some l) (Some m) (Some n) = let e : min (min l m) n ≡ min l (min m n) = omega arith in ap Some e

both_none : (a : Option ℕ) → least_of_both a None ≡ a
unfolding least_of_both
both_none None = refl
both_none (Some m) = refl

-- The least for two lists of parts is the lesser of both.
least_of-append : (step : ℕ) (later recent before : List Part) →
    least_of step (later ++ recent) before ≡ least_of_both (least_of step recent before) (least_of step later (recent ++ before))
unfolding least_of
least_of-append step [] recent before = sym (both_none (least_of step recent before))
least_of-append step (Passes ts ∷ later) recent before = least_of-append step later recent before
least_of-append step (Carries ts ∷ later) recent before =
    let assoc : (later ++ recent) ++ before ≡ later ++ (recent ++ before) = append_assoc later recent before in
    ap (λ (n : Option ℕ). least_of_both n (row_least step ((later ++ recent) ++ before) ts)) (least_of-append step later recent before)
    ∙ ap (λ (ps : List Part). least_of_both (least_of_both (least_of step recent before) (least_of step later (recent ++ before))) (row_least step ps ts)) assoc
    ∙ both_assoc (least_of step recent before) (least_of step later (recent ++ before)) (row_least step (later ++ (recent ++ before)) ts)
least_of-append step (Begins due ∷ later) recent before = least_of-append step later recent before

-- The parts of a packet

-- Parts come: the least that their bytes find, and the most when any of them enters.
pub record Comes (h h' : Held) (least : Option ℕ) (most : ℕ) : Type 0 where
  pub recent : List Part
  pub parts : h'.parts ≡ recent ++ h.parts
  pub rate : h'.rate ≡ h.rate
  pub found : least_of h.rate recent h.parts ≡ least
  pub most_found : most_of h.rate recent h.parts ≡ most

pub nothing_comes : (h : Held) → Comes h h None 0
unfolding least_of most_of
nothing_comes h = record { recent = []; parts = refl; rate = refl; found = refl; most_found = refl }

both_come : (h h' h'' : Held) (a b : Option ℕ) (m n : ℕ) → Comes h h' a m → Comes h' h'' b n → Comes h h'' (least_of_both a b) (max m n)
both_come h h' h'' a b m n first second = record {
  recent = second.recent ++ first.recent;
  parts = second.parts ∙ ap (λ (ps : List Part). second.recent ++ ps) first.parts ∙ sym (append_assoc second.recent first.recent h.parts);
  rate = second.rate ∙ first.rate;
  found = least_of-append h.rate second.recent first.recent h.parts
      ∙ ap (λ (ps : List Part). least_of_both (least_of h.rate first.recent h.parts) (least_of h.rate second.recent ps)) (sym first.parts)
      ∙ ap (λ (n : ℕ). least_of_both (least_of h.rate first.recent h.parts) (least_of n second.recent h'.parts)) (sym first.rate)
      ∙ ap (λ (n : Option ℕ). least_of_both n (least_of h'.rate second.recent h'.parts)) first.found
      ∙ ap (λ (n : Option ℕ). least_of_both a n) second.found;
  most_found = most_of-append h.rate second.recent first.recent h.parts
      ∙ ap (λ (ps : List Part). max (most_of h.rate first.recent h.parts) (most_of h.rate second.recent ps)) (sym first.parts)
      ∙ ap (λ (k : ℕ). max (most_of h.rate first.recent h.parts) (most_of k second.recent h'.parts)) (sym first.rate)
      ∙ ap (λ (k : ℕ). max k (most_of h'.rate second.recent h'.parts)) first.most_found
      ∙ ap (λ (k : ℕ). max m k) second.most_found;
}

passed_comes : (h : Held) (times : List ℕ) → Comes h (passed h times) None 0
unfolding least_of most_of
passed_comes h times = record { recent = Passes times ∷ []; parts = refl; rate = refl; found = refl; most_found = refl }

carried_comes : (h : Held) (times : List ℕ) → Comes h (carried h times) (main_least_found h times) (main_found h times)
unfolding least_of least_of_both most_of
carried_comes h times = record { recent = Carries times ∷ []; parts = refl; rate = refl; found = refl; most_found = omega arith }

goes_comes : (h : Held) (enters : Bool) (times : List ℕ) →
    Comes h (if enters then carried h times else passed h times) (if enters then main_least_found h times else None) (if enters then main_found h times else 0)
goes_comes h true times = carried_comes h times
goes_comes h false times = passed_comes h times

payload_comes : (h : Held) (enters : Bool) (n : ℕ) (times : List ℕ) →
    Comes h (after_payload h enters n times) (payload_main_least h enters n times) (payload_main_most h enters n times)
unfolding after_payload payload_main_least payload_main_most
payload_comes h enters n times = elim (eqb_tells n 0) [
  | inl none ↦ rw none.0 (nothing_comes h)
  | inr some ↦ rw some.0 (goes_comes h enters times)
]

header_comes : (h : Held) (n : ℕ) (times : List ℕ) → Comes h (after_payload h false n times) None 0
unfolding after_payload
header_comes h n times = elim (eqb_tells n 0) [
  | inl none ↦ rw none.0 (nothing_comes h)
  | inr some ↦ rw some.0 (passed_comes h times)
]

begin_comes : (h : Held) (due : Option DueTime) → Comes h (after_begin h due) None 0
unfolding after_begin least_of most_of
begin_comes h None = nothing_comes h
begin_comes h (Some due) = record { recent = Begins due ∷ []; parts = refl; rate = refl; found = refl; most_found = refl }

parts_come : (h : Held) (arrival : Arrival) (p : Arriving) (size lead : ℕ) →
    Comes h (with_packet h arrival p size lead) (ended_with h arrival p size lead).main_least (ended_with h arrival p size lead).main_most
unfolding least_of_both
parts_come h arrival p size lead =
    let a : Held = after_lead h arrival p lead in
    let b : Held = after_header h arrival p size lead in
    let c : Held = after_unit h arrival p size lead in
    let first = header_comes h lead (times_at arrival h.rx (188 * p.index) lead) in
    let second = header_comes a (188 - size - lead) (times_at arrival a.rx (188 * p.index + lead) (188 - size - lead)) in
    let third = begin_comes b p.begins in
    let last = payload_comes c p.enters size (times_at arrival c.rx (188 * p.index + (188 - size)) size) in
    let none : max (max (max 0 0) 0) (ended_with h arrival p size lead).main_most ≡ (ended_with h arrival p size lead).main_most = omega arith in
    subst (λ (n : ℕ). Comes h (with_packet h arrival p size lead) (ended_with h arrival p size lead).main_least n) none
    (both_come h c (with_packet h arrival p size lead) None _ _ _ (both_come h b c None None _ 0 (both_come h a b None None 0 0 first second) third) last)

pub packet_comes : (h : Held) (arrival : Arrival) (p : Arriving) → Comes h (after h arrival p) (entered h arrival p).main_least (entered h arrival p).main_most
unfolding after entered
packet_comes h arrival p = by (takes_in h arrival p)
  where
    by : (b : Bool) → Comes h (if b then with_packet h arrival p (size_of p) (lead_in arrival p) else h)
        (if b then ended_with h arrival p (size_of p) (lead_in arrival p) else nothing).main_least
        (if b then ended_with h arrival p (size_of p) (lead_in arrival p) else nothing).main_most
    by true = parts_come h arrival p (size_of p) (lead_in arrival p)
    by false = nothing_comes h

-- The packets of a window, one after another

pub each_comes : (h h' : Held) (least : Option ℕ) (most : ℕ) (xs : List Entering) → Comes h h' least most →
    Comes h (after_entering h' xs) (least_after least (entered_by h' xs)) (most_after most (entered_by h' xs))
unfolding after_entering entered_by least_after most_after
each_comes h h' least most [] come = come
each_comes h h' least most (x ∷ xs) come =
    let v : EnteredView = entered h' x.arrival x.packet in
    each_comes h (after h' x.arrival x.packet) (least_of_both least v.main_least) (max most v.main_most) xs
    (both_come h h' (after h' x.arrival x.packet) least v.main_least most v.main_most come (packet_comes h' x.arrival x.packet))

pub window_low_law : WindowLowLaw
window_low_law h xs n pos is =
    let come = each_comes h h None 0 xs (nothing_comes h) in
    record { recent = come.recent; come = come.parts; low = lows_law h.rate come.recent h.parts n pos (come.found ∙ is) }

-- The counts of a window

pub same_window : (t : Tally) (window : ℕ) → t.window ≡ window → in_window t window ≡ t
same_window t window is = elim (eqb_tells t.window window) [
  | inl same ↦ rw same.0 refl
  | inr other ↦ absurd (other.1 is)
]

pub in_that_window : (t : Tally) (window : ℕ) → (in_window t window).window ≡ window
in_that_window t window = elim (eqb_tells t.window window) [
  | inl same ↦ rw same.0 same.1
  | inr other ↦ rw other.0 refl
]

unit_least : (t : Tally) (window : ℕ) (unit : Option UnitSeen) → t.window ≡ window →
    ((with_unit_if t window unit).window_least ≡ t.window_least) × ((with_unit_if t window unit).window ≡ window)
unfolding with_unit_if
unit_least t window None is = (refl, is)
unit_least t window (Some u) is = (ap (λ (k : Tally). k.window_least) (same_window t window is), ap (λ (k : Tally). k.window) (same_window t window is) ∙ is)

pub packet_least : (t : Tally) (window : ℕ) (unread : Bool) (v : EnteredView) →
    ((tally_after t window unread v).window_least ≡ least_of_both (in_window t window).window_least v.main_least) ×
    ((tally_after t window unread v).window ≡ window)
packet_least t window unread v =
    unit_least (with_excesses (with_tallied t window v) (length v.transport) (length v.main) unread) window v.unit (in_that_window t window)

pub each_least : (t : Tally) (window : ℕ) (vs : List (Bool × EnteredView)) → t.window ≡ window →
    (counted_each t window vs).window_least ≡ least_after t.window_least (map (λ w. w.1) vs)
unfolding counted_each least_after
each_least t window [] is = refl
each_least t window (v ∷ vs) is =
    let one = packet_least t window v.0 v.1 in
    let same = ap (λ (k : Tally). least_of_both k.window_least v.1.main_least) (same_window t window is) in
    each_least (tally_after t window v.0 v.1) window vs one.1
    ∙ ap (λ (n : Option ℕ). least_after n (map (λ w. w.1) vs)) (one.0 ∙ same)

pub window_least_law : WindowLeastLaw
unfolding counted_each least_after
window_least_law t window v vs none =
    let one = packet_least t window v.0 v.1 in
    each_least (tally_after t window v.0 v.1) window vs one.1
    ∙ ap (λ (n : Option ℕ). least_after n (map (λ w. w.1) vs)) (one.0 ∙ ap (λ (n : Option ℕ). least_of_both n v.1.main_least) none)

-- Packets with payload

found_some : (before : ℕ → ℕ) (until n m : ℕ) (ts : List ℕ) → is_some (least_found before until n (Some m) ts) ≡ true
unfolding least_found lesser
found_some before until n m [] = refl
found_some before until n m (t ∷ ts) = found_some before until (n + 1) _ ts

carried_some : (h : Held) (t : ℕ) (ts : List ℕ) → is_some (main_least_found h (t ∷ ts)) ≡ true
unfolding least_found lesser departures
carried_some h t ts =
    let left : ℕ = max t (last_of h.rate h.parts) + h.rate in
    found_some (main_fullness h.rate h.parts) (until_of h.parts) 1 (main_fullness h.rate h.parts left + 0 * one_buffered (until_of h.parts) left)
    (departures h.rate left ts)

payload_some : (h : Held) (size t : ℕ) (ts : List ℕ) → 0 < size → is_some (payload_main_least h true size (t ∷ ts)) ≡ true
unfolding payload_main_least
payload_some h size t ts some = elim (eqb_tells size 0) [
  | inl nought ↦ absurd (omega (arith, some, nought.1))
  | inr other ↦ rw other.0 (carried_some h t ts)
]

pub last_of_three : (a b c : Bool) → (a && b && c) ≡ true → c ≡ true
last_of_three true true c e = e
last_of_three true false c e = absurd (let no : ⊥ = cc in no)
last_of_three false b c e = absurd (let no : ⊥ = cc in no)

record Times (times : List ℕ) : Type 0 where
  first : ℕ
  later : List ℕ
  is : times ≡ first ∷ later

have_times : (arrival : Arrival) (i rx j n : ℕ) → has_times arrival i 188 ≡ true → 0 < n → Times (times_at arrival rx j n)
unfolding has_times times_at bytes_from arrivals_on
have_times arrival i rx j zero has some = absurd (omega (arith, some))
have_times Unknown i rx j (suc n) has some = absurd (let no : ⊥ = cc in no)
have_times (AtRate rate) i rx j (suc n) has some = record { first = _; later = _; is = refl }
have_times (OnLines lines) i rx j (suc n) has some = record { first = _; later = _; is = refl }

entered_some : (h : Held) (arrival : Arrival) (p : Arriving) → takes_in h arrival p ≡ true → p.enters ≡ true → 0 < size_of p →
    is_some (entered h arrival p).main_least ≡ true
unfolding entered
entered_some h arrival p takes enters some =
    let c : Held = after_unit h arrival p (size_of p) (lead_in arrival p) in
    let has = last_of_three (nat_lt p.index most_packets) (nat_le (transport_of h.rate h.parts).bytes (2 ^ 40 - 188)) (has_times arrival (188 * p.index) 188)
    takes in
    let times = have_times arrival (188 * p.index) c.rx (188 * p.index + (188 - size_of p)) (size_of p) has some in
    rw (takes, enters, times.is) (payload_some c (size_of p) times.first times.later some)

both_some : (a b : Option ℕ) → is_some a ≡ true → is_some (least_of_both a b) ≡ true
unfolding least_of_both
both_some None b e = absurd (let no : ⊥ = cc in no)
both_some (Some m) None e = refl
both_some (Some m) (Some n) e = refl

second_some : (a b : Option ℕ) → is_some b ≡ true → is_some (least_of_both a b) ≡ true
unfolding least_of_both
second_some None b e = e
second_some (Some m) None e = refl
second_some (Some m) (Some n) e = refl

after_some : (least : Option ℕ) (vs : List EnteredView) → is_some least ≡ true → is_some (least_after least vs) ≡ true
unfolding least_after
after_some least [] e = e
after_some least (v ∷ vs) e = after_some (least_of_both least v.main_least) vs (both_some least v.main_least e)

pub least_some : (least : Option ℕ) (h : Held) (xs : List Entering) → HasPayload h xs → is_some (least_after least (entered_by h xs)) ≡ true
unfolding least_after entered_by HasPayload
least_some least h [] has = absurd has
least_some least h (x ∷ xs) (inl here) =
    after_some (least_of_both least (entered h x.arrival x.packet).main_least) (entered_by (after h x.arrival x.packet) xs)
    (second_some least (entered h x.arrival x.packet).main_least (entered_some h x.arrival x.packet here.0 here.1 here.2))
least_some least h (x ∷ xs) (inr later) = least_some (least_of_both least (entered h x.arrival x.packet).main_least) (after h x.arrival x.packet) xs later

is_there : (o : Option ℕ) → is_some o ≡ true → (n : ℕ) × (o ≡ Some n)
is_there None e = absurd (let no : ⊥ = cc in no)
is_there (Some n) e = (n, refl)

pub none_has : (h : Held) (xs : List Entering) → [] ≡ entered_by h xs → HasPayload h xs → ⊥
unfolding entered_by HasPayload
none_has h [] same has = has
none_has h (x ∷ xs) same has = let no : ⊥ = cc in no

pub whole_window_law : WholeWindowLaw
whole_window_law t window h xs [] pos none same has = absurd (none_has h xs same has)
whole_window_law t window h xs (v ∷ vs) pos none same has =
    let least = window_least_law t window v vs none ∙ ap (λ (l : List EnteredView). least_after None l) same in
    let some = is_there (least_after None (entered_by h xs)) (least_some None h xs has) in
    record { n = some.0; said = least ∙ some.1; low = window_low_law h xs some.0 pos some.1 }

-- Packets without payload

none_of_both : (a b : Option ℕ) → least_of_both a b ≡ None → (a ≡ None) × (b ≡ None)
unfolding least_of_both
none_of_both None b e = (refl, e)
none_of_both (Some m) None e = absurd (let no : ⊥ = cc in no)
none_of_both (Some m) (Some n) e = absurd (let no : ⊥ = cc in no)

pub is_nothing : (o : Option ℕ) → o ≡ None → is_some o ≡ true → ⊥
is_nothing None is h = let no : ⊥ = cc in no
is_nothing (Some n) is h = let no : ⊥ = cc in no

no_times : (before : ℕ → ℕ) (until : ℕ) (ts : List ℕ) → least_found before until 0 None ts ≡ None → ts ≡ []
unfolding least_found lesser
no_times before until [] none = refl
no_times before until (t ∷ ts) none =
    absurd (is_nothing (least_found before until (0 + 1) (Some (before t + 0 * one_buffered until t)) ts) none
    (found_some before until (0 + 1) (before t + 0 * one_buffered until t) ts))

-- Parts without a payload byte that enters leave the main buffer as it is.
still : (step : ℕ) (recent before : List Part) → least_of step recent before ≡ None → (x : ℕ) →
    main_fullness step (recent ++ before) x ≡ main_fullness step before x
unfolding least_of main_fullness
still step [] before none x = refl
still step (Passes ts ∷ recent) before none x = still step recent before none x
still step (Carries ts ∷ recent) before none x =
    let p : List Part = recent ++ before in
    let both = none_of_both (least_of step recent before) (row_least step p ts) none in
    let empty : left_after step p ts ≡ [] = no_times (main_fullness step p) (until_of p) (left_after step p ts) both.1 in
    let zero : main_fullness step before x + 0 ≡ main_fullness step before x = omega arith in
    ap (λ (n : ℕ). n + row_entered (until_of p) x (left_after step p ts)) (still step recent before both.0 x)
    ∙ ap (λ (ds : List ℕ). main_fullness step before x + row_entered (until_of p) x ds) empty
    ∙ zero
still step (Begins due ∷ recent) before none x = still step recent before none x

still_now : (h : Held) (xs : List Entering) → least_after None (entered_by h xs) ≡ None → main_now (after_entering h xs) ≡ still_held h xs
still_now h xs none =
    let come = each_comes h h None 0 xs (nothing_comes h) in
    let h' : Held = after_entering h xs in
    ap (λ (r : ℕ). main_fullness r h'.parts (last_of r h'.parts)) come.rate
    ∙ ap (λ (ps : List Part). main_fullness h.rate ps (last_of h.rate h'.parts)) come.parts
    ∙ still h.rate come.recent h.parts (come.found ∙ none) (last_of h.rate h'.parts)

says_now : (most : ℕ) (h : Held) (least : Option ℕ) (n : ℕ) → least ≡ None → main_now h ≡ n → main_held most h least ≡ (n, n)
unfolding main_held
says_now most h least n none is = rw none (ap (λ (k : ℕ). (k, k)) is)

pub window_without_law : WindowWithoutLaw
window_without_law t window h xs v vs none same without =
    let least = window_least_law t window v vs none ∙ ap (λ (l : List EnteredView). least_after None l) same ∙ without in
    let t' : Tally = counted_each t window (v ∷ vs) in
    says_now t'.window_main (after_entering h xs) t'.window_least (still_held h xs) least (still_now h xs without)
