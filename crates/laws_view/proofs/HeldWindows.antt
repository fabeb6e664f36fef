-- The counts of a stream in a report while the packets of one window come
use Rattle.std.proofs.Common.{◌≡◌, ◌∙◌, sym, ℕ, ◌+◌, ◌^◌, ◌<◌, false, Bool, true, List, [], ◌∷◌, ◌++◌, length, map, Option, Some, None, if◌then◌else◌, refl, ap}
use Rattle.std.proofs.Common.{subst, nat_eq, arith, inl, inr}
use Rattle.std.specs.Prelude.{◌==◌, slice_get}
use Rattle.std.proofs.lemmas.Bool.Decides.{eqb_tells}
use Rattle.std.proofs.lemmas.List.{map-append}
use Rattle.ts_packet.specs.Views.{PacketView}
use Rattle.ts_packet.specs.Reading.{packet_at}
use Rattle.arrival.specs.declared.arrival.Arrival.{Arrival}
use Rattle.laws_view.specs.TimedPackets.{Timed}
use Rattle.tstd_rows.specs.Held.{Held}
use Rattle.tstd_rows.specs.Entering.{EnteredView, after, entered}
use Rattle.tstd_rows.specs.declared.arriving.Arriving.{Arriving}
use Rattle.tstd_rows.specs.declared.unit_seen.UnitSeen.{UnitSeen}
use Rattle.es_events.specs.declared.tally.Tally.{Tally}
use Rattle.es_events.specs.declared.view_options.ViewOptions.{ViewOptions}
use Rattle.ts_watch.specs.Choices.{RequestView}
use Rattle.es_events.specs.Clocks.{clock_of}
use Rattle.es_view.specs.Entries.{EntryState, arriving, beginning_in, is_unread}
use Rattle.es_view.specs.HeldEvents.{main_held}
use Rattle.es_events.specs.Tallies.{tally_after}
use Rattle.es_events.specs.declared.traces.Traces.{Traces}
use Rattle.ts_report.specs.Seen.{next_window}
use Rattle.es_events.specs.Tallies.{in_window, with_excesses, with_packet as with_tallied, with_unit_if}
use Rattle.ts_report.specs.Views.{ViewState, clocked, start, with_begun}
use Rattle.laws_view.specs.HeldWindows.{BeginIn, OfWindow, TimedWindowLaw, TimedWithoutLaw, options_then, window_entering}
use Rattle.laws_view.specs.StreamPackets.{Before, Followed, after_each, clock_with, entered_each, known_after, seen_in, sound_packet}
use Rattle.laws_view.specs.TimedStreams.{Entering, after_entering, entered_by, entering, entering_among, followed_by, followed_so, view_by}
use Rattle.laws_view.specs.WholeStreams.{followed as request_followed, nothing_known}
use Rattle.laws_view.specs.WindowHighs.{IsHighWith, TimedHighLaw}
use Rattle.laws_view.specs.WindowLows.{HasPayload, SaysHeld, SaysLow, counted_each, still_held}
use Rattle.laws_view.proofs.ClockedStreams.{view_two}
use Rattle.laws_view.proofs.Entries.{Agree, begun_agrees, begun_keeps, entry_with, taken_entry}
use Rattle.laws_view.proofs.Lists.{some_is}
use Rattle.laws_view.proofs.Steps.{after_sound, clock_known, finished_steps, followed, known, sound_agrees, sound_options, sound_packets, sound_steps}
use Rattle.laws_view.proofs.TimedGrown.{came_is, grown_by, next_by, ready}
use Rattle.laws_view.proofs.TimedWhole.{followed_is, index_by, knows_by, same_by}
use Rattle.laws_view.proofs.Whole.{none_agree}
use Rattle.laws_view.proofs.WindowHighs.{after_none, whole_high_law}
use Rattle.laws_view.proofs.WindowLows.{whole_window_law, window_without_law}

-- One more packet

-- What the buffers show for a packet, with whether its header could not be read
views_of : ViewState → EntryState → Option PacketView → List (Bool × EnteredView)
views_of s e None = []
views_of s e (Some packet) =
    if nat_eq e.pid packet.header.pid
    then (
      is_unread (beginning_in e.last packet),
      entered e.held s.seen.options.arrival
          (arriving s.seen.options s.seen.packets e.held.rx e.last
          (clock_with s.seen.options e.clock_pid s.seen.packets packet (clock_of s.seen.clocks e.clock_pid)) packet),
    ) ∷ []
    else []

views_same : (s : ViewState) (e : EntryState) (o : Option PacketView) →
    map (λ w. w.1) (views_of s e o) ≡ entered_each e.held s.seen.options.arrival (seen_in (followed s e) (known s e) o)
unfolding views_of seen_in entered_each
views_same s e None = refl
views_same s e (Some packet) = by (nat_eq e.pid packet.header.pid) refl
  where
    by : (w : Bool) → nat_eq e.pid packet.header.pid ≡ w →
        map (λ w. w.1) (views_of s e (Some packet)) ≡ entered_each e.held s.seen.options.arrival (seen_in (followed s e) (known s e) (Some packet))
    by true own = rw own refl
    by false other = rw other refl

-- The same counts with other traces of the last packets
abbrev pub with_kept : Tally → Traces → Tally
with_kept t kept = record t { traces = kept }

unit_kept : (t : Tally) (kept : Traces) (window : ℕ) (unit : Option UnitSeen) →
    with_unit_if (with_kept t kept) window unit ≡ with_kept (with_unit_if t window unit) kept
unfolding with_unit_if
unit_kept t kept window None = refl
unit_kept t kept window (Some u) = elim (eqb_tells t.window window) [
  | inl same ↦ rw same.0 refl
  | inr other ↦ rw other.0 refl
]

packet_kept : (t : Tally) (kept : Traces) (window : ℕ) (v : EnteredView) →
    with_tallied (with_kept t kept) window v ≡ with_kept (with_tallied t window v) kept
packet_kept t kept window v = elim (eqb_tells t.window window) [
  | inl same ↦ rw same.0 refl
  | inr other ↦ rw other.0 refl
]

after_kept : (t : Tally) (kept : Traces) (window : ℕ) (unread : Bool) (v : EnteredView) →
    tally_after (with_kept t kept) window unread v ≡ with_kept (tally_after t window unread v) kept
after_kept t kept window unread v =
    ap (λ (k : Tally). with_unit_if (with_excesses k (length v.transport) (length v.main) unread) window v.unit) (packet_kept t kept window v)
    ∙ unit_kept (with_excesses (with_tallied t window v) (length v.transport) (length v.main) unread) kept window v.unit

each_kept : (t : Tally) (kept : Traces) (window : ℕ) (vs : List (Bool × EnteredView)) →
    counted_each (with_kept t kept) window vs ≡ with_kept (counted_each t window vs) kept
unfolding counted_each
each_kept t kept window [] = refl
each_kept t kept window (v ∷ vs) =
    ap (λ (k : Tally). counted_each k window vs) (after_kept t kept window v.0 v.1) ∙ each_kept (tally_after t window v.0 v.1) kept window vs

tally_more : (s : ViewState) (o : Option PacketView) (window j : ℕ) (e e1 : EntryState) → Agree s.table → slice_get s.table.entries j ≡ Some e →
    next_window s.seen ≡ window →
    slice_get (after_sound s o).table.entries j ≡ Some e1 → e1.tally ≡ with_kept (counted_each e.tally window (views_of s e o)) e1.tally.traces
unfolding after_sound views_of counted_each
tally_more s None window j e e1 agree there in_it later =
    subst (λ (x : EntryState). x.tally ≡ with_kept e.tally x.tally.traces) (sym (some_is e1 e (sym later ∙ there))) refl
tally_more s (Some packet) window j e e1 agree there in_it later =
    subst (λ (x : EntryState). x.tally ≡ with_kept (counted_each e.tally window (views_of s e (Some packet))) x.tally.traces)
    (sym (some_is e1 now (sym later ∙ is))) (by (nat_eq e.pid packet.header.pid) refl)
  where
    c : ViewState
    c = clocked s packet

    now : EntryState
    now = entry_with c.seen.options c.seen.packets (next_window c.seen) c.seen.clocks e packet

    is : slice_get (after_sound s (Some packet)).table.entries j ≡ Some now
    is = taken_entry c.seen.options c.seen.packets (next_window c.seen) c.seen.clocks (with_begun c packet) packet j e
        (begun_agrees c.seen.options c.seen.named c.table packet agree)
        (begun_keeps c.seen.options c.seen.named c.table packet j e there)

    clock : clock_of c.seen.clocks e.clock_pid ≡ clock_with s.seen.options e.clock_pid s.seen.packets packet (clock_of s.seen.clocks e.clock_pid)
    clock = clock_known s.seen.options e.clock_pid s.seen.packets packet s.seen.clocks

    by : (w : Bool) → nat_eq e.pid packet.header.pid ≡ w →
        now.tally ≡ with_kept (counted_each e.tally window (views_of s e (Some packet))) now.tally.traces
    by true own = rw (own, clock, in_it) refl
    by false other = rw other refl

-- All packets of the window

counted_append : (t : Tally) (window : ℕ) (vs ws : List (Bool × EnteredView)) →
    counted_each t window (vs ++ ws) ≡ counted_each (counted_each t window vs) window ws
unfolding counted_each
counted_append t window [] ws = refl
counted_append t window (v ∷ vs) ws = counted_append (tally_after t window v.0 v.1) window vs ws

entered_then : (h : Held) (arrival : Arrival) (ps : List Arriving) (xs : List Entering) →
    entered_by h (entering arrival ps ++ xs) ≡ entered_each h arrival ps ++ entered_by (after_each h arrival ps) xs
unfolding entered_by entered_each after_each
entered_then h arrival [] xs = refl
entered_then h arrival (p ∷ ps) xs = ap (λ (vs : List EnteredView). entered h arrival p ∷ vs) (entered_then (after h arrival p) arrival ps xs)

pub record CountedIn (s : ViewState) (window : ℕ) (packets : List Timed) (e e' : EntryState) : Type 0 where
  pub vs : List (Bool × EnteredView)
  pub tally : e'.tally ≡ with_kept (counted_each e.tally window vs) e'.tally.traces
  pub same : map (λ w. w.1) vs ≡ entered_by e.held (entering_among (followed s e) (known s e) packets)

none_in : (s : ViewState) (window : ℕ) (e e' : EntryState) → e ≡ e' → CountedIn s window [] e e'
unfolding counted_each entering_among entered_by
none_in s window e e' same = record {
  vs = [];
  tally = subst (λ (x : EntryState). x.tally ≡ with_kept e.tally x.tally.traces) same refl;
  same = refl;
}

pub counted_in : (s : ViewState) (packets : List Timed) (window j : ℕ) (e e' : EntryState) → Agree s.table → s.seen.packets + length packets < 2 ^ 64 →
    slice_get s.table.entries j ≡ Some e → BeginIn s.seen.options window s.seen.packets packets → slice_get (view_by s packets).table.entries j ≡ Some e' →
    CountedIn s window packets e e'
unfolding view_by entering_among BeginIn
counted_in s [] window j e e' agree few there all later = none_in s window e e' (some_is e e' (sym there ∙ later))
counted_in s (p ∷ packets) window j e e' agree few there all later =
    let a : Arrival = p.arrival in
    let r : ViewState = ready s a in
    let o : Option PacketView = sound_packet (packet_at p.bytes) in
    let one : r.seen.packets + 1 < 2 ^ 64 = omega (arith, few) in
    let step = sound_steps r o j e agree one there in
    let e1 : EntryState = step.0 in
    let f : Followed = followed_so (followed s e) a in
    let b : Before = known s e in
    let ps : List Arriving = seen_in f b o in
    let xs : List Entering = entering_among f (known_after f b o) packets in
    let count = sound_packets r o one in
    let options = sound_options r o in
    let in_it : next_window r.seen ≡ window = all.0 in
    let others : BeginIn (next_by s p).seen.options window (next_by s p).seen.packets packets = rw (options, count) all.1 in
    let rest = counted_in (next_by s p) packets window j e1 e' (sound_agrees r o agree) (omega (arith, few, count)) step.1.0 others
    (subst (λ (x : ViewState). slice_get (view_by x packets).table.entries j ≡ Some e') (came_is s p) later) in
    let steps = finished_steps r (after_sound r o) o p.bytes e e1 step.1.1 in
    let seen : entering_among (followed (next_by s p) e1) (known (next_by s p) e1) packets ≡ xs = rw (steps.same_stream, steps.then_known) refl in
    let first = tally_more r o window j e e1 agree there in_it step.1.0 in
    let counted : Tally = counted_each e.tally window (views_of r e o) in
    let those : map (λ w. w.1) rest.vs ≡ entered_by (after_each e.held a ps) xs = rest.same ∙ rw (seen, steps.held) refl in
    record {
      vs = views_of r e o ++ rest.vs;
      tally = rest.tally
          ∙ ap (λ (t : Tally). with_kept (counted_each t window rest.vs) e'.tally.traces) first
          ∙ ap (λ (t : Tally). with_kept t e'.tally.traces) (each_kept counted e1.tally.traces window rest.vs)
          ∙ ap (λ (t : Tally). with_kept t e'.tally.traces) (sym (counted_append e.tally window (views_of r e o) rest.vs));
      same = map-append (λ w. w.1) (views_of r e o) rest.vs
          ∙ ap (λ (vs : List EnteredView). vs ++ map (λ w. w.1) rest.vs) (views_same r e o)
          ∙ ap (λ (vs : List EnteredView). entered_each e.held a ps ++ vs) those
          ∙ sym (entered_then e.held a ps xs);
    }

-- The window in a report

pub agree_by : (s : ViewState) (packets : List Timed) → Agree s.table → Agree (view_by s packets).table
unfolding view_by
agree_by s [] agree = agree
agree_by s (p ∷ packets) agree =
    let r : ViewState = ready s p.arrival in
    let o : Option PacketView = sound_packet (packet_at p.bytes) in
    subst (λ (x : ViewState). Agree (view_by x packets).table) (sym (came_is s p)) (agree_by (next_by s p) packets (sound_agrees r o agree))

-- How a stream is viewed once these packets have come
pub record ViewedThen (request : RequestView) (before : List Timed) (e : EntryState) : Type 0 where
  pub count : (view_by (start request) before).seen.packets ≡ length before
  pub options : (view_by (start request) before).seen.options ≡ options_then request e before
  pub same : followed (view_by (start request) before) e ≡ followed_by (request_followed request e) before

pub viewed_then : (request : RequestView) (before : List Timed) (e : EntryState) → length before < 2 ^ 64 → ViewedThen request before e
viewed_then request before e few =
    let s : ViewState = view_by (start request) before in
    let f0 : Followed = request_followed request e in
    let f : Followed = followed_by f0 before in
    let knows = knows_by (start request) f0 nothing_known before (record { options = refl; index = refl; clock = refl }) (omega (arith, few)) in
    let stay = same_by f0 before in
    let zero_is : 0 + length before ≡ length before = omega arith in
    record {
      count = sym knows.index ∙ index_by f0 nothing_known before ∙ zero_is;
      options = knows.options;
      same = followed_is s.seen.options f.options e.pid f.pid e.clock_pid f.clock_pid e.held.rx f.rx knows.options (sym stay.pid) (sym stay.clock_pid)
          (sym stay.rx);
    }

pub begin_then : (request : RequestView) (before : List Timed) (window : ℕ) (packets : List Timed) (e : EntryState) → ViewedThen request before e →
    BeginIn (options_then request e before) window (length before) packets →
    BeginIn (view_by (start request) before).seen.options window (view_by (start request) before).seen.packets packets
begin_then request before window packets e v all =
    subst (λ (o : ViewOptions). BeginIn o window (view_by (start request) before).seen.packets packets) (sym v.options)
    (subst (λ (i : ℕ). BeginIn (options_then request e before) window i packets) (sym v.count) all)

pub grown_held : (s : ViewState) (packets : List Timed) (j : ℕ) (e e' : EntryState) → Agree s.table → s.seen.packets + length packets < 2 ^ 64 →
    slice_get s.table.entries j ≡ Some e → slice_get (view_by s packets).table.entries j ≡ Some e' →
    e'.held ≡ after_entering e.held (entering_among (followed s e) (known s e) packets)
grown_held s packets j e e' agree few there later =
    let g = grown_by s packets j e agree few there in
    ap (λ (x : EntryState). x.held) (some_is e' g.0 (sym later ∙ g.1.0)) ∙ g.1.1.held

-- What the buffers of a stream hold once the packets of a window have come
pub window_held : (request : RequestView) (before packets : List Timed) (window place : ℕ) (e e' : EntryState) →
    OfWindow request before packets window place e e' →
    e'.held ≡ after_entering e.held (window_entering request before e packets)
window_held request before packets window place e e' w =
    let s : ViewState = view_by (start request) before in
    let v = viewed_then request before e (omega (arith, w.few)) in
    grown_held s packets place e e' (agree_by (start request) before (none_agree request)) (omega (arith, v.count, w.few)) w.begun
    (subst (λ (x : ViewState). slice_get x.table.entries place ≡ Some e') (view_two (start request) before packets) w.come)
    ∙ ap (λ (g : Followed). after_entering e.held (entering_among g (known s e) packets)) v.same

-- The counts of a stream over a window
pub record CountedOver (t t' : Tally) (window : ℕ) (h : Held) (xs : List Entering) : Type 0 where
  pub vs : List (Bool × EnteredView)
  pub tally : t' ≡ with_kept (counted_each t window vs) t'.traces
  pub same : map (λ w. w.1) vs ≡ entered_by h xs

pub window_counted : (request : RequestView) (before packets : List Timed) (window place : ℕ) (e e' : EntryState) →
    OfWindow request before packets window place e e' →
    CountedOver e.tally e'.tally window e.held (window_entering request before e packets)
window_counted request before packets window place e e' w =
    let s : ViewState = view_by (start request) before in
    let v = viewed_then request before e (omega (arith, w.few)) in
    let c = counted_in s packets window place e e' (agree_by (start request) before (none_agree request)) (omega (arith, v.count, w.few)) w.begun
    (begin_then request before window packets e v w.all)
    (subst (λ (x : ViewState). slice_get x.table.entries place ≡ Some e') (view_two (start request) before packets) w.come) in
    record { vs = c.vs; tally = c.tally; same = c.same ∙ ap (λ (g : Followed). entered_by e.held (entering_among g (known s e) packets)) v.same }

-- The line then has the least fullness of the main buffer.
pub says_low : (t t' : Tally) (window : ℕ) (h : Held) (xs : List Entering) → CountedOver t t' window h xs → (t.window == window) ≡ false → 0 < h.rate →
    HasPayload h xs → SaysLow t' h xs
says_low t t' window h xs c other pos has =
    let none : (in_window t window).window_least ≡ None = rw other refl in
    let low = whole_window_law t window h xs c.vs pos none c.same has in
    record { n = low.n; said = ap (λ (k : Tally). k.window_least) c.tally ∙ low.said; low = low.low }

pub says_high : (t t' : Tally) (window : ℕ) (h : Held) (xs : List Entering) → CountedOver t t' window h xs → (t.window == window) ≡ false → 0 < h.rate →
    HasPayload h xs → IsHighWith h xs t'.window_main
says_high t t' window h xs c other pos has =
    let none : (in_window t window).window_main ≡ 0 = rw other refl in
    subst (λ (k : Tally). IsHighWith h xs k.window_main) (sym c.tally) (whole_high_law t window h xs c.vs pos none c.same has)

not_both : true ≡ false → ⊥
not_both h = cc

-- If no byte enters and the last packet lies in the window, the line has the bytes still held.
says_held : (t t' : Tally) (window : ℕ) (h : Held) (xs : List Entering) → CountedOver t t' window h xs → (t.window == window) ≡ false →
    (t'.window == window) ≡ true → (HasPayload h xs → ⊥) → SaysHeld t' h xs
unfolding counted_each
says_held t t' window h xs c other now none = by c.vs c.tally c.same
  where
    by : (vs : List (Bool × EnteredView)) → t' ≡ with_kept (counted_each t window vs) t'.traces → map (λ w. w.1) vs ≡ entered_by h xs → SaysHeld t' h xs
    by [] is same = absurd (not_both (sym now ∙ ap (λ (k : Tally). k.window == window) is ∙ other))
    by (v ∷ vs) is same =
        let empty : (in_window t window).window_least ≡ None = rw other refl in
        subst (λ (k : Tally). SaysHeld k h xs) (sym is) (window_without_law t window h xs v vs empty same (after_none h xs none).1)

pub timed_without_law : TimedWithoutLaw
timed_without_law request before packets window place e e' w now none =
    let xs : List Entering = window_entering request before e packets in
    subst (λ (h : Held). main_held e'.tally.window_main h e'.tally.window_least ≡ (still_held e.held xs, still_held e.held xs))
    (sym (window_held request before packets window place e e' w))
    (says_held e.tally e'.tally window e.held xs (window_counted request before packets window place e e' w) w.other now none)

pub timed_window_law : TimedWindowLaw
timed_window_law request before packets window place e e' w pos has =
    says_low e.tally e'.tally window e.held (window_entering request before e packets) (window_counted request before packets window place e e' w) w.other pos
    has

pub timed_high_law : TimedHighLaw
timed_high_law request before packets window place e e' w pos has =
    says_high e.tally e'.tally window e.held (window_entering request before e packets) (window_counted request before packets window place e e' w) w.other pos
    has
