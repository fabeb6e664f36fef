-- In the window where the buffers of a stream begin, the line `held` has 0 as its least, and as its most the most of all packets so far.
use Rattle.std.proofs.Common.{◌≡◌, ◌∙◌, sym, ℕ, ◌+◌, ◌-◌, ◌*◌, ◌^◌, ◌<◌, ◌⊎◌, min, Bool, true, false, List, [], ◌∷◌, ◌++◌, length, Option, Some, None}
use Rattle.std.proofs.Common.{if◌then◌else◌, refl, ap, ap₂, subst, inl, inr, nat_eq, arith}
use Rattle.std.specs.Prelude.{◌==◌, slice_get}
use Rattle.std.proofs.lemmas.List.{append-nil}
use Rattle.ts_packet.specs.Views.{PacketView}
use Rattle.ts_packet.specs.Reading.{packet_at}
use Rattle.clock27.specs.Peak.{greatest_at}
use Rattle.tstd.specs.BufferedUnits.{one_buffered}
use Rattle.tstd_rows.specs.Least.{least_found, lesser}
use Rattle.tstd_rows.specs.RowEntry.{entered as row_entered}
use Rattle.ts_tables.specs.NamedStreams.{NamedView}
use Rattle.stream_programs.specs.Streams.{FoundStreamView}
use Rattle.tstd_rows.specs.History.{Part, last_of, left_after, main_fullness, main_peak, payload_left, row_least, until_of}
use Rattle.tstd_rows.specs.History.Part.{Passes, Carries, Begins}
use Rattle.tstd_rows.specs.Lows.{least_of, least_of_both}
use Rattle.tstd_rows.specs.Held.{Held, main_most, transport_most}
use Rattle.tstd_rows.specs.Entering.{EnteredView, after, entered}
use Rattle.tstd_rows.specs.declared.arriving.Arriving.{Arriving}
use Rattle.laws_view.specs.TimedPackets.{Timed}
use Rattle.es_events.specs.declared.tally.Tally.{Tally}
use Rattle.es_events.specs.declared.view_options.ViewOptions.{ViewOptions}
use Rattle.ts_watch.specs.Choices.{RequestView}
use Rattle.es_events.specs.Clocks.{ClockEntries, clock_of}
use Rattle.es_view.specs.HeldEvents.{main_held}
use Rattle.es_view.specs.Entries.{EntryState, arriving, beginning_in, is_unread}
use Rattle.es_events.specs.Tallies.{tally_after}
use Rattle.ts_report.specs.Seen.{next_window}
use Rattle.ts_report.specs.StreamTables.{TableState}
use Rattle.es_events.specs.Tallies.{in_window, none_counted}
use Rattle.ts_report.specs.Views.{ViewState, clocked, start, with_begun}
use Rattle.laws_view.specs.FirstHighs.{FirstHighLaw}
use Rattle.laws_view.specs.HeldWindows.{BeginIn, FirstWindowLaw, options_then}
use Rattle.laws_view.specs.StreamPackets.{sound_packet}
use Rattle.laws_view.specs.TimedStreams.{Entering, after_entering, entered_by, entering_among, view_by}
use Rattle.laws_view.specs.TransportHighs.{transport_after}
use Rattle.laws_view.specs.WindowHighs.{most_after}
use Rattle.laws_view.specs.WindowLows.{least_after}
use Rattle.laws_view.proofs.ClockedStreams.{view_two}
use Rattle.laws_view.proofs.Entries.{Agree, begun_agrees, begun_or_before, entry_begun, entry_with, taken_before}
use Rattle.laws_view.proofs.HeldWindows.{agree_by, begin_then, counted_in, grown_held, viewed_then}
use Rattle.laws_view.proofs.Lists.{itself}
use Rattle.laws_view.proofs.MainHighs.{first_most, most_of}
use Rattle.laws_view.proofs.Steps.{after_sound, followed, known, sound_agrees, sound_options, sound_packets}
use Rattle.laws_view.proofs.TimedGrown.{came_is, next_by, ready}
use Rattle.laws_view.proofs.TransportHighs.{Arrives, each_arrives, each_transport, first_full, packet_arrives, packet_transport}
use Rattle.laws_view.proofs.Whole.{none_agree}
use Rattle.laws_view.proofs.WindowHighs.{each_most, packet_most}
use Rattle.laws_view.proofs.WindowLows.{Comes, each_comes, each_least, packet_comes, packet_least}

-- The first byte finds an empty main buffer.

no_less : (n : ℕ) → min 0 n ≡ 0
no_less n = omega arith

nothing_more : (a b : ℕ) → a ≡ 0 → a + 0 * b ≡ 0
nothing_more a b e = omega (arith, e)

zero_stays : (before : ℕ → ℕ) (until n : ℕ) (ts : List ℕ) → least_found before until n (Some 0) ts ≡ Some 0
unfolding least_found lesser
zero_stays before until n [] = refl
zero_stays before until n (t ∷ ts) = rw (no_less (before t + n * one_buffered until t)) (zero_stays before until (n + 1) ts)

row_zero : (before : ℕ → ℕ) (until : ℕ) (ts : List ℕ) → ((x : ℕ) → before x ≡ 0) → (ts ≡ []) ⊎ (least_found before until 0 None ts ≡ Some 0)
unfolding least_found lesser
row_zero before until [] none = inl refl
row_zero before until (t ∷ ts) none = inr (rw (nothing_more (before t) (one_buffered until t) (none t)) (zero_stays before until (0 + 1) ts))

zero_first : (o : Option ℕ) → least_of_both (Some 0) o ≡ Some 0
unfolding least_of_both
zero_first None = refl
zero_first (Some n) = ap Some (no_less n)

-- The least is 0, or no byte has found a fullness and the main buffer is empty.
abbrev Starts : ℕ → List Part → Type 0
Starts step ps = (least_of step ps [] ≡ Some 0) ⊎ ((least_of step ps [] ≡ None) × ((x : ℕ) → main_fullness step ps x ≡ 0))

carries_start : (step : ℕ) (ts : List ℕ) (ps : List Part) → Starts step ps → Starts step (Carries ts ∷ ps)
unfolding least_of main_fullness least_of_both least_found
carries_start step ts ps (inl zero) =
    inl (ap (λ (o : Option ℕ). least_of_both o (row_least step (ps ++ []) ts)) zero ∙ zero_first (row_least step (ps ++ []) ts))
carries_start step ts ps (inr none) =
    let row : least_of step (Carries ts ∷ ps) [] ≡ row_least step ps ts =
    ap (λ (o : Option ℕ). least_of_both o (row_least step (ps ++ []) ts)) none.0 ∙ ap (λ (qs : List Part). row_least step qs ts) (append-nil ps) in
    elim (row_zero (main_fullness step ps) (until_of ps) (left_after step ps ts) none.1) [
      | inl no_byte ↦ inr (
        row ∙ ap (λ (ds : List ℕ). least_found (main_fullness step ps) (until_of ps) 0 None ds) no_byte,
        λ x. ap (λ (n : ℕ). n + row_entered (until_of ps) x (left_after step ps ts)) (none.1 x)
            ∙ ap (λ (ds : List ℕ). 0 + row_entered (until_of ps) x ds) no_byte,
      )
      | inr zero ↦ inl (row ∙ zero)
    ]

parts_start : (step : ℕ) (ps : List Part) → Starts step ps
unfolding least_of main_fullness
parts_start step [] = inr (refl, λ x. refl)
parts_start step (Passes ts ∷ ps) = parts_start step ps
parts_start step (Carries ts ∷ ps) = carries_start step ts ps (parts_start step ps)
parts_start step (Begins due ∷ ps) = parts_start step ps

-- The line has 0 as its least, whether or not a byte has found a fullness.
least_zero : (most : ℕ) (h : Held) (ps : List Part) (least : Option ℕ) → h.parts ≡ ps → least ≡ least_of h.rate ps [] → (main_held most h least).1 ≡ 0
unfolding main_held
least_zero most h ps least same is = elim (parts_start h.rate ps) [
  | inl zero ↦ rw (is ∙ zero) refl
  | inr none ↦ rw (is ∙ none.0)
      (ap (λ (qs : List Part). main_fullness h.rate qs (last_of h.rate h.parts)) same ∙ none.1 (last_of h.rate h.parts))
]

none_greatest : (f : ℕ → ℕ) (ts : List ℕ) → ((x : ℕ) → f x ≡ 0) → greatest_at f ts ≡ 0
unfolding greatest_at
none_greatest f [] none = refl
none_greatest f (t ∷ ts) none = omega (arith, none t, none_greatest f ts none)

-- The line has as its most the most of all packets so far.
most_so_far : (most : ℕ) (h : Held) (ps : List Part) (least : Option ℕ) → h.parts ≡ ps → least ≡ least_of h.rate ps [] → most ≡ main_most h →
    (main_held most h least).0 ≡ main_most h
unfolding main_held
most_so_far most h ps least same is most_is = elim (parts_start h.rate ps) [
  | inl zero ↦ rw (is ∙ zero) most_is
  | inr none ↦
      let empty : (x : ℕ) → main_fullness h.rate h.parts x ≡ 0 = λ x. ap (λ (qs : List Part). main_fullness h.rate qs x) same ∙ none.1 x in
      rw (is ∙ none.0) (empty (last_of h.rate h.parts) ∙ sym (none_greatest (main_fullness h.rate h.parts) (payload_left h.rate h.parts) empty))
]

-- The packet where the buffers begin

-- The counts of the window cover all packets since the buffers were empty.
record Counts (window : ℕ) (e : EntryState) : Type 0 where
  from : Held
  none : from.parts ≡ []
  come : Comes from e.held e.tally.window_least e.tally.window_main
  arrive : Arrives from e.held e.tally.window_transport
  in_it : e.tally.window ≡ window

-- Before the buffers begin, the window counts nothing.
record CountsNone (t : Tally) : Type 0 where
  least : t.window_least ≡ None
  main : t.window_main ≡ 0
  transport : t.window_transport ≡ 0

none_before : (window : ℕ) → CountsNone (in_window none_counted window)
none_before window = by (0 == window)
  where
    by : (b : Bool) →
        CountsNone (if b then none_counted else record none_counted
        { window = window; window_transport = 0; window_main = 0; window_least = None; window_units = 0; window_late = 0; slack = 2 ^ 128 - 1 })
    by true = record { least = refl; main = refl; transport = refl }
    by false = record { least = refl; main = refl; transport = refl }

begun_counts : (options : ViewOptions) (index window : ℕ) (clocks : ClockEntries) (named : NamedView) (t : TableState) (packet : PacketView)
    (stream : FoundStreamView) →
    Counts window (entry_with options index window clocks (entry_begun options named t packet stream) packet)
unfolding least_of_both
begun_counts options index window clocks named t packet stream =
    let e : EntryState = entry_begun options named t packet stream in
    let own : nat_eq e.pid packet.header.pid ≡ true = itself packet.header.pid in
    let p : Arriving = arriving options index e.held.rx e.last (clock_of clocks e.clock_pid) packet in
    let v : EnteredView = entered e.held options.arrival p in
    let h : Held = after e.held options.arrival p in
    let unread : Bool = is_unread (beginning_in e.last packet) in
    let then_counted : Tally = tally_after e.tally window unread v in
    let before = none_before window in
    let one = packet_least e.tally window unread v in
    let least = one.0 ∙ ap (λ (l : Option ℕ). least_of_both l v.main_least) before.least in
    let more = packet_most e.tally window unread v in
    let most : v.main_most ≡ then_counted.window_main = omega (arith, more.0, before.main) in
    let full = packet_transport e.tally window unread v in
    let fullest : v.transport_most ≡ then_counted.window_transport = omega (arith, full.0, before.transport) in
    rw own (record {
      from = e.held;
      none = refl;
      come = subst (λ (l : Option ℕ). Comes e.held h l then_counted.window_main) (sym least)
          (subst (λ (n : ℕ). Comes e.held h v.main_least n) most (packet_comes e.held options.arrival p));
      arrive = subst (λ (n : ℕ). Arrives e.held h n) fullest (packet_arrives e.held options.arrival p);
      in_it = one.1;
    })

first_counts : (r : ViewState) (o : Option PacketView) (window j : ℕ) (e : EntryState) → Agree r.table →
    ((d : EntryState) → slice_get r.table.entries j ≡ Some d → ⊥) →
    next_window r.seen ≡ window → slice_get (after_sound r o).table.entries j ≡ Some e → Counts window e
unfolding after_sound
first_counts r None window j e agree none in_it there = absurd (none e there)
first_counts r (Some packet) window j e agree none in_it there =
    let c : ViewState = clocked r packet in
    let began = begun_agrees c.seen.options c.seen.named c.table packet agree in
    let back = taken_before c.seen.options c.seen.packets (next_window c.seen) c.seen.clocks (with_begun c packet) packet j e began there in
    elim (begun_or_before c.seen.options c.seen.named c.table packet j back.0 back.1.0) [
      | inl old ↦ absurd (none back.0 old)
      | inr begins ↦
          let is = back.1.1 ∙ ap (λ (x : EntryState). entry_with c.seen.options c.seen.packets (next_window c.seen) c.seen.clocks x packet) begins.is in
          subst (λ (w : ℕ). Counts w e) in_it
          (subst (λ (x : EntryState). Counts (next_window c.seen) x) (sym is)
          (begun_counts c.seen.options c.seen.packets (next_window c.seen) c.seen.clocks c.seen.named c.table packet begins.stream))
    ]

-- The later packets of the window

-- What the line of the window then says
record FirstSays (e : EntryState) : Type 0 where
  least : (main_held e.tally.window_main e.held e.tally.window_least).1 ≡ 0
  transport : e.tally.window_transport ≡ transport_most e.held
  main : 0 < e.held.rate → e.tally.window_main ≡ main_most e.held
  said : 0 < e.held.rate → (main_held e.tally.window_main e.held e.tally.window_least).0 ≡ main_most e.held

window_zero : (s : ViewState) (packets : List Timed) (window j : ℕ) (e e' : EntryState) → Counts window e → Agree s.table →
    s.seen.packets + length packets < 2 ^ 64 →
    slice_get s.table.entries j ≡ Some e → BeginIn s.seen.options window s.seen.packets packets → slice_get (view_by s packets).table.entries j ≡ Some e' →
    FirstSays e'
window_zero s packets window j e e' k agree few there all later =
    let c = counted_in s packets window j e e' agree few there all later in
    let xs : List Entering = entering_among (followed s e) (known s e) packets in
    let come = each_comes k.from e.held e.tally.window_least e.tally.window_main xs k.come in
    let is : e'.tally.window_least ≡ least_after e.tally.window_least (entered_by e.held xs) =
    ap (λ (t : Tally). t.window_least) c.tally ∙ each_least e.tally window c.vs k.in_it
    ∙ ap (λ (vs : List EnteredView). least_after e.tally.window_least vs) c.same in
    let from_none = is ∙ sym come.found ∙ ap (λ (ps : List Part). least_of k.from.rate come.recent ps) k.none in
    let held = grown_held s packets j e e' agree few there later in
    let rate : e'.held.rate ≡ k.from.rate = ap (λ (h : Held). h.rate) held ∙ come.rate in
    let parts : e'.held.parts ≡ come.recent ++ [] = ap (λ (h : Held). h.parts) held ∙ come.parts ∙ ap (λ (ps : List Part). come.recent ++ ps) k.none in
    let most : e'.tally.window_main ≡ most_of k.from.rate come.recent [] =
    ap (λ (t : Tally). t.window_main) c.tally ∙ each_most e.tally window c.vs k.in_it
    ∙ ap (λ (vs : List EnteredView). most_after e.tally.window_main vs) c.same
    ∙ sym come.most_found ∙ ap (λ (ps : List Part). most_of k.from.rate come.recent ps) k.none in
    let arrive = each_arrives k.from e.held e.tally.window_transport xs k.arrive in
    let full : e'.tally.window_transport ≡ transport_after e.tally.window_transport (entered_by e.held xs) =
    ap (λ (t : Tally). t.window_transport) c.tally ∙ each_transport e.tally window c.vs k.in_it
    ∙ ap (λ (vs : List EnteredView). transport_after e.tally.window_transport vs) c.same in
    let own : e'.held.parts ≡ come.recent = parts ∙ append-nil come.recent in
    let first : e'.tally.window_least ≡ least_of e'.held.rate come.recent [] = from_none ∙ ap (λ (r : ℕ). least_of r come.recent []) (sym rate) in
    let whole : 0 < e'.held.rate → e'.tally.window_main ≡ main_most e'.held =
    λ pos. most ∙ first_most k.from.rate come.recent (omega (arith, pos, rate)) ∙ ap₂ main_peak (sym rate) (sym parts) in
    record {
      least = least_zero e'.tally.window_main e'.held come.recent e'.tally.window_least own first;
      transport = full ∙ sym (first_full k.from (after_entering e.held xs) (transport_after e.tally.window_transport (entered_by e.held xs)) k.none arrive)
          ∙ ap (λ (h : Held). transport_most h) (sym held);
      main = whole;
      said = λ pos. most_so_far e'.tally.window_main e'.held come.recent e'.tally.window_least own first (whole pos);
    }

is_or_not : (o : Option EntryState) → ((d : EntryState) → o ≡ Some d → ⊥) ⊎ ((d : EntryState) × (o ≡ Some d))
is_or_not None = inl (λ d e. cc)
is_or_not (Some d) = inr (d, refl)

first_window : (s : ViewState) (packets : List Timed) (window j : ℕ) (e : EntryState) → Agree s.table → s.seen.packets + length packets < 2 ^ 64 →
    ((d : EntryState) → slice_get s.table.entries j ≡ Some d → ⊥) → BeginIn s.seen.options window s.seen.packets packets →
    slice_get (view_by s packets).table.entries j ≡ Some e → FirstSays e
unfolding view_by BeginIn
first_window s [] window j e agree few none all later = absurd (none e later)
first_window s (p ∷ packets) window j e agree few none all later =
    let r : ViewState = ready s p.arrival in
    let o : Option PacketView = sound_packet (packet_at p.bytes) in
    let one : r.seen.packets + 1 < 2 ^ 64 = omega (arith, few) in
    let count = sound_packets r o one in
    let options = sound_options r o in
    let s' : ViewState = next_by s p in
    let others : BeginIn s'.seen.options window s'.seen.packets packets = rw (options, count) all.1 in
    let later' = subst (λ (x : ViewState). slice_get (view_by x packets).table.entries j ≡ Some e) (came_is s p) later in
    elim (is_or_not (slice_get s'.table.entries j)) [
      | inl none' ↦ first_window s' packets window j e (sound_agrees r o agree) (omega (arith, few, count)) none' others later'
      | inr now ↦
          window_zero s' packets window j now.0 e (first_counts r o window j now.0 agree none all.0 now.1) (sound_agrees r o agree) (omega (arith, few, count))
          now.1 others later'
    ]

in_first_window : (request : RequestView) (before packets : List Timed) (window place : ℕ) (e : EntryState) → length before + length packets < 2 ^ 64 →
    slice_get (view_by (start request) before).table.entries place ≡ None →
    slice_get (view_by (start request) (before ++ packets)).table.entries place ≡ Some e →
    BeginIn (options_then request e before) window (length before) packets → FirstSays e
in_first_window request before packets window place e few none there all =
    let s : ViewState = view_by (start request) before in
    let v = viewed_then request before e (omega (arith, few)) in
    let later = subst (λ (x : ViewState). slice_get x.table.entries place ≡ Some e) (view_two (start request) before packets) there in
    first_window s packets window place e (agree_by (start request) before (none_agree request)) (omega (arith, v.count, few))
    (λ d is. not_both d (sym none ∙ is))
    (begin_then request before window packets e v all) later
  where
    not_both : (d : EntryState) → None ≡ Some d → ⊥
    not_both d h = cc

pub first_window_law : FirstWindowLaw
first_window_law request before packets window place e few none there all = (in_first_window request before packets window place e few none there all).least

pub first_high_law : FirstHighLaw
first_high_law request before packets window place e few none there all pos =
    let says = in_first_window request before packets window place e few none there all in
    record { transport = says.transport; main = says.main pos; said = says.said pos }
