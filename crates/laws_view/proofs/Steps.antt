-- One more packet of a stream: what a view knows then, and what enters the buffers of each stream that has begun
use Rattle.std.proofs.Common.{◌≡◌, ◌∙◌, sym, ℕ, ◌+◌, ◌-◌, ◌^◌, ◌<◌, ◌⊎◌, Bool, true, false, List, [], ◌∷◌, length, Option, Some, None, Result, Ok, Err}
use Rattle.std.proofs.Common.{if◌then◌else◌, refl, ap, subst, inl, inr, nat_eq, arith}
use Rattle.std.specs.Prelude.{slice_get, ◌==◌}
use Rattle.std.specs.Option.{option_or}
use Rattle.std.specs.Map.{lookup}
use Rattle.std.proofs.lemmas.Bool.{cases_Bool}
use Rattle.std.proofs.lemmas.Bool.Decides.{eqb_tells}
use Rattle.ts_packet.specs.declared.packet.PacketError.{PacketError}
use Rattle.ts_packet.specs.Views.{PacketView}
use Rattle.ts_packet.specs.Reading.{packet_at}
use Rattle.arrival.specs.declared.clock.PcrSample.{PcrSample}
use Rattle.tstd_rows.specs.declared.unit_seen.UnitSeen.{UnitSeen}
use Rattle.tstd_rows.specs.Entering.{EnteredView, after, entered}
use Rattle.tstd_rows.specs.declared.arriving.Arriving.{Arriving}
use Rattle.es_events.specs.declared.tally.Tally.{Tally}
use Rattle.es_events.specs.declared.view_options.ViewOptions.{ViewOptions}
use Rattle.es_events.specs.Clocks.{ClockEntries, clock_of, clocks_after, with_sample}
use Rattle.tr101290.specs.Windows.{one_more}
use Rattle.es_view.specs.Entries.{EntryState, arriving, beginning_in, is_unread}
use Rattle.es_events.specs.Tallies.{tally_after}
use Rattle.ts_report.specs.Seen.{SeenState, next_window, with_counter_read}
use Rattle.ts_report.specs.StreamTables.{entry_taken}
use Rattle.es_events.specs.Tallies.{in_window, is_late, more, with_excesses, with_packet as with_tallied, with_unit_if}
use Rattle.ts_report.specs.Views.{ViewState, after_packet, after_read, clocked, with_begun, with_named, with_packet, with_sections, with_tables, without}
use Rattle.laws_view.specs.StreamPackets.{Before, Followed, after_each, clock_with, entered_each, known_after, reference_in, seen_in, sound_packet}
use Rattle.laws_view.proofs.EnteredBytes.{Alike, after_alike}
use Rattle.laws_view.proofs.Lists.{lookup_other, lookup_same}
use Rattle.laws_view.proofs.Units.{late_more, late_with, units_more, units_with}
use Rattle.laws_view.proofs.Entries.{Agree, BeginsWith, begun_agrees, begun_keeps, begun_or_before, entry_with, taken_agrees, taken_before, taken_entry}

-- A packet that counts, or none

unfoldable pub after_sound : ViewState → Option PacketView → ViewState
after_sound s None = without s
after_sound s (Some packet) = with_packet s packet

-- The continuity_counter of a packet changes only the counters and the errors.
abbrev pub counter_seen : SeenState → List ℕ → Result PacketView PacketError → SeenState
counter_seen s bytes r = record s { counters = (with_counter_read s bytes r).counters; errors = (with_counter_read s bytes r).errors }

counter_is : (s : SeenState) (bytes : List ℕ) (r : Result PacketView PacketError) → with_counter_read s bytes r ≡ counter_seen s bytes r
unfolding with_counter_read
counter_is s bytes (Err error) = refl
counter_is s bytes (Ok packet) = elim (cases_Bool packet.header.transport_error_indicator) [ inl y ↦ rw y refl | inr n ↦ rw n refl ]

-- The sections, the counter and the names of a packet change no stream that has begun.
abbrev pub finished : ViewState → List ℕ → ViewState
finished s bytes = with_named (record { seen = counter_seen (with_tables s bytes).seen bytes (packet_at bytes); table = s.table }) bytes

finished_is : (s : ViewState) (bytes : List ℕ) → with_named (with_sections s bytes) bytes ≡ finished s bytes
finished_is s bytes =
    ap (λ (x : SeenState). with_named (record { seen = x; table = s.table }) bytes) (counter_is (with_tables s bytes).seen bytes (packet_at bytes))

read_is : (s : ViewState) (r : Result PacketView PacketError) → after_read s r ≡ after_sound s (sound_packet r)
unfolding after_read sound_packet after_sound
read_is s (Err error) = refl
read_is s (Ok packet) = by packet.header.transport_error_indicator
  where
    by : (b : Bool) → (if b then without s else with_packet s packet) ≡ after_sound s (if b then None else Some packet)
    by true = refl
    by false = refl

pub packet_is : (s : ViewState) (bytes : List ℕ) → after_packet s bytes ≡ finished (after_sound s (sound_packet (packet_at bytes))) bytes
packet_is s bytes =
    finished_is (after_read s (packet_at bytes)) bytes ∙ ap (λ (x : ViewState). finished x bytes) (read_is s (packet_at bytes))

-- What a view knows of a stream

abbrev pub followed : ViewState → EntryState → Followed
followed s e = record { options = s.seen.options; pid = e.pid; clock_pid = e.clock_pid; rx = e.held.rx }

abbrev pub known : ViewState → EntryState → Before
known s e = record { index = s.seen.packets; clock = clock_of s.seen.clocks e.clock_pid; last = e.last }

clock_more : (options : ViewOptions) (pid index : ℕ) (packet : PacketView) (clocks : ClockEntries) (o : Option PcrSample) →
    clock_of (with_sample clocks packet.header.pid o) pid ≡ (if nat_eq pid packet.header.pid then option_or o (clock_of clocks pid) else clock_of clocks pid)
unfolding with_sample
clock_more options pid index packet clocks None = by (nat_eq pid packet.header.pid)
  where
    by : (b : Bool) → clock_of clocks pid ≡ (if b then clock_of clocks pid else clock_of clocks pid)
    by true = refl
    by false = refl
clock_more options pid index packet clocks (Some sample) = elim (eqb_tells pid packet.header.pid) [
  | inl same ↦ rw same.0
      (ap (λ (q : ℕ). lookup (nat_eq q) (with_sample clocks packet.header.pid (Some sample))) same.1 ∙ lookup_same clocks packet.header.pid sample)
  | inr other ↦ rw other.0 (lookup_other clocks packet.header.pid pid sample (λ e. other.1 (sym e)))
]

pub clock_known : (options : ViewOptions) (pid index : ℕ) (packet : PacketView) (clocks : ClockEntries) →
    clock_of (clocks_after clocks options.arrival index packet) pid ≡ clock_with options pid index packet (clock_of clocks pid)
clock_known options pid index packet clocks = clock_more options pid index packet clocks (reference_in options index packet)

-- The counts of a stream

in_window_excesses : (t : Tally) (window : ℕ) → (in_window t window).excesses ≡ t.excesses
in_window_excesses t window = by (t.window == window)
  where
    by : (b : Bool) →
        (if b then t else record t {
          window = window;
          window_transport = 0;
          window_main = 0;
          window_least = None;
          window_units = 0;
          window_late = 0;
          slack =
              2 ^ 128 - 1;
        }).excesses ≡ t.excesses
    by true = refl
    by false = refl

pub unit_excesses : (t : Tally) (window : ℕ) (unit : Option UnitSeen) → (with_unit_if t window unit).excesses ≡ t.excesses
unfolding with_unit_if
unit_excesses t window None = refl
unit_excesses t window (Some u) = in_window_excesses t window

tally_excesses : (t : Tally) (window : ℕ) (unread : Bool) (v : EnteredView) → (tally_after t window unread v).excesses ≡ more t.excesses (length v.transport)
tally_excesses t window unread v = unit_excesses _ window v.unit ∙ ap (λ (n : ℕ). more n (length v.transport)) (in_window_excesses t window)

in_window_units : (t : Tally) (window : ℕ) → ((in_window t window).units ≡ t.units) × ((in_window t window).late ≡ t.late)
in_window_units t window = by (t.window == window)
  where
    other : Tally
    other = record t { window = window; window_transport = 0; window_main = 0; window_least = None; window_units = 0; window_late = 0; slack = 2 ^ 128 - 1 }

    by : (b : Bool) → ((if b then t else other).units ≡ t.units) × ((if b then t else other).late ≡ t.late)
    by true = (refl, refl)
    by false = (refl, refl)

pub unit_units : (t : Tally) (window : ℕ) (unit : Option UnitSeen) →
    ((with_unit_if t window unit).units ≡ units_with t.units unit) × ((with_unit_if t window unit).late ≡ late_with t.late unit)
unfolding with_unit_if units_with late_with
unit_units t window None = (refl, refl)
unit_units t window (Some u) =
    (ap (λ (n : ℕ). more n 1) (in_window_units t window).0, ap (λ (n : ℕ). more n (if is_late u then 1 else 0)) (in_window_units t window).1)

tally_units : (t : Tally) (window : ℕ) (unread : Bool) (v : EnteredView) →
    ((tally_after t window unread v).units ≡ units_with t.units v.unit) × ((tally_after t window unread v).late ≡ late_with t.late v.unit)
tally_units t window unread v =
    let both = unit_units (with_excesses (with_tallied t window v) (length v.transport) (length v.main) unread) window v.unit in
    let old = in_window_units t window in
    (both.0 ∙ ap (λ (n : ℕ). units_with n v.unit) old.0, both.1 ∙ ap (λ (n : ℕ). late_with n v.unit) old.1)

-- The number of ended excesses after these packets, if there were n before
unfoldable pub excesses_more : ℕ → List EnteredView → ℕ
excesses_more n [] = n
excesses_more n (v ∷ vs) = excesses_more (more n (length v.transport)) vs

-- An entry with one more packet

pub record Steps (s : ViewState) (o : Option PacketView) (s' : ViewState) (e e' : EntryState) : Type 0 where
  pub same_stream : followed s' e' ≡ followed s e
  pub then_known : known s' e' ≡ known_after (followed s e) (known s e) o
  pub size : e'.held.main.size ≡ e.held.main.size
  pub held : e'.held ≡ after_each e.held s.seen.options.arrival (seen_in (followed s e) (known s e) o)
  pub excesses : e'.tally.excesses ≡ excesses_more e.tally.excesses (entered_each e.held s.seen.options.arrival (seen_in (followed s e) (known s e) o))
  pub units : e'.tally.units ≡ units_more e.tally.units (entered_each e.held s.seen.options.arrival (seen_in (followed s e) (known s e) o))
  pub late : e'.tally.late ≡ late_more e.tally.late (entered_each e.held s.seen.options.arrival (seen_in (followed s e) (known s e) o))

-- Sections and names do not change such a step.
pub finished_steps : (s s' : ViewState) (o : Option PacketView) (bytes : List ℕ) (e e' : EntryState) → Steps s o s' e e' → Steps s o (finished s' bytes) e e'
finished_steps s s' o bytes e e' k =
    record { same_stream = k.same_stream; then_known = k.then_known; size = k.size; held = k.held; excesses = k.excesses; units = k.units; late = k.late }

-- What a packet leaves of an entry, once the view has counted the packet
packet_steps : (s s' : ViewState) (packet : PacketView) (window : ℕ) (e : EntryState) → s'.seen.options ≡ s.seen.options →
    s'.seen.packets ≡ s.seen.packets + 1 →
    s'.seen.clocks ≡ clocks_after s.seen.clocks s.seen.options.arrival s.seen.packets packet →
    Steps s (Some packet) s' e
    (entry_with s.seen.options s.seen.packets window (clocks_after s.seen.clocks s.seen.options.arrival s.seen.packets packet) e packet)
unfolding seen_in known_after after_each entered_each excesses_more units_more late_more
packet_steps s s' packet window e options packets clocks = by (nat_eq e.pid packet.header.pid) refl
  where
    now : ClockEntries
    now = clocks_after s.seen.clocks s.seen.options.arrival s.seen.packets packet

    p : Arriving
    p = arriving s.seen.options s.seen.packets e.held.rx e.last (clock_of now e.clock_pid) packet

    taken : EntryState
    taken = entry_taken s.seen.options s.seen.packets window now packet e

    is : clock_of now e.clock_pid ≡ clock_with s.seen.options e.clock_pid s.seen.packets packet (clock_of s.seen.clocks e.clock_pid)
    is = clock_known s.seen.options e.clock_pid s.seen.packets packet s.seen.clocks

    alike : Alike e.held (after e.held s.seen.options.arrival p)
    alike = after_alike e.held s.seen.options.arrival p

    by : (b : Bool) → nat_eq e.pid packet.header.pid ≡ b → Steps s (Some packet) s' e (entry_with s.seen.options s.seen.packets window now e packet)
    by true h = record {
      same_stream = rw (h, options, alike.rx) refl;
      then_known = rw (h, packets, clocks, is) refl;
      size = rw h alike.size;
      held = rw (h, is) refl;
      excesses = rw h (rw (sym is) (tally_excesses e.tally window (is_unread (beginning_in e.last packet)) (entered e.held s.seen.options.arrival p)));
      units = rw h (rw (sym is) (tally_units e.tally window (is_unread (beginning_in e.last packet)) (entered e.held s.seen.options.arrival p)).0);
      late = rw h (rw (sym is) (tally_units e.tally window (is_unread (beginning_in e.last packet)) (entered e.held s.seen.options.arrival p)).1);
    }
    by false h = record {
      same_stream = rw (h, options) refl;
      then_known = rw (h, packets, clocks, is) refl;
      size = rw h refl;
      held = rw h refl;
      excesses = rw h refl;
      units = rw h refl;
      late = rw h refl;
    }

-- The streams that have begun, with a packet that counts or without one
one_more_is : (n : ℕ) → n + 1 < 2 ^ 64 → one_more n ≡ n + 1
one_more_is n few = omega (arith, few)

pub sound_agrees : (s : ViewState) (o : Option PacketView) → Agree s.table → Agree (after_sound s o).table
unfolding after_sound
sound_agrees s None agree = agree
sound_agrees s (Some packet) agree =
    let c : ViewState = clocked s packet in
    taken_agrees c.seen.options c.seen.packets (next_window c.seen) c.seen.clocks (with_begun c packet) packet
    (begun_agrees c.seen.options c.seen.named c.table packet agree)

-- The entry at a place after a packet that counts, if its buffers have begun by then
begun_steps : (s : ViewState) (packet : PacketView) (j : ℕ) (e : EntryState) → Agree s.table → s.seen.packets + 1 < 2 ^ 64 →
    slice_get (with_begun (clocked s packet) packet).entries j ≡ Some e →
    (e' : EntryState) × ((slice_get (with_packet s packet).table.entries j ≡ Some e') × Steps s (Some packet) (with_packet s packet) e e')
begun_steps s packet j e agree few there =
    let c : ViewState = clocked s packet in
    let began = begun_agrees c.seen.options c.seen.named c.table packet agree in (
      entry_with c.seen.options c.seen.packets (next_window c.seen) c.seen.clocks e packet,
      (
        taken_entry c.seen.options c.seen.packets (next_window c.seen) c.seen.clocks (with_begun c packet) packet j e began there,
        packet_steps s (with_packet s packet) packet (next_window c.seen) e refl (one_more_is s.seen.packets few) refl,
      ),
    )

pub sound_steps : (s : ViewState) (o : Option PacketView) (j : ℕ) (e : EntryState) → Agree s.table → s.seen.packets + 1 < 2 ^ 64 →
    slice_get s.table.entries j ≡ Some e →
    (e' : EntryState) × ((slice_get (after_sound s o).table.entries j ≡ Some e') × Steps s o (after_sound s o) e e')
unfolding after_sound
sound_steps s None j e agree few there = (
  e,
  (
    there,
    record {
      same_stream = refl;
      then_known = unfold known_after in (rw (one_more_is s.seen.packets few) refl);
      size = refl;
      held = unfold seen_in after_each in refl;
      excesses = unfold seen_in entered_each excesses_more in refl;
      units = unfold seen_in entered_each units_more in refl;
      late = unfold seen_in entered_each late_more in refl;
    },
  ),
)
sound_steps s (Some packet) j e agree few there =
    let c : ViewState = clocked s packet in
    begun_steps s packet j e agree few (begun_keeps c.seen.options c.seen.named c.table packet j e there)

-- Each entry after a packet was there before, or begins with the packet.
pub record Begins (s : ViewState) (o : Option PacketView) (j : ℕ) (e' : EntryState) : Type 0 where
  pub packet : PacketView
  pub sound : o ≡ Some packet
  pub first : EntryState
  pub begins : BeginsWith s.seen.options s.seen.named s.table packet first
  pub steps : Steps s (Some packet) (after_sound s o) first e'

pub sound_before : (s : ViewState) (o : Option PacketView) (j : ℕ) (e' : EntryState) → Agree s.table → s.seen.packets + 1 < 2 ^ 64 →
    slice_get (after_sound s o).table.entries j ≡ Some e' → ((e : EntryState) × (slice_get s.table.entries j ≡ Some e)) ⊎ Begins s o j e'
unfolding after_sound
sound_before s None j e' agree few there = inl (e', there)
sound_before s (Some packet) j e' agree few there =
    let c : ViewState = clocked s packet in
    let began = begun_agrees c.seen.options c.seen.named c.table packet agree in
    let back = taken_before c.seen.options c.seen.packets (next_window c.seen) c.seen.clocks (with_begun c packet) packet j e' began there in
    elim (begun_or_before c.seen.options c.seen.named c.table packet j back.0 back.1.0) [
      | inl old ↦ inl (back.0, old)
      | inr begins ↦ inr (record {
        packet = packet;
        sound = refl;
        first = back.0;
        begins = begins;
        steps = subst (λ (x : EntryState). Steps s (Some packet) (with_packet s packet) back.0 x) (sym back.1.1)
            (packet_steps s (with_packet s packet) packet (next_window c.seen) back.0 refl (one_more_is s.seen.packets few) refl);
      })
    ]

-- The state of a view after each packet

-- A packet leaves the options of a view, and its number of packets grows by one.
pub sound_options : (s : ViewState) (o : Option PacketView) → (after_sound s o).seen.options ≡ s.seen.options
unfolding after_sound
sound_options s None = refl
sound_options s (Some packet) = refl

pub sound_packets : (s : ViewState) (o : Option PacketView) → s.seen.packets + 1 < 2 ^ 64 → (after_sound s o).seen.packets ≡ s.seen.packets + 1
unfolding after_sound
sound_packets s None few = omega (arith, few)
sound_packets s (Some packet) few = omega (arith, few)

abbrev pub next : ViewState → List ℕ → ViewState
next s bytes = finished (after_sound s (sound_packet (packet_at bytes))) bytes
