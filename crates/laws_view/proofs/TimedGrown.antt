-- Streams whose buffers have begun, over many packets, each with its own arrival
use Rattle.std.proofs.Common.{◌≡◌, ◌∙◌, sym, ℕ, ◌+◌, ◌^◌, ◌<◌, ◌⊎◌, List, [], ◌∷◌, ◌++◌, length, Option, Some, refl, ap, subst, inl, inr, arith}
use Rattle.std.specs.Prelude.{slice_get}
use Rattle.ts_packet.specs.Views.{PacketView}
use Rattle.ts_packet.specs.Reading.{packet_at}
use Rattle.arrival.specs.declared.arrival.Arrival.{Arrival}
use Rattle.laws_view.specs.TimedPackets.{Timed}
use Rattle.tstd_rows.specs.Held.{Held}
use Rattle.tstd_rows.specs.Entering.{after, entered}
use Rattle.tstd_rows.specs.declared.arriving.Arriving.{Arriving}
use Rattle.es_view.specs.Entries.{EntryState}
use Rattle.es_events.specs.Tallies.{more}
use Rattle.ts_report.specs.Views.{ViewState}
use Rattle.ts_report.specs.Views as views
use Rattle.laws_view.specs.StreamPackets.{Before, Followed, after_each, entered_each, known_after, seen_in, sound_packet}
use Rattle.laws_view.specs.TimedStreams.{Entering, after_entering, followed_so, entered_by, entering, entering_among, view_by}
use Rattle.laws_view.proofs.Lists.{some_is}
use Rattle.laws_view.proofs.Units.{late_more, late_with, units_more, units_with}
use Rattle.laws_view.proofs.Entries.{Agree, BeginsWith}
use Rattle.laws_view.proofs.Steps.{Begins, Steps, after_sound, excesses_more, finished_steps, followed, known, next, packet_is, sound_agrees, sound_before}
use Rattle.laws_view.proofs.Steps.{sound_packets, sound_steps}

-- Packets with one arrival, and then other packets

each_then : (h : Held) (arrival : Arrival) (ps : List Arriving) (xs : List Entering) →
    after_entering h (entering arrival ps ++ xs) ≡ after_entering (after_each h arrival ps) xs
unfolding after_entering after_each
each_then h arrival [] xs = refl
each_then h arrival (p ∷ ps) xs = each_then (after h arrival p) arrival ps xs

excesses_then : (h : Held) (n : ℕ) (arrival : Arrival) (ps : List Arriving) (xs : List Entering) →
    excesses_more n (entered_by h (entering arrival ps ++ xs)) ≡ excesses_more (excesses_more n (entered_each h arrival ps))
    (entered_by (after_each h arrival ps) xs)
unfolding entered_by entered_each after_each excesses_more
excesses_then h n arrival [] xs = refl
excesses_then h n arrival (p ∷ ps) xs = excesses_then (after h arrival p) (more n (length (entered h arrival p).transport)) arrival ps xs

units_then : (h : Held) (n : ℕ) (arrival : Arrival) (ps : List Arriving) (xs : List Entering) →
    units_more n (entered_by h (entering arrival ps ++ xs)) ≡ units_more (units_more n (entered_each h arrival ps)) (entered_by (after_each h arrival ps) xs)
unfolding entered_by entered_each after_each units_more
units_then h n arrival [] xs = refl
units_then h n arrival (p ∷ ps) xs = units_then (after h arrival p) (units_with n (entered h arrival p).unit) arrival ps xs

late_then : (h : Held) (n : ℕ) (arrival : Arrival) (ps : List Arriving) (xs : List Entering) →
    late_more n (entered_by h (entering arrival ps ++ xs)) ≡ late_more (late_more n (entered_each h arrival ps)) (entered_by (after_each h arrival ps) xs)
unfolding entered_by entered_each after_each late_more
late_then h n arrival [] xs = refl
late_then h n arrival (p ∷ ps) xs = late_then (after h arrival p) (late_with n (entered h arrival p).unit) arrival ps xs

-- An entry after packets, from a known state on

pub record GrownBy (f : Followed) (b : Before) (packets : List Timed) (e e' : EntryState) : Type 0 where
  pub pid : e'.pid ≡ e.pid
  pub clock_pid : e'.clock_pid ≡ e.clock_pid
  pub rx : e'.held.rx ≡ e.held.rx
  pub size : e'.held.main.size ≡ e.held.main.size
  pub held : e'.held ≡ after_entering e.held (entering_among f b packets)
  pub excesses : e'.tally.excesses ≡ excesses_more e.tally.excesses (entered_by e.held (entering_among f b packets))
  pub units : e'.tally.units ≡ units_more e.tally.units (entered_by e.held (entering_among f b packets))
  pub late : e'.tally.late ≡ late_more e.tally.late (entered_by e.held (entering_among f b packets))

-- The view, if the next packet and the packets after it have this arrival
abbrev pub ready : ViewState → Arrival → ViewState
ready s arrival = views.arriving s arrival 1

abbrev pub next_by : ViewState → Timed → ViewState
next_by s p = next (ready s p.arrival) p.bytes

pub came_is : (s : ViewState) (p : Timed) → views.after_packet (ready s p.arrival) p.bytes ≡ next_by s p
came_is s p = packet_is (ready s p.arrival) p.bytes

-- One more packet at the front
grown_more_by : (s s' : ViewState) (p : Timed) (packets : List Timed) (e e1 e' : EntryState) →
    Steps (ready s p.arrival) (sound_packet (packet_at p.bytes)) s' e e1 → GrownBy (followed s' e1) (known s' e1) packets e1 e' →
    GrownBy (followed s e) (known s e) (p ∷ packets) e e'
unfolding entering_among
grown_more_by s s' p packets e e1 e' step rest =
    let a : Arrival = p.arrival in
    let f : Followed = followed_so (followed s e) a in
    let b : Before = known s e in
    let o = sound_packet (packet_at p.bytes) in
    let ps : List Arriving = seen_in f b o in
    let xs : List Entering = entering_among f (known_after f b o) packets in
    let same : entering_among (followed s' e1) (known s' e1) packets ≡ xs = rw (step.same_stream, step.then_known) refl in
    record {
      pid = rest.pid ∙ ap (λ (x : Followed). x.pid) step.same_stream;
      clock_pid = rest.clock_pid ∙ ap (λ (x : Followed). x.clock_pid) step.same_stream;
      rx = rest.rx ∙ ap (λ (x : Followed). x.rx) step.same_stream;
      size = rest.size ∙ step.size;
      held = rest.held ∙ rw (same, step.held) (sym (each_then e.held a ps xs));
      excesses = rest.excesses ∙ rw (same, step.excesses, step.held) (sym (excesses_then e.held e.tally.excesses a ps xs));
      units = rest.units ∙ rw (same, step.units, step.held) (sym (units_then e.held e.tally.units a ps xs));
      late = rest.late ∙ rw (same, step.late, step.held) (sym (late_then e.held e.tally.late a ps xs));
    }

none_more_by : (f : Followed) (b : Before) (e : EntryState) → GrownBy f b [] e e
unfolding entering_among
none_more_by f b e = record {
  pid = refl;
  clock_pid = refl;
  rx = refl;
  size = refl;
  held = unfold after_entering in refl;
  excesses = unfold entered_by excesses_more in refl;
  units = unfold entered_by units_more in refl;
  late = unfold entered_by late_more in refl;
}

abbrev pub GrownTo : ViewState → List Timed → ℕ → EntryState → Followed → Before → List Timed → Type 0
GrownTo s' later j e f b packets = (e' : EntryState) × ((slice_get (view_by s' later).table.entries j ≡ Some e') × GrownBy f b packets e e')

pub grown_by : (s : ViewState) (packets : List Timed) (j : ℕ) (e : EntryState) → Agree s.table → s.seen.packets + length packets < 2 ^ 64 →
    slice_get s.table.entries j ≡ Some e →
    GrownTo s packets j e (followed s e) (known s e) packets
unfolding view_by
grown_by s [] j e agree few there = (e, (there, none_more_by (followed s e) (known s e) e))
grown_by s (p ∷ packets) j e agree few there =
    let r : ViewState = ready s p.arrival in
    let o = sound_packet (packet_at p.bytes) in
    let one : r.seen.packets + 1 < 2 ^ 64 = omega (arith, few) in
    let step = sound_steps r o j e agree one there in
    let count = sound_packets r o one in
    let rest = grown_by (next_by s p) packets j step.0 (sound_agrees r o agree) (omega (arith, few, count)) step.1.0 in
    subst (λ (x : ViewState). GrownTo x packets j e (followed s e) (known s e) (p ∷ packets)) (sym (came_is s p))
    (rest.0, (rest.1.0, grown_more_by s (next_by s p) p packets e step.0 rest.0 (finished_steps r (after_sound r o) o p.bytes e step.0 step.1.1) rest.1.1))

-- A stream that begins

pub record BeganBy (s : ViewState) (packets : List Timed) (e' : EntryState) : Type 0 where
  pub before : List Timed
  pub p : Timed
  pub later : List Timed
  pub split : packets ≡ before ++ p ∷ later
  pub packet : PacketView
  pub sound : sound_packet (packet_at p.bytes) ≡ Some packet
  pub first : EntryState
  pub begins : BeginsWith (ready (view_by s before) p.arrival).seen.options (view_by s before).seen.named (view_by s before).table packet first
  pub grown : GrownBy (followed (view_by s before) first) (known (view_by s before) first) (p ∷ later) first e'

came_after_by : (s : ViewState) (p : Timed) (packets : List Timed) (e' : EntryState) → BeganBy (next_by s p) packets e' → BeganBy s (p ∷ packets) e'
unfolding view_by
came_after_by s p packets e' b = record {
  before = p ∷ b.before;
  p = b.p;
  later = b.later;
  split = ap (λ (l : List Timed). p ∷ l) b.split;
  packet = b.packet;
  sound = b.sound;
  first = b.first;
  begins = subst
      (λ (x : ViewState). BeginsWith (ready (view_by x b.before) b.p.arrival).seen.options (view_by x b.before).seen.named (view_by x b.before).table b.packet
      b.first)
      (sym (came_is s p)) b.begins;
  grown = subst (λ (x : ViewState). GrownBy (followed (view_by x b.before) b.first) (known (view_by x b.before) b.first) (b.p ∷ b.later) b.first e')
      (sym (came_is s p)) b.grown;
}

came_now_by : (s : ViewState) (p : Timed) (packets : List Timed) (j : ℕ) (e1 e' : EntryState) → Agree s.table → s.seen.packets + length (p ∷ packets) < 2 ^ 64 →
    Begins (ready s p.arrival) (sound_packet (packet_at p.bytes)) j e1 → slice_get (next_by s p).table.entries j ≡ Some e1 →
    slice_get (view_by (next_by s p) packets).table.entries j ≡ Some e' → BeganBy s (p ∷ packets) e'
unfolding view_by
came_now_by s p packets j e1 e' agree few b there later =
    let r : ViewState = ready s p.arrival in
    let o = sound_packet (packet_at p.bytes) in
    let one : r.seen.packets + 1 < 2 ^ 64 = omega (arith, few) in
    let count = sound_packets r o one in
    let rest = grown_by (next_by s p) packets j e1 (sound_agrees r o agree) (omega (arith, few, count)) there in
    let same : rest.0 ≡ e' = some_is rest.0 e' (sym rest.1.0 ∙ later) in
    let step : Steps r o (next_by s p) b.first e1 =
    finished_steps r (after_sound r o) o p.bytes b.first e1 (subst (λ (q : Option PacketView). Steps r q (after_sound r o) b.first e1) (sym b.sound) b.steps) in
    record {
      before = [];
      p = p;
      later = packets;
      split = refl;
      packet = b.packet;
      sound = b.sound;
      first = b.first;
      begins = b.begins;
      grown = subst (λ (x : EntryState). GrownBy (followed s b.first) (known s b.first) (p ∷ packets) b.first x) same
          (grown_more_by s (next_by s p) p packets b.first e1 rest.0 step rest.1.1);
    }

pub came_by : (s : ViewState) (packets : List Timed) (j : ℕ) (e' : EntryState) → Agree s.table → s.seen.packets + length packets < 2 ^ 64 →
    slice_get (view_by s packets).table.entries j ≡ Some e' → ((e : EntryState) × (slice_get s.table.entries j ≡ Some e)) ⊎ BeganBy s packets e'
unfolding view_by
came_by s [] j e' agree few there = inl (e', there)
came_by s (p ∷ packets) j e' agree few there =
    let r : ViewState = ready s p.arrival in
    let o = sound_packet (packet_at p.bytes) in
    let one : r.seen.packets + 1 < 2 ^ 64 = omega (arith, few) in
    let count = sound_packets r o one in
    let agree' = sound_agrees r o agree in
    let there' : slice_get (view_by (next_by s p) packets).table.entries j ≡ Some e' =
    subst (λ (x : ViewState). slice_get (view_by x packets).table.entries j ≡ Some e') (came_is s p) there in
    elim (came_by (next_by s p) packets j e' agree' (omega (arith, few, count)) there') [
      | inl e1 ↦ elim (sound_before r o j e1.0 agree one e1.1) [
        | inl old ↦ inl old
        | inr begins ↦ inr (came_now_by s p packets j e1.0 e' agree few begins e1.1 there')
      ]
      | inr began ↦ inr (came_after_by s p packets e' began)
    ]
