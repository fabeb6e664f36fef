-- The streams of a view by access units, over the packets of a run: what their buffers hold by access units and by PES packets
use Rattle.std.proofs.Common.{◌≡◌, ◌∙◌, sym, ℕ, suc, ◌+◌, ◌≤◌, ◌<◌, ◌^◌, Bool, true, false, List, [], ◌∷◌, length, Option, Some, None, if◌then◌else◌, refl}
use Rattle.std.proofs.Common.{ap, subst, inl, inr, nat_eq, arith, All}
use Rattle.std.specs.Prelude.{slice_get, unwrap_or}
use Rattle.std.proofs.lemmas.List.Elements.{All-head, All-tail}
use Rattle.ts_packet.specs.Views.{PacketView}
use Rattle.ts_packet.specs.Reading.{packet_at}
use Rattle.sound_frames.specs.declared.frame_headers.FrameKind.{FrameKind}
use Rattle.sound_frames.specs.FrameWalks.{no_walk}
use Rattle.arrival.specs.Arrivals.{step_of}
use Rattle.arrival.specs.declared.arrival.Arrival.TheVariants.{AtRate}
use Rattle.arrival.specs.declared.clock.PcrSample.{PcrSample}
use Rattle.tstd_rows.specs.History.{arrivals_of}
use Rattle.tstd_rows.specs.Held.{Held, empty}
use Rattle.tstd_rows.specs.Entering.{after}
use Rattle.es_events.specs.declared.view_options.ViewOptions.{ViewOptions}
use Rattle.es_events.specs.Clocks.{ClockEntries, clock_of}
use Rattle.es_view.specs.Entries.{EntryState, Framed, arriving_at, framed_after, framed_with}
use Rattle.es_events.specs.Tallies.{none_counted}
use Rattle.ts_watch.specs.Choices.{RequestView}
use Rattle.ts_report.specs.Seen.{next_window}
use Rattle.ts_report.specs.StreamTables.{entry_taken, new_framed, stream_buffers, stream_frames}
use Rattle.ts_report.specs.Views.{ViewState, after_all, clocked, start, with_begun}
use Rattle.laws_view.specs.StreamPackets.{most_packets, sound_packet}
use Rattle.laws_view.proofs.CalmFrames.{Calm, calm_packet}
use Rattle.laws_view.proofs.Entries.{Agree, begun_agrees, begun_or_before, entry_begun, entry_with, taken_before}
use Rattle.laws_view.proofs.FramedPackets.{Together}
use Rattle.laws_view.proofs.FramedPayloads.{entry_together}
use Rattle.laws_view.proofs.ShortPayloads.{sound_most}
use Rattle.laws_view.proofs.Steps.{after_sound, next, packet_is, sound_agrees, sound_options, sound_packets}
use Rattle.laws_view.proofs.Whole.{none_agree}

-- At most n packets have come: both views of the stream have the same bytes, and no excess is counted while bytes find room.
pub record Fits (rate n : ℕ) (h : Held) (f : Framed) : Type 0 where
  pub together : Together rate n h f.held
  pub calm : Calm f.held f.tally

fits_later : (rate n m : ℕ) (h : Held) (f : Framed) → n ≤ m → Fits rate n h f → Fits rate m h f
fits_later rate n m h f le k = record {
  together = record { alike = k.together.alike; arrivals = k.together.arrivals; few = omega (arith, k.together.few, le); left = k.together.left };
  calm = k.calm;
}

-- Before the first packet of the stream both views fit.
new_fits : (rate n step rx size : ℕ) (kind : Option FrameKind) (f : Framed) → new_framed (empty step rx size) kind ≡ Some f → Fits rate n (empty step rx size) f
unfolding new_framed
new_fits rate n step rx size None f is = absurd (let no : ⊥ = cc in no)
new_fits rate n step rx size (Some kind) f is =
    let g : Framed = record { walk = no_walk kind; tick = 0; held = empty step rx size; tally = none_counted } in
    let same : g ≡ f = cc in
    subst (λ (x : Framed). Fits rate n (empty step rx size) x) same
    (record {
      together = record {
        alike = record { rate = refl; rx = refl; size = refl };
        arrivals = refl;
        few = unfold arrivals_of in (omega arith);
        left = refl;
      };
      calm = record { none = λ few. refl; quiet = λ few. refl };
    })

-- A packet of the stream keeps `Fits`.
framed_fits : (options : ViewOptions) (rate n index window : ℕ) (clock : Option PcrSample) (packet : PacketView) (e : EntryState) (o : Option Framed)
    (f : Framed) → options.arrival ≡ AtRate rate →
    n ≤ index → index < most_packets → length (unwrap_or packet.payload []) ≤ 184 → ((g : Framed) → o ≡ Some g → Fits rate n e.held g) →
    framed_after options index window clock e.limit e.last e.delayed packet o ≡ Some f →
    Fits rate (suc index) (after e.held options.arrival (arriving_at options index clock e packet)) f
unfolding framed_after
framed_fits options rate n index window clock packet e None f is first early small fits found = absurd (let no : ⊥ = cc in no)
framed_fits options rate n index window clock packet e (Some g) f is first early small fits found =
    let same : framed_with options index window clock e.limit e.last e.delayed packet g ≡ f = cc in
    let k = fits g refl in
    subst (λ (x : Framed). Fits rate (suc index) (after e.held options.arrival (arriving_at options index clock e packet)) x) same
    (record {
      together = entry_together options rate n index window clock e.limit e.last e.delayed packet e.held g is k.together first early small;
      calm = calm_packet options index window clock e.limit e.last e.delayed packet g k.calm;
    })

taken_fits : (options : ViewOptions) (rate n index window : ℕ) (clocks : ClockEntries) (packet : PacketView) (e : EntryState) (f : Framed) →
    options.arrival ≡ AtRate rate → n ≤ index →
    index < most_packets → length (unwrap_or packet.payload []) ≤ 184 → ((g : Framed) → e.framed ≡ Some g → Fits rate n e.held g) →
    (entry_taken options index window clocks packet e).framed ≡ Some f → Fits rate (suc index) (entry_taken options index window clocks packet e).held f
taken_fits options rate n index window clocks packet e f is first early small fits there =
    framed_fits options rate n index window (clock_of clocks e.clock_pid) packet e e.framed f is first early small fits there

-- A packet of any PID keeps `Fits`.
with_fits : (options : ViewOptions) (rate n index window : ℕ) (clocks : ClockEntries) (packet : PacketView) (e e' : EntryState) (f : Framed) →
    options.arrival ≡ AtRate rate → n ≤ index →
    index < most_packets → length (unwrap_or packet.payload []) ≤ 184 → ((g : Framed) → e.framed ≡ Some g → Fits rate n e.held g) →
    e' ≡ entry_with options index window clocks e packet → e'.framed ≡ Some f → Fits rate (suc index) e'.held f
with_fits options rate n index window clocks packet e e' f is first early small fits with there =
    by (nat_eq e.pid packet.header.pid) e' with there
  where
    by : (b : Bool) (x : EntryState) → x ≡ (if b then entry_taken options index window clocks packet e else e) → x.framed ≡ Some f →
        Fits rate (suc index) x.held f
    by true x same found =
        subst (λ (y : EntryState). Fits rate (suc index) y.held f) (sym same)
        (taken_fits options rate n index window clocks packet e f is first early small fits (ap (λ (y : EntryState). y.framed) (sym same) ∙ found))
    by false x same found =
        subst (λ (y : EntryState). Fits rate (suc index) y.held f) (sym same)
        (fits_later rate n (suc index) e.held f (omega (arith, first)) (fits f (ap (λ (y : EntryState). y.framed) (sym same) ∙ found)))

-- All streams of a view

pub record AllFit (rate n : ℕ) (s : ViewState) : Type 0 where
  pub each : (j : ℕ) (e : EntryState) (f : Framed) → slice_get s.table.entries j ≡ Some e → e.framed ≡ Some f → Fits rate n e.held f

begun_fit : (s : ViewState) (rate : ℕ) (packet : PacketView) (j : ℕ) (e : EntryState) (f : Framed) → AllFit rate s.seen.packets s →
    slice_get (with_begun (clocked s packet) packet).entries j ≡ Some e → e.framed ≡ Some f → Fits rate s.seen.packets e.held f
begun_fit s rate packet j e f all there framed =
    let c : ViewState = clocked s packet in
    elim (begun_or_before c.seen.options c.seen.named c.table packet j e there) [
      | inl old ↦ all.each j e f old framed
      | inr new ↦
          let first : EntryState = entry_begun c.seen.options c.seen.named c.table packet new.stream in
          let is : e ≡ first = new.is in
          subst (λ (x : EntryState). Fits rate s.seen.packets x.held f) (sym is)
          (new_fits rate s.seen.packets (step_of c.seen.options.arrival) (stream_buffers c.table new.stream packet).rx
          (stream_buffers c.table new.stream packet).main
          (stream_frames c.table new.stream packet) f (ap (λ (x : EntryState). x.framed) (sym is) ∙ framed))
    ]

sound_fit : (s : ViewState) (rate : ℕ) (bytes : List ℕ) (o : Option PacketView) → sound_packet (packet_at bytes) ≡ o → length bytes ≡ 188 → Agree s.table →
    s.seen.options.arrival ≡ AtRate rate → s.seen.packets < most_packets → AllFit rate s.seen.packets s → AllFit rate (suc s.seen.packets) (after_sound s o)
unfolding after_sound
sound_fit s rate bytes None sound size agree is early all =
    record { each = λ j e f there framed. fits_later rate s.seen.packets (suc s.seen.packets) e.held f (omega arith) (all.each j e f there framed) }
sound_fit s rate bytes (Some packet) sound size agree is early all = record {
  each = λ j e f there framed.
      let c : ViewState = clocked s packet in
      let began = begun_agrees c.seen.options c.seen.named c.table packet agree in
      let back = taken_before c.seen.options c.seen.packets (next_window c.seen) c.seen.clocks (with_begun c packet) packet j e began there in
      with_fits c.seen.options rate s.seen.packets c.seen.packets (next_window c.seen) c.seen.clocks packet back.0 e f is (omega arith) early
      (sound_most bytes packet size sound)
      (λ g known. begun_fit s rate packet j back.0 g all back.1.0 known) back.1.1 framed;
}

pub all_fit : (s : ViewState) (rate : ℕ) (packets : List (List ℕ)) → Agree s.table → s.seen.options.arrival ≡ AtRate rate →
    s.seen.packets + length packets ≤ most_packets →
    All (λ bytes. length bytes ≡ 188) packets → AllFit rate s.seen.packets s → AllFit rate (s.seen.packets + length packets) (after_all s packets)
unfolding after_all
all_fit s rate [] agree is few sizes all =
    let same : s.seen.packets ≡ s.seen.packets + 0 = omega arith in
    subst (λ (n : ℕ). AllFit rate n s) same all
all_fit s rate (bytes ∷ packets) agree is few sizes all =
    let o : Option PacketView = sound_packet (packet_at bytes) in
    let one : s.seen.packets + 1 < 2 ^ 64 = omega (arith, few) in
    let count = sound_packets s o one in
    let step : AllFit rate (suc s.seen.packets) (after_sound s o) =
    sound_fit s rate bytes o refl (All-head (λ b. length b ≡ 188) bytes packets sizes) agree is (omega (arith, few)) all in
    let more : suc s.seen.packets ≡ (next s bytes).seen.packets = omega (arith, count) in
    let now : AllFit rate (next s bytes).seen.packets (next s bytes) =
    record { each = λ j e f there framed. subst (λ (n : ℕ). Fits rate n e.held f) more (step.each j e f there framed) } in
    let rest = all_fit (next s bytes) rate packets (sound_agrees s o agree) (ap (λ (x : ViewOptions). x.arrival) (sound_options s o) ∙ is)
    (omega (arith, few, count))
    (All-tail (λ b. length b ≡ 188) bytes packets sizes) now in
    let total : (next s bytes).seen.packets + length packets ≡ s.seen.packets + length (bytes ∷ packets) = omega (arith, count) in
    subst (λ (x : ViewState). AllFit rate (s.seen.packets + length (bytes ∷ packets)) (after_all x packets)) (sym (packet_is s bytes))
    (subst (λ (n : ℕ). AllFit rate n (after_all (next s bytes) packets)) total rest)

-- After all packets of a run both views of a stream fit.
pub run_fits : (request : RequestView) (rate : ℕ) (packets : List (List ℕ)) (place : ℕ) (e : EntryState) (f : Framed) → request.options.arrival ≡ AtRate rate →
    length packets ≤ most_packets → All (λ bytes. length bytes ≡ 188) packets → slice_get (after_all (start request) packets).table.entries place ≡ Some e →
    e.framed ≡ Some f →
    Fits rate (length packets) e.held f
run_fits request rate packets place e f is few sizes there framed =
    let none : AllFit rate 0 (start request) = record { each = λ j x g found known. absurd (no_entry j x found) } in
    let all = all_fit (start request) rate packets (none_agree request) is (omega (arith, few)) sizes none in
    let same : 0 + length packets ≡ length packets = omega arith in
    subst (λ (n : ℕ). Fits rate n e.held f) same (all.each place e f there framed)
  where
    no_entry : (j : ℕ) (x : EntryState) → slice_get [] j ≡ Some x → ⊥
    no_entry j x h = cc
