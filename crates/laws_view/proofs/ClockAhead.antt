-- A view keeps the last clock reference of a program: each reference gives the clock at its byte, and the next is never far.
use Rattle.std.proofs.Common.{◌≡◌, ◌∙◌, ◌⊎◌, ℕ, ◌+◌, ◌-◌, ◌*◌, ◌/◌, ◌%◌, ◌≤◌, ◌<◌, Bool, true, false, List, [], ◌∷◌, map, Option, Some, None, if◌then◌else◌}
use Rattle.std.proofs.Common.{refl, ap, inl, inr, nat_eq, arith}
use Rattle.std.specs.Option.{option_or}
use Rattle.clock27.specs.Recurrence.{Recur}
use Rattle.clock27.specs.Reference.{pcr_at, pcr_ticks}
use Rattle.ts_packet.specs.Views.{PacketView}
use Rattle.ts_packet.specs.Reading.{packet_at}
use Rattle.ts_packet.specs.Packets.{pcr_view}
use Rattle.ts_packet.specs.PidList.{Entry}
use Rattle.arrival.specs.declared.clock.PcrSample.{PcrSample}
use Rattle.arrival.specs.declared.arrival.Arrival.TheVariants.{AtRate}
use Rattle.es_events.specs.declared.view_options.ViewOptions.{ViewOptions}
use Rattle.es_events.specs.Clocks.{base_byte, place_of, sample_at, sample_in}
use Rattle.laws_view.specs.StreamPackets.{Before, Followed, known_after, most_packets, reference_in, sound_packet}
use Rattle.laws_view.proofs.DueByClock.{reference_at}

-- The packets of a PID in a list whose first packet has this index

unfoldable pub listed : ℕ → ℕ → List ℕ → Option PacketView → List Entry → List Entry
listed pid index bytes None es = es
listed pid index bytes (Some packet) es = if nat_eq pid packet.header.pid then record { index = index; bytes = bytes; packet = packet } ∷ es else es

unfoldable pub entries_from : ℕ → ℕ → List (List ℕ) → List Entry
entries_from pid index [] = []
entries_from pid index (bytes ∷ chunks) = listed pid index bytes (sound_packet (packet_at bytes)) (entries_from pid (index + 1) chunks)

-- No entry has a lower index.
unfoldable pub NoneBefore : ℕ → List Entry → Type 0
NoneBefore index [] = Unit {0}
NoneBefore index (e ∷ es) = index ≤ e.index

none_lower : (index : ℕ) (es : List Entry) → NoneBefore (index + 1) es → NoneBefore index es
unfolding NoneBefore
none_lower index [] h = tt
none_lower index (e ∷ es) h = omega (arith, h)

none_listed : (pid index : ℕ) (bytes : List ℕ) (o : Option PacketView) (es : List Entry) → NoneBefore (index + 1) es →
    NoneBefore index (listed pid index bytes o es)
unfolding listed NoneBefore
none_listed pid index bytes None es h = none_lower index es h
none_listed pid index bytes (Some packet) es h = by (nat_eq pid packet.header.pid) refl
  where
    by : (b : Bool) → nat_eq pid packet.header.pid ≡ b → NoneBefore index (listed pid index bytes (Some packet) es)
    by true is = rw is (let same : index ≤ index = omega arith in same)
    by false is = rw is (none_lower index es h)

pub none_before : (pid index : ℕ) (chunks : List (List ℕ)) → NoneBefore index (entries_from pid index chunks)
unfolding entries_from
none_before pid index [] = unfold NoneBefore in tt
none_before pid index (bytes ∷ chunks) =
    none_listed pid index bytes (sound_packet (packet_at bytes)) (entries_from pid (index + 1) chunks) (none_before pid (index + 1) chunks)

-- One clock reference

abbrev pub places : List Entry → List ℕ
places es = map (λ (e : Entry). 188 * e.index + 10) es

abbrev pub clock_packet : ℕ → ℕ → ℕ → ℕ → PacketView
clock_packet rate base0 pid index = pcr_view pid (pcr_at rate base0 (188 * index + 10))

pub ticks_again : (t : ℕ) → t < 2576980377600 → t / 300 % 8589934592 * 300 + t % 300 ≡ t
ticks_again t low = omega (arith, low)

pub ticks_low : (rate base0 i : ℕ) → pcr_ticks rate base0 i < 2576980377600
ticks_low rate base0 i = omega arith

pub sample_is : (rate base0 pid index : ℕ) (options : ViewOptions) → options.arrival ≡ AtRate rate → index < most_packets →
    reference_in options index (clock_packet rate base0 pid index) ≡ Some (reference_at rate base0 index)
unfolding sample_in place_of sample_at
sample_is rate base0 pid index options at_rate few =
    let byte : base_byte index ≡ 188 * index + 10 = omega (arith, few) in
    let ticks = ticks_again (pcr_ticks rate base0 (188 * index + 10)) (ticks_low rate base0 (188 * index + 10)) in
    rw (at_rate, byte, ticks) refl

-- The last clock reference and the later ones

unfoldable pub IsReference : ℕ → ℕ → ℕ → ℕ → ℕ → Option PcrSample → List Entry → Type 0
IsReference rate base0 limit slots index None es = Recur rate limit 0 (places es) (188 * slots)
IsReference rate base0 limit slots index (Some clock) es =
    (m : ℕ) × ((clock ≡ reference_at rate base0 m) × ((m < index) × Recur rate limit (188 * m + 10) (places es) (188 * slots)))

-- Each packet on the PID is a clock reference.
unfoldable pub AreClocks : ℕ → ℕ → ℕ → List Entry → Type 0
AreClocks rate base0 pid [] = Unit {0}
AreClocks rate base0 pid (e ∷ es) = (e.packet ≡ clock_packet rate base0 pid e.index) × AreClocks rate base0 pid es

-- No packet has a clock reference.
unfoldable pub NoClocks : ViewOptions → List Entry → Type 0
NoClocks options [] = Unit {0}
NoClocks options (e ∷ es) = (reference_in options e.index e.packet ≡ None) × NoClocks options es

unfoldable pub ClockIs : ViewOptions → ℕ → ℕ → ℕ → ℕ → ℕ → ℕ → Option PcrSample → List Entry → Type 0
ClockIs options rate base0 limit slots pid index clock es =
    (AreClocks rate base0 pid es × IsReference rate base0 limit slots index clock es) ⊎ ((clock ≡ None) × NoClocks options es)

pub later_reference : (rate base0 limit slots index : ℕ) (clock : Option PcrSample) (es : List Entry) → IsReference rate base0 limit slots index clock es →
    IsReference rate base0 limit slots (index + 1) clock es
unfolding IsReference
later_reference rate base0 limit slots index None es h = h
later_reference rate base0 limit slots index (Some clock) es h = (h.0, (h.1.0, (omega (arith, h.1.1.0), h.1.1.1)))

pub next_reference : (rate base0 limit slots index : ℕ) (clock : Option PcrSample) (e : Entry) (es : List Entry) → e.index ≡ index →
    IsReference rate base0 limit slots index clock (e ∷ es) →
    IsReference rate base0 limit slots (index + 1) (Some (reference_at rate base0 index)) es
unfolding IsReference Recur
next_reference rate base0 limit slots index None e es is h = (index, (refl, (omega arith, rw is at h.1)))
next_reference rate base0 limit slots index (Some clock) e es is h = (index, (refl, (omega arith, rw is at h.1.1.1.1)))

-- A packet on the PID of the clock, and a packet on another PID
own_clock : (options : ViewOptions) (rate base0 limit slots pid index : ℕ) (bytes : List ℕ) (packet : PacketView) (clock : Option PcrSample) (es : List Entry) →
    options.arrival ≡ AtRate rate → index < most_packets →
    ClockIs options rate base0 limit slots pid index clock (record { index = index; bytes = bytes; packet = packet } ∷ es) →
    ClockIs options rate base0 limit slots pid (index + 1) (option_or (reference_in options index packet) clock) es
unfolding ClockIs AreClocks NoClocks
own_clock options rate base0 limit slots pid index bytes packet clock es at_rate few (inl reported) =
    let sample : reference_in options index packet ≡ Some (reference_at rate base0 index) =
    ap (λ (q : PacketView). reference_in options index q) reported.0.0 ∙ sample_is rate base0 pid index options at_rate few in
    inl (
      reported.0.1,
      rw sample (next_reference rate base0 limit slots index clock (record { index = index; bytes = bytes; packet = packet }) es refl reported.1),
    )
own_clock options rate base0 limit slots pid index bytes packet clock es at_rate few (inr quiet) = inr (rw (quiet.1.0, quiet.0) refl, quiet.1.1)

pub other_clock : (options : ViewOptions) (rate base0 limit slots pid index : ℕ) (clock : Option PcrSample) (es : List Entry) →
    ClockIs options rate base0 limit slots pid index clock es → ClockIs options rate base0 limit slots pid (index + 1) clock es
unfolding ClockIs
other_clock options rate base0 limit slots pid index clock es (inl reported) =
    inl (reported.0, later_reference rate base0 limit slots index clock es reported.1)
other_clock options rate base0 limit slots pid index clock es (inr quiet) = inr quiet

-- One more packet keeps `ClockIs`.
pub clock_step : (f : Followed) (b : Before) (rate base0 limit slots : ℕ) (bytes : List ℕ) (o : Option PacketView) (es : List Entry) →
    f.options.arrival ≡ AtRate rate → b.index < most_packets →
    ClockIs f.options rate base0 limit slots f.clock_pid b.index b.clock (listed f.clock_pid b.index bytes o es) →
    ClockIs f.options rate base0 limit slots f.clock_pid (b.index + 1) (known_after f b o).clock es
unfolding known_after listed
clock_step f b rate base0 limit slots bytes None es at_rate few h = other_clock f.options rate base0 limit slots f.clock_pid b.index b.clock es h
clock_step f b rate base0 limit slots bytes (Some packet) es at_rate few h = by (nat_eq f.clock_pid packet.header.pid) refl h
  where
    e : Entry
    e = record { index = b.index; bytes = bytes; packet = packet }

    by : (w : Bool) → nat_eq f.clock_pid packet.header.pid ≡ w →
        ClockIs f.options rate base0 limit slots f.clock_pid b.index b.clock (if nat_eq f.clock_pid packet.header.pid then e ∷ es else es) →
        ClockIs f.options rate base0 limit slots f.clock_pid (b.index + 1)
        (if nat_eq f.clock_pid packet.header.pid then option_or (reference_in f.options b.index packet) b.clock else b.clock) es
    by true own h = rw own (own_clock f.options rate base0 limit slots f.clock_pid b.index bytes packet b.clock es at_rate few (rw own at h))
    by false other h = rw other (other_clock f.options rate base0 limit slots f.clock_pid b.index b.clock es (rw other at h))

-- The last clock reference is near.
pub near_reference : (rate limit slots m i : ℕ) (es : List Entry) → NoneBefore i es → i ≤ slots → Recur rate limit (188 * m + 10) (places es) (188 * slots) →
    (188 * i - (188 * m + 10)) * 8000 ≤ limit * rate
unfolding NoneBefore Recur
near_reference rate limit slots m i [] none few h = omega (arith, few, h)
near_reference rate limit slots m i (e ∷ es) none few h = omega (arith, none, h.0)
