-- In a view, the figures of a stream that carries units equal the figures that measuring its bytes finds.
use Rattle.std.proofs.Common.{◌≡◌, ◌∙◌, sym, ℕ, ◌+◌, ◌&&◌, false, is_some, Bool, true, List, [], ◌∷◌, ◌++◌, length, map, take, Option, Some, None, refl, ap}
use Rattle.std.proofs.Common.{subst, inl, inr, nat_eq, arith}
use Rattle.std.proofs.lemmas.Bool.{cases_Bool}
use Rattle.std.proofs.lemmas.List.{length-append}
use Rattle.ts_packet.specs.Views.{PacketView}
use Rattle.ts_packet.specs.Reading.{packet_at}
use Rattle.ts_packet.specs.PidList.{Entry, cut_packets, pid_list}
use Rattle.pes_packet.specs.AccessUnits.{AccessUnit}
use Rattle.pes_packet.specs.Units.{units_of}
use Rattle.slot_contents.specs.Contents.{run_bytes}
use Rattle.description_parts.specs.Described.{DescribedStream}
use Rattle.unit_timing.specs.MainBuffer.{mb_fullness}
use Rattle.unit_timing.specs.Schedule.{Packet}
use Rattle.unit_timing.specs.Transport.{pes_left}
use Rattle.tstd.specs.Carried.{packets_on, timed_pes_packets}
use Rattle.tstd.specs.Measured.{IsStreamFullness}
use Rattle.tstd.specs.declared.fullness.StreamFullness.{StreamFullness}
use Rattle.mux_core.specs.Histories.{content_at, owned_stream}
use Rattle.mux_core.specs.WholeJobs.{job_history, output_of}
use Rattle.mux_core.proofs.JobWriting.{output_bytes}
use Rattle.mux_core.proofs.Whole.{headline}
use Rattle.laws_run.proofs.MonitoredJobs.{job_kept}
use Rattle.arrival.specs.declared.clock.PcrSample.{PcrSample}
use Rattle.tstd.specs.PidPackets.{packets_from}
use Rattle.tstd_rows.specs.History.{main_fullness}
use Rattle.tstd_rows.specs.declared.unit_seen.DueTime.{DueTime}
use Rattle.tstd_rows.specs.Held.{Held, main_most}
use Rattle.tstd_rows.specs.declared.arriving.Arriving.{Arriving}
use Rattle.es_events.specs.declared.clocks.Beginning.TheVariants.{Stamped}
use Rattle.es_events.specs.declared.view_options.ViewOptions.{ViewOptions}
use Rattle.es_events.specs.Clocks.{beginning_of}
use Rattle.es_view.specs.Entries.{arriving, due_by}
use Rattle.es_view.specs.LastPayloads.{LastView, is_repeated, same_counter}
use Rattle.laws_view.specs.StreamPackets.{Before, Followed, clock_with, clocks_seen, known_after, known_after_all, seen_among, seen_in, sound_packet}
use Rattle.laws_view.specs.CarriedStreams.{CutUnit, cut_pieces, cut_senders, cut_units}
use Rattle.laws_view.specs.WholeStreams.{IsWhole, followed, known_at_begin, nothing_known, stream_packets}
use Rattle.laws_view.specs.ViewedRuns.{FromTheFirst}
use Rattle.laws_view.specs.AsMeasured.{AsMeasured, AsMeasuredLaw, HasClock, JobAsMeasuredLaw, RunAsMeasuredLaw}
use Rattle.laws_view.proofs.ClockAhead.{entries_from, listed}
use Rattle.laws_view.proofs.KeptBytes.{UnderWay}
use Rattle.laws_view.proofs.LaterPackets.{peak_le}
use Rattle.laws_view.proofs.Lists.{itself}
use Rattle.laws_view.proofs.MainBytes.{due_with}
use Rattle.laws_view.proofs.MeasuredStreams.{measured_stream_law}
use Rattle.laws_view.proofs.SentBytes.{packet_sizes, sizes_of}
use Rattle.laws_view.proofs.SentUnits.{AllSent, IsSent, carried_sent, entry_packet, sizes_below, wire_dts}
use Rattle.laws_view.proofs.FollowedUnits.{Clocked, clocked_by_number, number_clocked}
use Rattle.laws_view.proofs.RunClocks.{Timed}
use Rattle.laws_view.proofs.PidEntries.{entries_two, pid_entries}
use Rattle.laws_view.proofs.CarriedMain.{carried_sizes, from_begin, main_is, model_of}
use Rattle.laws_view.proofs.RunUnits.{cuts_of, run_carries, same_units}
use Rattle.laws_view.proofs.MuxedMain.{none_entries, run_viewed}

-- If a clock reference has come, a unit is open from the first packet on.

some_due : (options : ViewOptions) (rx : ℕ) (clock : Option PcrSample) (dts : ℕ) → is_some clock ≡ true → is_some (due_by options rx clock (Stamped dts)) ≡ true
unfolding due_by
some_due options rx None dts e = absurd (let no : ⊥ = cc in no)
some_due options rx (Some clock) dts e = refl

first_time : (last : LastView) (packet : PacketView) → last.counter ≡ None → is_repeated last packet ≡ false
unfolding same_counter
first_time last packet none = elim (cases_Bool (is_some packet.payload)) [ inl some ↦ rw (some, none) refl | inr bare ↦ rw bare refl ]

not_none : (o : Option DueTime) → is_some o ≡ true → due_with o None ≡ None → ⊥
not_none None e none = let no : ⊥ = cc in no
not_none (Some due) e none = let no : ⊥ = cc in no

begins_some : (options : ViewOptions) (index rx : ℕ) (last : LastView) (clock : Option PcrSample) (packet : PacketView) (dts : ℕ) → last.counter ≡ None →
    is_some clock ≡ true →
    beginning_of packet ≡ Stamped dts → is_some (arriving options index rx last clock packet).begins ≡ true
begins_some options index rx last clock packet dts none clocked begins = rw (first_time last packet none, begins) (some_due options rx clock dts clocked)

under_way : (f : Followed) (b : Before) (packet : PacketView) (first : List ℕ) (later : List (List ℕ)) (dts : ℕ) →
    sound_packet (packet_at first) ≡ Some packet →
    nat_eq f.pid packet.header.pid ≡ true → b.last.counter ≡ None → is_some (clock_with f.options f.clock_pid b.index packet b.clock) ≡ true →
    beginning_of packet ≡ Stamped dts →
    UnderWay None (seen_among f b (first ∷ later))
unfolding seen_among seen_in UnderWay
under_way f b packet first later dts sound own none clocked begins =
    rw (sound, own)
    (not_none (arriving f.options b.index f.rx b.last (clock_with f.options f.clock_pid b.index packet b.clock) packet).begins
    (begins_some f.options b.index f.rx b.last (clock_with f.options f.clock_pid b.index packet b.clock) packet dts none clocked begins))

-- The first packet of a stream begins a unit.
first_begins : (base0 n pid index : ℕ) (packet : PacketView) (first : List ℕ) (later : List (List ℕ)) (us : List AccessUnit) →
    sound_packet (packet_at first) ≡ Some packet →
    nat_eq pid packet.header.pid ≡ true → AllSent base0 n None (entries_from pid index (first ∷ later)) us → (dts : ℕ) × (beginning_of packet ≡ Stamped dts)
unfolding entries_from listed AllSent
first_begins base0 n pid index packet first later us sound own sent = by us (rw (sound, own) at sent)
  where
    e : Entry
    e = record { index = index; bytes = first; packet = packet }

    of : (u : AccessUnit) → IsSent base0 n None e u → (dts : ℕ) × (beginning_of packet ≡ Stamped dts)
    of u s = elim s.begins [
      | inl stamped ↦ (wire_dts base0 u, stamped.1)
      | inr goes ↦ absurd (let none : None ≡ Some u = goes.1 in (let no : ⊥ = cc in no))
    ]

    by : (us : List AccessUnit) → AllSent base0 n None (e ∷ entries_from pid (index + 1) later) us → (dts : ℕ) × (beginning_of packet ≡ Stamped dts)
    by [] sent = absurd sent
    by (u ∷ us) sent = of u sent.0

-- Packets in two parts leave the same known state.
pub known_two : (f : Followed) (b : Before) (xs ys : List (List ℕ)) → known_after_all f b (xs ++ ys) ≡ known_after_all f (known_after_all f b xs) ys
unfolding known_after_all
known_two f b [] ys = refl
known_two f b (x ∷ xs) ys = known_two f (known_after f b (sound_packet (packet_at x))) xs ys

clock_here : (f : Followed) (before : List (List ℕ)) (first : List ℕ) (packet : PacketView) → sound_packet (packet_at first) ≡ Some packet →
    (known_after_all f nothing_known (before ++ first ∷ [])).clock ≡ clock_with f.options f.clock_pid (known_at_begin f before).index packet
    (known_at_begin f before).clock
unfolding known_after_all known_after
clock_here f before first packet sound =
    ap (λ (b : Before). b.clock) (known_two f nothing_known before (first ∷ []))
    ∙ ap (λ (o : Option PacketView). (known_after f (known_after_all f nothing_known before) o).clock) sound

-- At each moment the main buffer of the view holds what the model's holds.

pub as_measured_law : AsMeasuredLaw
as_measured_law request rate base0 bytes e s cuts f at_rate few same drained whole first clocked carries keeps full =
    let chunks : List (List ℕ) = cut_packets bytes in
    let rest : List (List ℕ) = whole.begun.first ∷ whole.begun.later in
    let ps : List Arriving = stream_packets request e whole.begun.before rest in
    let b : Before = known_at_begin (followed request e) whole.begun.before in
    let us : List AccessUnit = cut_senders cuts in
    let fs : List Entry = entries_from s.pid (length whole.begun.before) rest in
    let qs : List Packet = map entry_packet fs in
    let place : 0 + length whole.begun.before ≡ length whole.begun.before = omega arith in
    let entries : entries_from s.pid 0 chunks ≡ entries_from s.pid 0 whole.begun.before ++ fs =
    ap (λ (xs : List (List ℕ)). entries_from s.pid 0 xs) whole.begun.split ∙ entries_two s.pid 0 whole.begun.before rest
    ∙ ap (λ (i : ℕ). entries_from s.pid 0 whole.begun.before ++ entries_from s.pid i rest) place in
    let list : pid_list s.pid bytes ≡ fs = pid_entries s.pid bytes ∙ none_entries s.pid e.pid whole.begun.before rest chunks same first entries in
    let sent : AllSent base0 carries.first None fs us =
    subst (λ (es : List Entry). AllSent base0 carries.first None es us) list (carried_sent s.stream_id base0 s.pid cuts bytes carries) in
    let clocks : Clocked rate base0 fs us (clocks_seen (followed request e) b rest) =
    subst (λ (es : List Entry). Clocked rate base0 es us (clocks_seen (followed request e) b rest)) list
    (clocked_by_number rate base0 (pid_list s.pid bytes) us (clocks_seen (followed request e) b rest) keeps) in
    let lengths : length whole.begun.before + length rest ≡ length chunks = sym (length-append whole.begun.before rest)
    ∙ ap (λ (xs : List (List ℕ)). length xs) (sym whole.begun.split) in
    let begin = from_begin rate base0 us request e s.pid carries.first None whole.begun.before rest at_rate (omega (arith, lengths, few)) same sent clocks in
    let sizes : packet_sizes qs ≡ take (length qs) (sizes_of (cut_pieces cuts)) =
    subst (λ (es : List Entry). packet_sizes (map entry_packet es) ≡ take (length (map entry_packet es)) (sizes_of (cut_pieces cuts))) list
    (carried_sizes s.stream_id base0 s.pid cuts bytes carries) in
    let own : nat_eq s.pid whole.begun.packet.header.pid ≡ true = ap (λ (q : ℕ). nat_eq s.pid q) (sym whole.begun.pid ∙ same) ∙ itself s.pid in
    let own_too : nat_eq e.pid whole.begun.packet.header.pid ≡ true = ap (λ (q : ℕ). nat_eq q whole.begun.packet.header.pid) same ∙ own in
    let begins = first_begins base0 carries.first s.pid (length whole.begun.before) whole.begun.packet whole.begun.first whole.begun.later us whole.begun.sound
    own sent in
    let clock : is_some (clock_with request.options e.clock_pid b.index whole.begun.packet b.clock) ≡ true =
    ap (λ (o : Option PcrSample). is_some o) (sym (clock_here (followed request e) whole.begun.before whole.begun.first whole.begun.packet whole.begun.sound))
    ∙ clocked in
    let begun : UnderWay None ps = under_way (followed request e) b whole.begun.packet whole.begun.first whole.begun.later begins.0 whole.begun.sound own_too
    refl clock begins.1 in
    let on : packets_on s.pid bytes ≡ qs = ap (λ (es : List Entry). map entry_packet es) list in
    let alike : (x : ℕ) → main_fullness rate e.held.parts x ≡ model_of rate base0 s (cut_units cuts) bytes x =
    λ x. ap (λ (h : Held). main_fullness rate h.parts x) whole.held
    ∙ main_is rate e.held.rx e.held.main.size b.index x s.stream_id base0 cuts ps qs begin.come begin.follows begun begin.packets
    (sizes_below base0 carries.first None fs us sent) carries.cut sizes
    ∙ ap (λ (r : ℕ). mb_fullness rate r x (timed_pes_packets s.stream_id base0 (cut_units cuts)) (pes_left rate r 0 qs)) drained
    ∙ ap (λ (xs : List Packet). mb_fullness rate s.rx x (timed_pes_packets s.stream_id base0 (cut_units cuts)) (pes_left rate s.rx 0 xs)) (sym on) in
    let one = peak_le (main_fullness rate e.held.parts) (model_of rate base0 s (cut_units cuts) bytes) (main_most e.held) f.main (λ x. omega (arith, alike x))
    whole.lines.main full.main in
    let other = peak_le (model_of rate base0 s (cut_units cuts) bytes) (main_fullness rate e.held.parts) f.main (main_most e.held) (λ x. omega (arith, alike x))
    full.main whole.lines.main in
    let none : packets_from s.pid 0 whole.begun.before ≡ [] = ap (λ (q : ℕ). packets_from q 0 whole.begun.before) (sym same) ∙ first in
    record {
      transport = (measured_stream_law request rate base0 bytes e s (cut_units cuts) f whole same drained full).1 none;
      main = omega (arith, one, other);
    }

-- The same for a run that a multiplexer wrote

pub run_as_measured_law : RunAsMeasuredLaw
run_as_measured_law d units slots request e k ranges promised kept few viewed whole first clocked f full =
    let rate : ℕ = d.description.rate in
    let base0 : ℕ = d.description.base0 in
    let bytes : List ℕ = run_bytes (content_at d units) 0 slots in
    let s : DescribedStream = viewed.stream in
    let cuts : List CutUnit = cuts_of (owned_stream d k s) (units k) in
    let us : List AccessUnit = cut_senders cuts in
    let rest : List (List ℕ) = whole.begun.first ∷ whole.begun.later in
    let clocks : List (Option PcrSample) = clocks_seen (followed request e) (known_at_begin (followed request e) whole.begun.before) rest in
    let v = run_viewed d units slots request e k ranges promised kept few viewed whole in
    let all : entries_from s.pid 0 (cut_packets bytes) ≡ entries_from s.pid (length whole.begun.before) rest =
    none_entries s.pid e.pid whole.begun.before rest (cut_packets bytes) viewed.pid first v.entries in
    let list : pid_list s.pid bytes ≡ entries_from s.pid (length whole.begun.before) rest = pid_entries s.pid bytes ∙ all in
    let carries =
    run_carries d s k (units k) slots bytes (kept.parameters k s viewed.there) (kept.kept k s viewed.there)
    ((headline d units slots ranges promised kept).streams k s viewed.there) in
    let goes = v.clocks us (subst (λ (es : List Entry). Timed rate es us) all v.sent.timed) in
    let keeps = number_clocked rate base0 (pid_list s.pid bytes) us clocks (subst (λ (es : List Entry). Clocked rate base0 es us clocks) (sym list) goes) in
    let lengths : length whole.begun.before + length rest ≡ length (cut_packets bytes) = sym (length-append whole.begun.before rest)
    ∙ ap (λ (xs : List (List ℕ)). length xs) (sym whole.begun.split) in
    as_measured_law request rate base0 bytes e s cuts f viewed.arrival (omega (arith, lengths, v.lengths, few)) viewed.pid viewed.rx whole first clocked carries
    keeps
    (subst (λ (vs : List AccessUnit). IsStreamFullness rate base0 s vs (packets_on s.pid bytes) f) (sym (same_units (owned_stream d k s) (units k))) full)

pub job_as_measured_law : JobAsMeasuredLaw
job_as_measured_law d units slots request e k ranges promised none few viewed =
    let each : ℕ → List AccessUnit = λ j. units_of j units in
    let same : run_bytes (content_at d each) 0 slots ≡ output_of false d (job_history units slots) = sym (output_bytes (content_at d each) 0 slots) in
    subst (λ (bytes : List ℕ). (whole : IsWhole request d.description.rate (cut_packets bytes) e) → FromTheFirst e.pid whole.begun.before →
    HasClock request e (whole.begun.before ++ whole.begun.first ∷ []) → (f : StreamFullness) →
    IsStreamFullness d.description.rate d.description.base0 viewed.stream (units_of k units) (packets_on viewed.stream.pid bytes) f → AsMeasured e f) same
    (run_as_measured_law d each slots request e k ranges promised (job_kept d units ranges none) few viewed)
