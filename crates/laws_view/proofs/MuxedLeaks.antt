-- The multiplexing buffers of a run that a multiplexer wrote, in a view where a byte takes a whole number of units of time to leave them
use Rattle.std.proofs.Common.{◌≡◌, ◌∙◌, sym, ℕ, zero, suc, ◌+◌, ◌-◌, ◌*◌, ◌/◌, ◌%◌, ◌<◌, ◌≤◌, Bool, false, List, [], ◌∷◌, ◌++◌, length, map, drop, Option, Some}
use Rattle.std.proofs.Common.{None, refl, ap, ap₂, subst, arith, All}
use Rattle.std.specs.Prelude.{flat_map}
use Rattle.std.proofs.Math.Nat.{mod-lt, mul-div_cancel_left, mul-pos}
use Rattle.std.proofs.lemmas.Nat.{div-add-mod'}
use Rattle.std.proofs.lemmas.List.Elements.{All-cons, All-nil, All-tail}
use Rattle.std.proofs.lemmas.List.{map-append}
use Rattle.clock27.specs.Departure.{departures, last_left}
use Rattle.clock27.specs.Fullness.{fullness}
use Rattle.clock27.proofs.Scale.{departures-scale, fullness-scale}
use Rattle.ts_packet.specs.PidList.{Entry, cut_packets}
use Rattle.pes_packet.specs.AccessUnits.{AccessUnit}
use Rattle.pes_packet.specs.Units.{units_of}
use Rattle.slot_contents.specs.Contents.{run_bytes}
use Rattle.description_parts.specs.Described.{DescribedStream}
use Rattle.description_parts.specs.Ranges.{IsInRange}
use Rattle.own_slots.specs.Slots.{Rises}
use Rattle.unit_timing.specs.declared.multiplexing_buffer.MultiplexingBuffer.{MultiplexingBuffer}
use Rattle.unit_timing.specs.PesPacket.{PesPacket}
use Rattle.unit_timing.specs.Plans.{KeepsDeclaration, run_packets}
use Rattle.unit_timing.specs.Schedule.{Packet}
use Rattle.unit_timing.specs.Transport.{pes_left, slots_of}
use Rattle.unit_timing.specs.VideoBuffers.{multiplexing_entered}
use Rattle.unit_timing.proofs.MomentLemmas.{left_scaled}
use Rattle.unit_timing.proofs.PacketsInSlots.{rising_run}
use Rattle.slot_plan.specs.Promised.{Promised, declaration}
use Rattle.slot_plan.proofs.OnePlan.{proper_leak}
use Rattle.slot_plan.specs.Schedule.{owned}
use Rattle.slot_plan.specs.declared.slot.Item.TheVariants.{Stream as StreamItem}
use Rattle.unit_queue.specs.OwnedStreams.{OwnedStream}
use Rattle.unit_queue.proofs.CarriedBytes.{carried_law}
use Rattle.tstd.specs.Carried.{packets_on, timed_pes_packets}
use Rattle.mux_core.specs.Scheduled.{Scheduled}
use Rattle.mux_core.specs.Headline.{UnitsKept}
use Rattle.mux_core.specs.Histories.{content_at, owned_stream}
use Rattle.mux_core.specs.WholeJobs.{job_history, output_of}
use Rattle.mux_core.proofs.JobWriting.{output_bytes}
use Rattle.mux_core.proofs.KnownRanges.{stream_range}
use Rattle.mux_core.proofs.StreamsAlone.{stream_alone}
use Rattle.mux_core.proofs.Whole.{contents_fit}
use Rattle.laws_run.proofs.MonitoredJobs.{job_kept}
use Rattle.arrival.specs.declared.arrival.Arrival.TheVariants.{AtRate}
use Rattle.tstd_rows.specs.History.{arrivals_of, payload_left, until_of}
use Rattle.tstd_rows.specs.VideoViewed.{leak_step, multiplexing_buffer, multiplexing_held, multiplexing_under_way}
use Rattle.tstd_rows.specs.Held.{Held, empty}
use Rattle.tstd_rows.specs.HeldVideo.{VideoSizes}
use Rattle.tstd_rows.specs.declared.arriving.Arriving.{Arriving}
use Rattle.tstd_rows.proofs.OverBytes.{none_over}
use Rattle.tstd_rows.proofs.VideoParts.{video_figures}
use Rattle.ts_watch.specs.Choices.{RequestView}
use Rattle.es_view.specs.Entries.{EntryState}
use Rattle.laws_view.specs.StreamPackets.{after_each, most_packets}
use Rattle.laws_view.specs.CarriedStreams.{cut_senders}
use Rattle.laws_view.specs.WholeStreams.{IsWhole, followed, known_at_begin, stream_packets}
use Rattle.laws_view.specs.ViewedRuns.{IsViewedAs}
use Rattle.laws_view.specs.VideoExcesses.{JobMultiplexingLaw, LeaksAs, NoMultiplexingExcess, RunMultiplexingLaw, video_each}
use Rattle.laws_view.proofs.EnteredBytes.{ComeFrom}
use Rattle.laws_view.proofs.MainBytes.{timed_packet, until_at}
use Rattle.laws_view.proofs.KeptBytes.{Follows}
use Rattle.laws_view.proofs.SentUnits.{AllSent, entry_packet, number_after}
use Rattle.laws_view.proofs.ClockAhead.{entries_from}
use Rattle.laws_view.proofs.MuxedStreams.{room_after}
use Rattle.laws_view.proofs.PidEntries.{pid_entries}
use Rattle.laws_view.proofs.RunUnits.{cuts_of}
use Rattle.laws_view.proofs.MuxedMain.{run_viewed}
use Rattle.laws_view.proofs.VideoBytes.{payload_each}
use Rattle.laws_view.proofs.VideoExcesses.{rate_each}
use Rattle.laws_view.proofs.LeakExcesses.{HasRoom, none_each}

-- A byte takes at least the exact time to leave, and less than one unit of time more.
rounded_up : (rate rx rbx : ℕ) → 0 < rbx → (rate * rx ≤ leak_step rate rx rbx * rbx) × (leak_step rate rx rbx * rbx ≤ rate * rx + rbx)
rounded_up rate rx rbx some = up (rate * rx) (rate * rx + (rbx - 1)) ((rate * rx + (rbx - 1)) / rbx * rbx) ((rate * rx + (rbx - 1)) % rbx) refl
    (div-add-mod' (rate * rx + (rbx - 1)) rbx) (mod-lt (rate * rx + (rbx - 1)) some)
  where
    up : (n m whole left : ℕ) → m ≡ n + (rbx - 1) → whole + left ≡ m → left < rbx → (n ≤ whole) × (whole ≤ n + rbx)
    up n m whole left is two less = (omega (arith, is, two, less), omega (arith, is, two))

some_step : (step rate rx rbx : ℕ) → 0 < rate * rx → rate * rx ≤ step * rbx → 0 < step
some_step zero rate rx rbx some le = absurd (omega (arith, some, le))
some_step (suc step) rate rx rbx some le = omega arith

-- The buffer of the view holds as much as a model's buffer with finer units of time.
same_fullness : (rate rx rbx leak x : ℕ) (packets : List Packet) → 0 < rbx →
    fullness x (pes_left rate rx 0 packets) (departures leak 0 (pes_left rate rx 0 packets))
    ≡ fullness (rbx * x) (multiplexing_entered rate rx rbx packets) (departures (rbx * leak) 0 (multiplexing_entered rate rx rbx packets))
same_fullness rate rx rbx leak x packets some =
    let ts : List ℕ = pes_left rate rx 0 packets in
    let ds : List ℕ = departures leak 0 ts in
    let turned : rx * rbx ≡ rbx * rx = omega arith in
    let none : rbx * 0 ≡ 0 = omega arith in
    let entered : multiplexing_entered rate rx rbx packets ≡ map (λ t. rbx * t) ts =
    ap (λ (r : ℕ). pes_left (rbx * rate) r 0 packets) turned ∙ left_scaled rbx rate rx packets in
    let left : departures (rbx * leak) 0 (multiplexing_entered rate rx rbx packets) ≡ map (λ t. rbx * t) ds =
    ap (λ (l : List ℕ). departures (rbx * leak) 0 l) entered
    ∙ subst (λ (prev : ℕ). departures (rbx * leak) prev (map (λ t. rbx * t) ts) ≡ map (λ t. rbx * t) (departures leak 0 ts)) none
    (departures-scale rbx leak 0 ts) in
    sym (
    ap₂ (λ (l m : List ℕ). fullness (rbx * x) l m) entered left ∙ fullness-scale (rbx * x) rbx ts ds some
    ∙ ap (λ (m : ℕ). fullness m ts ds) (mul-div_cancel_left x some)
    )

-- No payload has more than 184 bytes.
sizes_small : (base0 n : ℕ) (before : Option AccessUnit) (es : List Entry) (us : List AccessUnit) → AllSent base0 n before es us →
    All (λ p. p.size ≤ 184) (map entry_packet es)
unfolding AllSent
sizes_small base0 n before [] us sent = All-nil (λ (p : Packet). p.size ≤ 184)
sizes_small base0 n before (e ∷ es) [] sent = absurd sent
sizes_small base0 n before (e ∷ es) (u ∷ us) sent =
    All-cons (λ p. p.size ≤ 184) (entry_packet e) (map entry_packet es) sent.0.most (sizes_small base0 (number_after n e) (Some u) es us sent.1)

later_small : (ps qs : List Packet) → All (λ p. p.size ≤ 184) (ps ++ qs) → All (λ p. p.size ≤ 184) qs
later_small [] qs small = small
later_small (p ∷ ps) qs small = later_small ps qs (All-tail (λ p. p.size ≤ 184) p (ps ++ qs) small)

-- If the transport buffer begins empty, the payload bytes of all packets leave it as in the model.
pub payload_all : (rate rx size low : ℕ) (ps : List Arriving) (us : List AccessUnit) → ComeFrom low ps → Follows rate rx None ps us →
    payload_left rate (after_each (empty rate rx size) (AtRate rate) ps).parts ≡ pes_left rate rx 0 (map timed_packet ps)
unfolding payload_left arrivals_of last_left until_of until_at
payload_all rate rx size low ps us come follows = payload_each rate low (empty rate rx size) ps us None come (omega arith) follows refl

-- Slots that rise from a number also rise from any lower number.
lower_rises : (own : ℕ → Bool) (low from : ℕ) (ss : List ℕ) → low ≤ from → Rises own from ss → Rises own low ss
unfolding Rises
lower_rises own low from [] le rises = tt
lower_rises own low from (s ∷ ss) le rises = (omega (arith, le, rises.0), rises.1, rises.2)

later_rises : (own : ℕ → Bool) (from : ℕ) (ps qs : List Packet) → Rises own from (slots_of (ps ++ qs)) → Rises own from (slots_of qs)
unfolding Rises
later_rises own from [] qs rises = rises
later_rises own from (p ∷ ps) qs rises = lower_rises own from (suc p.slot) (slots_of qs) (omega (arith, rises.0)) (later_rises own (suc p.slot) ps qs rises.2)

-- A multiplexing buffer that leaks slightly slower than declared has room for any packets in the stream's own slots.
abbrev HasRoomFor : Scheduled → ℕ → DescribedStream → MultiplexingBuffer → Type 0
HasRoomFor d k s b = (slow : ℕ) (packets : List Packet) (x : ℕ) → 184 ≤ d.description.rate → s.rx * d.description.rate ≤ slow →
    slow ≤ s.rx * d.description.rate + b.rbx →
    All (λ p. p.size ≤ 184) packets → Rises (owned d.schedule (StreamItem k)) 0 (slots_of packets) →
    fullness x (multiplexing_entered d.description.rate s.rx b.rbx packets) (departures slow 0 (multiplexing_entered d.description.rate s.rx b.rbx packets)) ≤
    b.size

room_in_run : (d : Scheduled) (units : ℕ → List AccessUnit) (slots : ℕ) (request : RequestView) (e : EntryState) (k : ℕ) (b : MultiplexingBuffer)
    (sizes : VideoSizes) →
    IsInRange d.description → Promised d.description d.schedule → UnitsKept d units → slots ≤ most_packets → (viewed : IsViewedAs d request k e) →
    (whole : IsWhole request d.description.rate (cut_packets (run_bytes (content_at d units) 0 slots)) e) →
    viewed.stream.multiplexing ≡ Some b → e.video ≡ Some sizes → LeaksAs d.description.rate viewed.stream.rx b sizes → HasRoomFor d k viewed.stream b →
    NoMultiplexingExcess request d.description.rate (cut_packets (run_bytes (content_at d units) 0 slots)) e sizes whole
room_in_run d units slots request e k b sizes ranges promised kept few viewed whole some video leaks has_room =
    let rate : ℕ = d.description.rate in
    let leak : ℕ = sizes.leak in
    let size : ℕ = sizes.multiplexing in
    let bytes : List ℕ = run_bytes (content_at d units) 0 slots in
    let s : DescribedStream = viewed.stream in
    let l : OwnedStream = owned_stream d k s in
    let before : List (List ℕ) = whole.begun.before in
    let rest : List (List ℕ) = whole.begun.first ∷ whole.begun.later in
    let ps : List Arriving = stream_packets request e before rest in
    let h : Held = empty rate e.held.rx e.held.main.size in
    let v = run_viewed d units slots request e k ranges promised kept few viewed whole in
    let es : List Entry = entries_from s.pid 0 before in
    let fs : List Entry = entries_from s.pid (length before) rest in
    let front : List Packet = map entry_packet es in
    let back : List Packet = map entry_packet fs in
    let on : packets_on s.pid bytes ≡ front ++ back =
    ap (λ (xs : List Entry). map entry_packet xs) (pid_entries s.pid bytes) ∙ ap (λ (xs : List Entry). map entry_packet xs) v.entries
    ∙ map-append entry_packet es fs in
    let payload : payload_left rate e.held.parts ≡ pes_left rate s.rx 0 back =
    ap (λ (g : Held). payload_left rate g.parts) whole.held
    ∙ payload_all rate e.held.rx e.held.main.size (known_at_begin (followed request e) before).index ps (drop (length es) (cut_senders (cuts_of l (units k))))
    v.begin.come v.begin.follows
    ∙ ap₂ (λ (r : ℕ) (qs : List Packet). pes_left rate r 0 qs) viewed.rx v.begin.packets in
    let own : ℕ → Bool = owned d.schedule (StreamItem k) in
    let pes : List PesPacket = timed_pes_packets s.stream_id d.description.base0 (units k) in
    let sent : packets_on s.pid bytes ≡ run_packets own rate (declaration s) pes slots =
    (carried_law l (units k) (content_at d units) slots (stream_alone d units k s ranges (contents_fit d units ranges kept) viewed.there)).packets in
    let rises : Rises own 0 (slots_of back) =
    later_rises own 0 front back (subst (λ (xs : List Packet). Rises own 0 (slots_of xs)) (sym sent ∙ on) (rising_run own rate s.lead slots pes)) in
    let all_small = sizes_small d.description.base0 v.sent.first None (entries_from s.pid 0 (cut_packets bytes)) (cut_senders (cuts_of l (units k)))
    v.sent.sent in
    let small : All (λ p. p.size ≤ 184) back =
    later_small front back
    (subst (λ (xs : List Packet). All (λ p. p.size ≤ 184) xs) (ap (λ (xs : List Entry). map entry_packet xs) v.entries ∙ map-append entry_packet es fs)
    all_small) in
    let some_rate : 0 < rate = omega (arith, ranges.least_rate) in
    let range = stream_range d.description k s ranges viewed.there in
    let some_rx : 0 < s.rx = omega (arith, range.least_rx) in
    let some_both : 0 < rate * s.rx = mul-pos some_rate some_rx in
    let some_rbx : 0 < b.rbx = (proper_leak d.description k s b ranges viewed.there some).some_leak in
    let bounds = rounded_up rate s.rx b.rbx some_rbx in
    let no_faster : rate * s.rx ≤ leak * b.rbx = subst (λ (n : ℕ). rate * s.rx ≤ n * b.rbx) (sym leaks.leak) bounds.0 in
    let little : leak * b.rbx ≤ rate * s.rx + b.rbx = subst (λ (n : ℕ). n * b.rbx ≤ rate * s.rx + b.rbx) (sym leaks.leak) bounds.1 in
    let some_leak : 0 < leak = some_step leak rate s.rx b.rbx some_both no_faster in
    let peak = (video_figures rate leak e.held.parts some_rate some_leak).0 in
    let x : ℕ = peak.moment in
    let slow : ℕ = b.rbx * leak in
    let fits : fullness (b.rbx * x) (multiplexing_entered rate s.rx b.rbx back) (departures slow 0 (multiplexing_entered rate s.rx b.rbx back)) ≤ b.size =
    has_room slow back (b.rbx * x) (omega (arith, ranges.least_rate)) (omega (arith, no_faster))
    (omega (arith, little)) small
    rises in
    let held : multiplexing_held rate leak e.held.parts x ≡ fullness (b.rbx * x) (multiplexing_entered rate s.rx b.rbx back)
    (departures slow 0 (multiplexing_entered rate s.rx b.rbx back)) =
    ap (λ (ts : List ℕ). fullness x ts (departures leak 0 ts)) payload ∙ same_fullness rate s.rx b.rbx leak x back some_rbx in
    let most : (multiplexing_buffer rate leak e.held.parts).most ≤ size = omega (arith, peak.reached, held, fits, leaks.size) in
    let room : HasRoom rate leak size e.held.parts = none_over leak size 0 (payload_left rate e.held.parts) (omega (arith, most)) in
    let same : e.held.rate ≡ rate = ap (λ (g : Held). g.rate) whole.held ∙ rate_each h (AtRate rate) ps in
    record {
      most = omega (arith, most, ap (λ (r : ℕ). (multiplexing_buffer r leak e.held.parts).most) same);
      none_ended = ap (λ (o : Option VideoSizes). flat_map (λ v. v.multiplexing) (video_each o h (AtRate rate) ps)) video
          ∙ none_each sizes h (AtRate rate) ps (subst (λ (g : Held). HasRoom rate leak size g.parts) whole.held room);
      none_under_way = ap (λ (r : ℕ). multiplexing_under_way r leak size e.held.parts) same ∙ room_after leak size 0 (payload_left rate e.held.parts) room;
    }

pub run_multiplexing_law : RunMultiplexingLaw
run_multiplexing_law d units slots request e k b sizes ranges promised kept few viewed whole some video leaks =
    let s : DescribedStream = viewed.stream in
    let pes : List PesPacket = timed_pes_packets s.stream_id d.description.base0 (units k) in
    let accepted = kept.kept k s viewed.there in
    let keeps : KeepsDeclaration (declaration s) pes = record { spaced = accepted.spaced; sized = accepted.sized; allowed = accepted.allowed } in
    let has_room : HasRoomFor d k s b = (promised.videos k s b pes viewed.there some keeps).some_multiplexing in
    room_in_run d units slots request e k b sizes ranges promised kept few viewed whole some video leaks has_room

pub job_multiplexing_law : JobMultiplexingLaw
job_multiplexing_law d units slots request e k b sizes ranges promised none few viewed =
    let each : ℕ → List AccessUnit = λ j. units_of j units in
    let same : run_bytes (content_at d each) 0 slots ≡ output_of false d (job_history units slots) = sym (output_bytes (content_at d each) 0 slots) in
    subst (λ (bytes : List ℕ). (whole : IsWhole request d.description.rate (cut_packets bytes) e) → viewed.stream.multiplexing ≡ Some b →
    e.video ≡ Some sizes → LeaksAs d.description.rate viewed.stream.rx b sizes →
    NoMultiplexingExcess request d.description.rate (cut_packets bytes) e sizes whole) same
    (run_multiplexing_law d each slots request e k b sizes ranges promised (job_kept d units ranges none) few viewed)
