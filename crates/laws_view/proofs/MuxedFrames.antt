-- The main buffers of a run that a multiplexer wrote, in a view by access units
use Rattle.std.proofs.Common.{◌≡◌, ◌∙◌, sym, ℕ, zero, suc, ◌-◌, ◌*◌, ◌/◌, ◌≤◌, false, List, [], ◌∷◌, ◌++◌, length, map, take, drop, None, Some, refl, ap}
use Rattle.std.proofs.Common.{ap₂, subst, arith, All, length-take-le}
use Rattle.std.specs.Prelude.{slice_get}
use Rattle.std.specs.List.{sum_by}
use Rattle.std.specs.Simd.{first_chunks}
use Rattle.std.proofs.lemmas.List.{length-append, length-drop, map-append}
use Rattle.std.proofs.lemmas.List.Elements.{All-cons, All-nil}
use Rattle.std.proofs.lemmas.List.Sums.{sum_by-cons}
use Rattle.ts_packet.specs.PidList.{Entry, cut_packets}
use Rattle.pes_packet.specs.AccessUnits.{AccessUnit}
use Rattle.pes_packet.specs.Units.{units_of}
use Rattle.slot_contents.specs.Contents.{Content, run_bytes}
use Rattle.description_parts.specs.Described.{DescribedStream}
use Rattle.description_parts.specs.Ranges.{IsInRange}
use Rattle.slot_plan.specs.Promised.{Promised, declaration}
use Rattle.slot_plan.specs.Schedule.{owned}
use Rattle.slot_plan.specs.declared.slot.Item.TheVariants.{Stream as StreamItem}
use Rattle.unit_timing.specs.AccessUnits.{FramedPacket, framed_fullness}
use Rattle.unit_timing.specs.declared.framing.FrameDeclaration.{FrameDeclaration}
use Rattle.unit_timing.specs.PesPacket.{PesPacket}
use Rattle.unit_timing.specs.Plans.{KeepsDeclaration, run_packets}
use Rattle.unit_timing.specs.Schedule.{Packet}
use Rattle.unit_timing.specs.Transport.{NoneLeavesEarly, pes_left}
use Rattle.unit_timing.proofs.NotEarly.{none_leaves_early_law}
use Rattle.unit_queue.specs.OwnedStreams.{OwnedStream}
use Rattle.unit_queue.specs.Payloads.{StreamIsAlone}
use Rattle.unit_queue.specs.Queues.{Kept}
use Rattle.unit_queue.proofs.CarriedBytes.{carried_law}
use Rattle.tstd.specs.Carried.{packets_on, timed_pes_packets}
use Rattle.tstd.specs.PacketLists.{payloads_from}
use Rattle.tstd.specs.PidPackets.{packets_from}
use Rattle.tstd.proofs.StreamPackets.{sizes_same}
use Rattle.mux_core.specs.FramesKept.{CutsUnits}
use Rattle.mux_core.specs.Scheduled.{Scheduled}
use Rattle.mux_core.specs.Headline.{UnitsKept}
use Rattle.mux_core.specs.Histories.{content_at, owned_stream}
use Rattle.mux_core.specs.WholeJobs.{job_history, output_of}
use Rattle.mux_core.proofs.JobWriting.{output_bytes}
use Rattle.mux_core.proofs.StreamsAlone.{stream_alone}
use Rattle.mux_core.proofs.Whole.{contents_fit}
use Rattle.laws_run.proofs.MonitoredJobs.{job_kept}
use Rattle.arrival.specs.declared.arrival.Arrival.TheVariants.{AtRate}
use Rattle.tstd_rows.specs.History.{main_fullness, payload_left}
use Rattle.tstd_rows.specs.Held.{Held, empty, main_most}
use Rattle.tstd_rows.specs.declared.arriving.Arriving.{Arriving}
use Rattle.ts_watch.specs.Choices.{RequestView}
use Rattle.es_view.specs.Entries.{EntryState}
use Rattle.ts_report.specs.Views.{after_all, start}
use Rattle.laws_view.specs.StreamPackets.{most_packets}
use Rattle.laws_view.specs.CarriedStreams.{cut_senders}
use Rattle.laws_view.specs.FrameExcesses.{JobFramesLaw, NoFrameExcess, RunFramesLaw, SeenAs, gone_cut, gone_seen}
use Rattle.laws_view.specs.WholeStreams.{IsWhole, followed, known_at_begin, stream_packets}
use Rattle.laws_view.specs.ViewedRuns.{IsViewedAs}
use Rattle.laws_view.proofs.KeptBytes.{many_left, total}
use Rattle.laws_view.proofs.SentBytes.{packet_sizes}
use Rattle.laws_view.proofs.SentUnits.{entry_packet, sizes_below}
use Rattle.laws_view.proofs.ClockAhead.{entries_from}
use Rattle.laws_view.proofs.PidEntries.{packets_entries, pid_entries}
use Rattle.laws_view.proofs.RunUnits.{cuts_of}
use Rattle.laws_view.proofs.MuxedMain.{run_viewed}
use Rattle.laws_view.proofs.MuxedVideo.{small_parts}
use Rattle.laws_view.proofs.MuxedLeaks.{payload_all}
use Rattle.laws_view.proofs.VideoExcesses.{greatest_below, rate_each}
use Rattle.laws_view.proofs.GoneBytes.{bytes_held, cut_held, held_by, held_later, view_held}
use Rattle.laws_view.proofs.FramedRuns.{run_fits}

-- Each packet of a byte stream has 188 bytes.
chunk_sizes : (k : ℕ) (bytes : List ℕ) → 188 * k ≤ length bytes → All (λ b. length b ≡ 188) (first_chunks 188 k bytes)
chunk_sizes zero bytes whole = All-nil (λ (b : List ℕ). length b ≡ 188)
chunk_sizes (suc k) bytes whole =
    let many : length (drop 188 bytes) ≡ length bytes - 188 = length-drop 188 bytes in
    All-cons (λ b. length b ≡ 188) (take 188 bytes) (first_chunks 188 k (drop 188 bytes)) (length-take-le 188 bytes (omega (arith, whole)))
    (chunk_sizes k (drop 188 bytes) (omega (arith, many, whole)))

pub packet_sizes_are : (bytes : List ℕ) → All (λ b. length b ≡ 188) (cut_packets bytes)
packet_sizes_are bytes = chunk_sizes (length bytes / 188) bytes (omega arith)

-- The total of packet sizes is their sum.
total_sum : (ps : List Packet) → total (packet_sizes ps) ≡ sum_by (λ p. p.size) ps
unfolding total
total_sum [] = refl
total_sum (p ∷ ps) = omega (arith, total_sum ps, sum_by-cons (λ (q : Packet). q.size) p ps)

-- The main buffer has room for access units that are removed one by one, whenever bytes leave the transport buffer after the begin of their packet.
frames_room : (d : Scheduled) (k : ℕ) (s : DescribedStream) (units : List AccessUnit) (content : ℕ → Content) (n : ℕ) →
    slice_get d.description.streams k ≡ Some s → StreamIsAlone (owned_stream d k s) units content → Kept (owned_stream d k s) units →
    Promised d.description d.schedule →
    (f : FrameDeclaration) → s.framing ≡ Some f → (packets : List FramedPacket) → CutsUnits d s f units packets → (x : ℕ) (left : List ℕ) →
    NoneLeavesEarly s.rx (packets_on s.pid (run_bytes content 0 n)) left → framed_fullness d.description.rate s.rx x f.frame packets left ≤ s.main
frames_room d k s units content n is alone kept promised f some packets cut x left late =
    let own = owned d.schedule (StreamItem k) in
    let pes : List PesPacket = timed_pes_packets s.stream_id d.description.base0 units in
    let keeps : KeepsDeclaration (declaration s) pes = record { spaced = kept.spaced; sized = kept.sized; allowed = kept.allowed } in
    let sent : packets_on s.pid (run_bytes content 0 n) ≡ run_packets own d.description.rate (declaration s) pes n =
    (carried_law (owned_stream d k s) units content n alone).packets in
    promised.frames k s f packets is some cut.declared cut.followed (subst (λ (us : List PesPacket). KeepsDeclaration (declaration s) us) (sym cut.same) keeps) n x left
    (subst (λ (us : List PesPacket). NoneLeavesEarly s.rx (run_packets own d.description.rate (declaration s) us n) left) (sym cut.same)
    (subst (λ (ps : List Packet). NoneLeavesEarly s.rx ps left) sent late))

-- The packets of a stream before its buffers begin, and from then on

record RunSent (d : Scheduled) (s : DescribedStream) (bytes : List ℕ) (before : List (List ℕ)) (e : EntryState) : Type 0 where
  front : List ℕ
  back : List ℕ
  late : NoneLeavesEarly s.rx (packets_on s.pid bytes) (front ++ back)
  many : length front ≡ length (payloads_from s.pid before)
  left : payload_left d.description.rate e.held.parts ≡ back
  rate : e.held.rate ≡ d.description.rate

run_sent : (d : Scheduled) (units : ℕ → List AccessUnit) (slots : ℕ) (request : RequestView) (e : EntryState) (k : ℕ) → IsInRange d.description →
    Promised d.description d.schedule → UnitsKept d units → slots ≤ most_packets → (viewed : IsViewedAs d request k e) →
    (whole : IsWhole request d.description.rate (cut_packets (run_bytes (content_at d units) 0 slots)) e) →
    RunSent d viewed.stream (run_bytes (content_at d units) 0 slots) whole.begun.before e
run_sent d units slots request e k ranges promised kept few viewed whole =
    let rate : ℕ = d.description.rate in
    let bytes : List ℕ = run_bytes (content_at d units) 0 slots in
    let s : DescribedStream = viewed.stream in
    let l : OwnedStream = owned_stream d k s in
    let before : List (List ℕ) = whole.begun.before in
    let rest : List (List ℕ) = whole.begun.first ∷ whole.begun.later in
    let ps : List Arriving = stream_packets request e before rest in
    let v = run_viewed d units slots request e k ranges promised kept few viewed whole in
    let us : List AccessUnit = cut_senders (cuts_of l (units k)) in
    let es : List Entry = entries_from s.pid 0 before in
    let fs : List Entry = entries_from s.pid (length before) rest in
    let front : List Packet = map entry_packet es in
    let back : List Packet = map entry_packet fs in
    let two : map entry_packet (entries_from s.pid 0 (cut_packets bytes)) ≡ front ++ back =
    ap (λ (xs : List Entry). map entry_packet xs) v.entries ∙ map-append entry_packet es fs in
    let on : packets_on s.pid bytes ≡ front ++ back = ap (λ (xs : List Entry). map entry_packet xs) (pid_entries s.pid bytes) ∙ two in
    let whole_small = sizes_below d.description.base0 v.sent.first None (entries_from s.pid 0 (cut_packets bytes)) us v.sent.sent in
    let both = small_parts front back (subst (λ (xs : List Packet). All (λ p. p.size ≤ 188) xs) two whole_small) in
    let front_left : List ℕ = pes_left rate s.rx 0 front in
    let back_left : List ℕ = pes_left rate s.rx 0 back in
    let listed : front ≡ packets_from s.pid 0 before = packets_entries s.pid 0 before in
    record {
      front = front_left;
      back = back_left;
      late = subst (λ (xs : List Packet). NoneLeavesEarly s.rx xs (front_left ++ back_left)) (sym on)
          (none_leaves_early_law.joined s.rx front back front_left back_left (none_leaves_early_law.model rate s.rx 0 front both.0)
          (none_leaves_early_law.model rate s.rx 0 back both.1));
      many = many_left rate s.rx 0 front both.0 ∙ total_sum front ∙ ap (λ (xs : List Packet). sum_by (λ p. p.size) xs) listed ∙ sizes_same s.pid 0 before;
      left = ap (λ (g : Held). payload_left rate g.parts) whole.held
          ∙ payload_all rate e.held.rx e.held.main.size (known_at_begin (followed request e) before).index ps (drop (length es) us) v.begin.come v.begin.follows
          ∙ ap₂ (λ (r : ℕ) (qs : List Packet). pes_left rate r 0 qs) viewed.rx v.begin.packets;
      rate = ap (λ (g : Held). g.rate) whole.held ∙ rate_each (empty rate e.held.rx e.held.main.size) (AtRate rate) ps;
    }

-- The laws of a run in a view by access units

pub run_frames_law : RunFramesLaw
run_frames_law d units slots request place e k framing packets f ranges promised kept few viewed whole there some cut framed seen =
    let rate : ℕ = d.description.rate in
    let bytes : List ℕ = run_bytes (content_at d units) 0 slots in
    let chunks : List (List ℕ) = cut_packets bytes in
    let s : DescribedStream = viewed.stream in
    let v = run_viewed d units slots request e k ranges promised kept few viewed whole in
    let sent = run_sent d units slots request e k ranges promised kept few viewed whole in
    let lengths : length chunks ≡ slots =
    ap (λ (xs : List (List ℕ)). length xs) whole.begun.split ∙ length-append whole.begun.before (whole.begun.first ∷ whole.begun.later) ∙ v.lengths in
    let fits = run_fits request rate chunks place e f viewed.arrival (omega (arith, lengths, few)) (packet_sizes_are bytes) there framed in
    let left : payload_left rate f.held.parts ≡ sent.back = fits.together.left ∙ sent.left in
    let all : List ℕ = gone_cut rate s.rx framing.frame packets in
    let within : (x : ℕ) → main_fullness rate f.held.parts x ≤ s.main =
    λ x.
    let in_view : main_fullness rate f.held.parts x ≡ bytes_held x (gone_seen f.held.parts) sent.back =
    view_held rate x f.held.parts ∙ ap (λ (ds : List ℕ). bytes_held x (gone_seen f.held.parts) ds) left in
    let by_cut = held_by x (gone_seen f.held.parts) (drop (length (payloads_from s.pid whole.begun.before)) all) sent.back seen.gone in
    let same : bytes_held x (drop (length (payloads_from s.pid whole.begun.before)) all) sent.back ≡ bytes_held x (drop (length sent.front) all) sent.back =
    ap (λ (n : ℕ). bytes_held x (drop n all) sent.back) (sym sent.many) in
    let more = held_later x all sent.front sent.back in
    let is = cut_held rate s.rx x framing.frame packets (sent.front ++ sent.back) seen.whole in
    let room : framed_fullness rate s.rx x framing.frame packets (sent.front ++ sent.back) ≤ s.main =
    frames_room d k s (units k) (content_at d units) slots viewed.there (stream_alone d units k s ranges (contents_fit d units ranges kept) viewed.there)
    (kept.kept k s viewed.there)
    promised framing some packets cut x (sent.front ++ sent.back) sent.late in
    omega (arith, in_view, by_cut, same, more, is, room) in
    let rate_is : f.held.rate ≡ rate = fits.together.alike.rate ∙ sent.rate in
    let size_is : f.held.main.size ≡ s.main = fits.together.alike.size ∙ viewed.size in
    let here : (x : ℕ) → main_fullness f.held.rate f.held.parts x ≤ f.held.main.size =
    λ x. omega (arith, within x, size_is, ap (λ (r : ℕ). main_fullness r f.held.parts x) rate_is) in
    let most : main_most f.held ≤ f.held.main.size =
    greatest_below (main_fullness f.held.rate f.held.parts) f.held.main.size (payload_left f.held.rate f.held.parts) here in
    record { most = most; none_ended = fits.calm.none most; none_under_way = fits.calm.quiet most }

pub job_frames_law : JobFramesLaw
job_frames_law d units slots request place e k framing packets f ranges promised none few viewed =
    let each : ℕ → List AccessUnit = λ j. units_of j units in
    let same : run_bytes (content_at d each) 0 slots ≡ output_of false d (job_history units slots) = sym (output_bytes (content_at d each) 0 slots) in
    subst (λ (bytes : List ℕ). (whole : IsWhole request d.description.rate (cut_packets bytes) e) →
    slice_get (after_all (start request) (cut_packets bytes)).table.entries place ≡ Some e → viewed.stream.framing ≡ Some framing →
    CutsUnits d viewed.stream framing (units_of k units) packets → e.framed ≡ Some f →
    SeenAs d.description.rate viewed.stream framing packets whole.begun.before f → NoFrameExcess f) same
    (run_frames_law d each slots request place e k framing packets f ranges promised (job_kept d units ranges none) few viewed)
