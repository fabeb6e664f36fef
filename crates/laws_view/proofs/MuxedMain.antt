-- The main buffers of a run that a multiplexer wrote, in a view
use Rattle.std.proofs.Common.{◌≡◌, ◌∙◌, sym, ℕ, ◌+◌, ◌/◌, ◌≤◌, false, List, [], ◌∷◌, ◌++◌, length, map, take, drop, None, refl, ap, subst, arith, All}
use Rattle.std.proofs.lemmas.List.{length-append, map-append}
use Rattle.std.proofs.lemmas.List.Elements.{All-cons, All-head, All-nil, All-tail}
use Rattle.ts_packet.specs.PidList.{Entry, cut_packets}
use Rattle.pes_packet.specs.AccessUnits.{AccessUnit}
use Rattle.pes_packet.specs.Units.{units_of}
use Rattle.tstd.specs.PidPackets.{packets_from}
use Rattle.slot_contents.specs.Contents.{run_bytes}
use Rattle.description_parts.specs.Described.{DescribedStream}
use Rattle.description_parts.specs.Ranges.{IsInRange}
use Rattle.slot_plan.specs.Promised.{Promised}
use Rattle.unit_timing.specs.MainBuffer.{mb_fullness}
use Rattle.unit_timing.specs.Schedule.{Packet}
use Rattle.unit_timing.specs.Transport.{NoneLeavesEarly, of_payloads, pes_left}
use Rattle.unit_timing.proofs.NotEarly.{none_leaves_early_law}
use Rattle.unit_queue.specs.OwnedStreams.{OwnedStream}
use Rattle.tstd.specs.Carried.{packets_on, timed_pes_packets}
use Rattle.mux_core.specs.Scheduled.{Scheduled}
use Rattle.mux_core.specs.Headline.{UnitsKept}
use Rattle.mux_core.specs.Histories.{content_at, owned_stream}
use Rattle.mux_core.specs.WholeJobs.{job_history, output_of}
use Rattle.mux_core.proofs.JobWriting.{output_bytes}
use Rattle.mux_core.proofs.StreamsAlone.{stream_alone}
use Rattle.mux_core.proofs.StreamsKept.{main_kept}
use Rattle.mux_core.proofs.Whole.{contents_fit, headline}
use Rattle.laws_run.proofs.MonitoredJobs.{job_kept}
use Rattle.monitor.proofs.FoundWhole.{packet_count}
use Rattle.arrival.specs.declared.arrival.Arrival.TheVariants.{AtRate}
use Rattle.tstd_rows.specs.History.{main_fullness}
use Rattle.tstd_rows.specs.Held.{Held, empty, main_most}
use Rattle.ts_watch.specs.Choices.{RequestView}
use Rattle.es_view.specs.Entries.{EntryState}
use Rattle.laws_view.specs.StreamPackets.{Before, Followed, after_each, clocks_seen, most_packets}
use Rattle.laws_view.specs.CarriedStreams.{CutUnit, cut_pieces, cut_senders, cut_units}
use Rattle.laws_view.specs.WholeStreams.{IsWhole, followed, known_at_begin, nothing_known, stream_packets}
use Rattle.laws_view.specs.ViewedRuns.{FromTheFirst, IsViewedAs, JobMainLaw, NoMainExcess, RunMainLaw}
use Rattle.laws_view.proofs.LaterPackets.{peak_le}
use Rattle.laws_view.proofs.MainExcesses.{no_main_excess_law}
use Rattle.laws_view.proofs.ProgramClocks.{run_clock}
use Rattle.laws_view.proofs.KeptBytes.{Follows}
use Rattle.laws_view.proofs.SentBytes.{packet_sizes, sizes_of}
use Rattle.laws_view.proofs.SentUnits.{AllSent, entry_packet, later_sent, many_packets, sizes_below}
use Rattle.laws_view.proofs.ClockAhead.{ClockIs, entries_from}
use Rattle.laws_view.proofs.FollowedUnits.{Clocked}
use Rattle.laws_view.proofs.RunClocks.{IsRun, Run, Timed, clocked, later_timed}
use Rattle.laws_view.proofs.PidEntries.{clock_all, entries_two, packets_entries, pid_entries}
use Rattle.laws_view.proofs.CarriedMain.{FromBegin, from_begin, later_within, model_of}
use Rattle.laws_view.proofs.Whole.{index_all}
use Rattle.laws_view.proofs.RunUnits.{StreamSent, cuts_of, same_units, stream_sent}

-- The view of a run

none_listed : (es : List Entry) → map entry_packet es ≡ [] → es ≡ []
none_listed [] h = refl
none_listed (e ∷ es) h = absurd (let no : ⊥ = cc in no)

-- The clock references for the units of a stream in a view
run_clocks : (d : Scheduled) (units : ℕ → List AccessUnit) (slots : ℕ) (request : RequestView) (e : EntryState) (pid : ℕ) → IsInRange d.description →
    Promised d.description d.schedule →
    UnitsKept d units → slots ≤ most_packets → (before rest : List (List ℕ)) → request.options.arrival ≡ AtRate d.description.rate → e.pid ≡ pid →
    length before + length rest ≡ slots →
    cut_packets (run_bytes (content_at d units) 0 slots) ≡ before ++ rest → (us : List AccessUnit) →
    Timed d.description.rate (entries_from pid (length before) rest) us →
    Clocked d.description.rate d.description.base0 (entries_from pid (length before) rest) us
    (clocks_seen (followed request e) (known_at_begin (followed request e) before) rest)
run_clocks d units slots request e pid ranges promised kept few before rest at_rate same lengths split us timed =
    let rate : ℕ = d.description.rate in
    let base0 : ℕ = d.description.base0 in
    let f : Followed = followed request e in
    let b : Before = known_at_begin f before in
    let of = run_clock d units slots request.options e.clock_pid ranges promised kept in
    let r : Run = record { rate = rate; base0 = base0; limit = of.0; slots = slots } in
    let run : IsRun r f.options = record { arrival = at_rate; least = ranges.least_rate; limit = of.1.0; slots = few } in
    let index : b.index ≡ length before = omega (arith, index_all f nothing_known before) in
    let clock : ClockIs request.options rate base0 of.0 slots e.clock_pid 0 None (entries_from e.clock_pid 0 (before ++ rest)) =
    subst (λ (xs : List (List ℕ)). ClockIs request.options rate base0 of.0 slots e.clock_pid 0 None (entries_from e.clock_pid 0 xs)) split of.1.1 in
    let clock_now = clock_all r f nothing_known before rest run (omega (arith, lengths)) clock in
    let all : entries_from pid (length before) rest ≡ entries_from f.pid b.index rest =
    ap (λ (i : ℕ). entries_from pid i rest) (sym index) ∙ ap (λ (q : ℕ). entries_from q b.index rest) (sym same) in
    subst (λ (es : List Entry). Clocked rate base0 es us (clocks_seen f b rest)) (sym all)
    (clocked r f b rest us run (omega (arith, index, lengths)) (subst (λ (es : List Entry). Timed rate es us) all timed) clock_now)

-- A stream of a run, and a view of it
pub record RunViewed (d : Scheduled) (units : List AccessUnit) (slots : ℕ) (bytes : List ℕ) (k : ℕ) (s : DescribedStream) (request : RequestView)
    (e : EntryState) (before rest : List (List ℕ)) : Type 0 where
  pub sent : StreamSent d s k units (cut_packets bytes)
  pub lengths : length before + length rest ≡ slots
  pub entries : entries_from s.pid 0 (cut_packets bytes) ≡ entries_from s.pid 0 before ++ entries_from s.pid (length before) rest
  pub clocks : (us : List AccessUnit) → Timed d.description.rate (entries_from s.pid (length before) rest) us →
      Clocked d.description.rate d.description.base0 (entries_from s.pid (length before) rest) us
      (clocks_seen (followed request e) (known_at_begin (followed request e) before) rest)
  -- The packets from the begin of the buffers on
  pub begin : FromBegin d.description.rate (drop (length (entries_from s.pid 0 before)) (cut_senders (cuts_of (owned_stream d k s) units))) request e s.pid
      before rest

pub run_viewed : (d : Scheduled) (units : ℕ → List AccessUnit) (slots : ℕ) (request : RequestView) (e : EntryState) (k : ℕ) → IsInRange d.description →
    Promised d.description d.schedule →
    UnitsKept d units → slots ≤ most_packets → (viewed : IsViewedAs d request k e) →
    (whole : IsWhole request d.description.rate (cut_packets (run_bytes (content_at d units) 0 slots)) e) →
    RunViewed d (units k) slots (run_bytes (content_at d units) 0 slots) k viewed.stream request e whole.begun.before (whole.begun.first ∷ whole.begun.later)
run_viewed d units slots request e k ranges promised kept few viewed whole =
    let rate : ℕ = d.description.rate in
    let base0 : ℕ = d.description.base0 in
    let bytes : List ℕ = run_bytes (content_at d units) 0 slots in
    let chunks : List (List ℕ) = cut_packets bytes in
    let h = headline d units slots ranges promised kept in
    let s : DescribedStream = viewed.stream in
    let us : List AccessUnit = cut_senders (cuts_of (owned_stream d k s) (units k)) in
    let many : length chunks ≡ slots = omega (arith, packet_count (length bytes / 188) bytes, h.size) in
    let before : List (List ℕ) = whole.begun.before in
    let rest : List (List ℕ) = whole.begun.first ∷ whole.begun.later in
    let split : chunks ≡ whole.begun.before ++ rest = whole.begun.split in
    let lengths : length whole.begun.before + length rest ≡ slots = sym (length-append whole.begun.before rest)
    ∙ ap (λ (xs : List (List ℕ)). length xs) (sym split) ∙ many in
    let sent = stream_sent d s k (units k) slots bytes viewed.there ranges (kept.parameters k s viewed.there) (kept.kept k s viewed.there)
    (h.streams k s viewed.there) (omega (arith, many)) in
    let es : List Entry = entries_from s.pid 0 whole.begun.before in
    let fs : List Entry = entries_from s.pid (length whole.begun.before) rest in
    let entries : entries_from s.pid 0 chunks ≡ es ++ fs =
    ap (λ (xs : List (List ℕ)). entries_from s.pid 0 xs) split ∙ entries_two s.pid 0 whole.begun.before rest
    ∙ (let place : 0 + length whole.begun.before ≡ length whole.begun.before =
    omega arith in ap (λ (i : ℕ). entries_from s.pid 0 whole.begun.before ++ entries_from s.pid i rest) place) in
    let later = later_sent base0 sent.first None es fs us (subst (λ (xs : List Entry). AllSent base0 sent.first None xs us) entries sent.sent) in
    let timed = later_timed rate es fs us (subst (λ (xs : List Entry). Timed rate xs us) entries sent.timed) in
    let clocks = run_clocks d units slots request e s.pid ranges promised kept few whole.begun.before rest viewed.arrival viewed.pid lengths split in
    record {
      sent = sent;
      lengths = lengths;
      entries = entries;
      clocks = clocks;
      begin = from_begin rate base0 (drop (length es) us) request e s.pid later.number later.last whole.begun.before rest viewed.arrival
          (omega (arith, lengths, few)) viewed.pid later.sent
          (clocks (drop (length es) us) timed);
    }

-- If no packet of the PID comes before the buffers begin, the later packets are all its packets.
pub none_entries : (pid viewed : ℕ) (before rest chunks : List (List ℕ)) → viewed ≡ pid → FromTheFirst viewed before →
    entries_from pid 0 chunks ≡ entries_from pid 0 before ++ entries_from pid (length before) rest →
    entries_from pid 0 chunks ≡ entries_from pid (length before) rest
none_entries pid viewed before rest chunks same first all =
    let none : entries_from pid 0 before ≡ [] =
    none_listed (entries_from pid 0 before) (packets_entries pid 0 before ∙ ap (λ (q : ℕ). packets_from q 0 before) (sym same) ∙ first) in
    all ∙ ap (λ (es : List Entry). es ++ entries_from pid (length before) rest) none

-- For any stream: its packets before and after its buffers begin. At each moment the view's main buffer holds no more than a model's whose transport buffer is
-- empty when the buffers begin.
record RunLater (d : Scheduled) (s : DescribedStream) (k : ℕ) (us : List AccessUnit) (bytes : List ℕ) (e : EntryState) (front : List Packet) : Type 0 where
  back : List Packet
  on : packets_on s.pid bytes ≡ front ++ back
  late : NoneLeavesEarly s.rx (packets_on s.pid bytes) (pes_left d.description.rate s.rx 0 front ++ pes_left d.description.rate s.rx 0 back)
  fuller : (x : ℕ) → main_fullness d.description.rate e.held.parts x
      ≤ mb_fullness d.description.rate s.rx x (timed_pes_packets s.stream_id d.description.base0 us)
      (pes_left d.description.rate s.rx 0 front ++ pes_left d.description.rate s.rx 0 back)

run_later : (d : Scheduled) (units : ℕ → List AccessUnit) (slots : ℕ) (request : RequestView) (e : EntryState) (k : ℕ) → IsInRange d.description →
    Promised d.description d.schedule →
    UnitsKept d units → slots ≤ most_packets → (viewed : IsViewedAs d request k e) →
    (whole : IsWhole request d.description.rate (cut_packets (run_bytes (content_at d units) 0 slots)) e) →
    RunLater d viewed.stream k (units k) (run_bytes (content_at d units) 0 slots) e (map entry_packet (entries_from viewed.stream.pid 0 whole.begun.before))
run_later d units slots request e k ranges promised kept few viewed whole =
    let rate : ℕ = d.description.rate in
    let base0 : ℕ = d.description.base0 in
    let bytes : List ℕ = run_bytes (content_at d units) 0 slots in
    let s : DescribedStream = viewed.stream in
    let l : OwnedStream = owned_stream d k s in
    let us : List AccessUnit = units k in
    let rest : List (List ℕ) = whole.begun.first ∷ whole.begun.later in
    let v = run_viewed d units slots request e k ranges promised kept few viewed whole in
    let cuts : List CutUnit = cuts_of l us in
    let es : List Entry = entries_from s.pid 0 whole.begun.before in
    let fs : List Entry = entries_from s.pid (length whole.begun.before) rest in
    let front : List Packet = map entry_packet es in
    let back : List Packet = map entry_packet fs in
    let two : map entry_packet (entries_from s.pid 0 (cut_packets bytes)) ≡ front ++ back = ap (λ (xs : List Entry). map entry_packet xs) v.entries
    ∙ map-append entry_packet es fs in
    let on : packets_on s.pid bytes ≡ front ++ back = ap (λ (xs : List Entry). map entry_packet xs) (pid_entries s.pid bytes) ∙ two in
    let sizes : packet_sizes (front ++ back) ≡ take (length (front ++ back)) (sizes_of (cut_pieces cuts)) =
    subst (λ (ps : List Packet). packet_sizes ps ≡ take (length ps) (sizes_of (cut_pieces cuts))) two v.sent.sizes in
    let whole_small = sizes_below base0 v.sent.first None (entries_from s.pid 0 (cut_packets bytes)) (cut_senders cuts) v.sent.sent in
    let both = small_parts front back (subst (λ (ps : List Packet). All (λ p. p.size ≤ 188) ps) two whole_small) in
    let follows : Follows rate e.held.rx None (stream_packets request e whole.begun.before rest) (drop (length front) (cut_senders cuts)) =
    subst (λ (n : ℕ). Follows rate e.held.rx None (stream_packets request e whole.begun.before rest) (drop n (cut_senders cuts))) (sym (many_packets es))
    v.begin.follows in
    record {
      back = back;
      on = on;
      late = subst (λ (ps : List Packet). NoneLeavesEarly s.rx ps (pes_left rate s.rx 0 front ++ pes_left rate s.rx 0 back)) (sym on)
          (none_leaves_early_law.joined s.rx front back (pes_left rate s.rx 0 front) (pes_left rate s.rx 0 back)
          (none_leaves_early_law.model rate s.rx 0 front both.0)
          (none_leaves_early_law.model rate s.rx 0 back both.1));
      fuller = λ x.
          let in_view : main_fullness rate e.held.parts x ≡ main_fullness rate
          (after_each (empty rate e.held.rx e.held.main.size) (AtRate rate) (stream_packets request e whole.begun.before rest)).parts x =
          ap (λ (h : Held). main_fullness rate h.parts x) whole.held in
          let within = later_within rate e.held.rx e.held.main.size (known_at_begin (followed request e) whole.begun.before).index x s.stream_id base0 cuts
          (stream_packets request e whole.begun.before rest)
          front back v.begin.come follows v.begin.packets both.0 both.1 v.sent.cut sizes in
          let same : mb_fullness rate e.held.rx x (timed_pes_packets s.stream_id base0 (cut_units cuts))
          (pes_left rate e.held.rx 0 front ++ pes_left rate e.held.rx 0 back)
          ≡ mb_fullness rate s.rx x (timed_pes_packets s.stream_id base0 us) (pes_left rate s.rx 0 front ++ pes_left rate s.rx 0 back) =
          ap (λ (r : ℕ). mb_fullness rate r x (timed_pes_packets s.stream_id base0 (cut_units cuts)) (pes_left rate r 0 front ++ pes_left rate r 0 back))
          viewed.rx
          ∙ ap (λ (vs : List AccessUnit). mb_fullness rate s.rx x (timed_pes_packets s.stream_id base0 vs)
          (pes_left rate s.rx 0 front ++ pes_left rate s.rx 0 back)) (same_units l us) in
          omega (arith, in_view, within, same);
    }
  where
    small_parts : (xs ys : List Packet) → All (λ p. p.size ≤ 188) (xs ++ ys) → All (λ p. p.size ≤ 188) xs × All (λ p. p.size ≤ 188) ys
    small_parts [] ys all = (All-nil (λ (p : Packet). p.size ≤ 188), all)
    small_parts (x ∷ xs) ys all =
        let rest = small_parts xs ys (All-tail (λ p. p.size ≤ 188) x (xs ++ ys) all) in
        (All-cons (λ p. p.size ≤ 188) x xs (All-head (λ p. p.size ≤ 188) x (xs ++ ys) all) rest.0, rest.1)

-- Without packets no byte leaves a transport buffer.
nothing_left : (rate r : ℕ) → pes_left rate r 0 [] ≡ []
unfolding of_payloads
nothing_left rate r = refl

pub run_main_law : RunMainLaw
run_main_law d units slots request e k ranges promised kept few viewed whole =
    let rate : ℕ = d.description.rate in
    let s : DescribedStream = viewed.stream in
    let bytes : List ℕ = run_bytes (content_at d units) 0 slots in
    let us : List AccessUnit = units k in
    let es : List Entry = entries_from s.pid 0 whole.begun.before in
    let v = run_later d units slots request e k ranges promised kept few viewed whole in
    let x : ℕ = whole.lines.main.moment in
    let fits : mb_fullness rate s.rx x (timed_pes_packets s.stream_id d.description.base0 us)
    (pes_left rate s.rx 0 (map entry_packet es) ++ pes_left rate s.rx 0 v.back) ≤ s.main =
    main_kept d k s us (content_at d units) slots viewed.there (stream_alone d units k s ranges (contents_fit d units ranges kept) viewed.there)
    (kept.kept k s viewed.there) promised x
    (pes_left rate s.rx 0 (map entry_packet es) ++ pes_left rate s.rx 0 v.back) v.late in
    let within : main_most e.held ≤ e.held.main.size = omega (arith, v.fuller x, fits, whole.lines.main.reached, viewed.size) in
    let quiet = no_main_excess_law request rate (cut_packets bytes) e whole within in
    let model : FromTheFirst e.pid whole.begun.before → (y : ℕ) →
    mb_fullness rate s.rx y (timed_pes_packets s.stream_id d.description.base0 us) (pes_left rate s.rx 0 (map entry_packet es) ++ pes_left rate s.rx 0 v.back) ≡
    model_of rate d.description.base0 s us bytes y =
    λ first y.
    let none : map entry_packet es ≡ [] = packets_entries s.pid 0 whole.begun.before ∙ ap (λ (q : ℕ). packets_from q 0 whole.begun.before) (sym viewed.pid)
    ∙ first in
    let back : packets_on s.pid bytes ≡ v.back = v.on ∙ ap (λ (ps : List Packet). ps ++ v.back) none in
    ap (λ (ps : List Packet). mb_fullness rate s.rx y (timed_pes_packets s.stream_id d.description.base0 us)
    (pes_left rate s.rx 0 ps ++ pes_left rate s.rx 0 v.back)) none
    ∙ ap (λ (ds : List ℕ). mb_fullness rate s.rx y (timed_pes_packets s.stream_id d.description.base0 us) (ds ++ pes_left rate s.rx 0 v.back))
    (nothing_left rate s.rx)
    ∙ ap (λ (ps : List Packet). mb_fullness rate s.rx y (timed_pes_packets s.stream_id d.description.base0 us) (pes_left rate s.rx 0 ps)) (sym back) in
    record {
      most = within;
      none_ended = quiet.0;
      none_under_way = quiet.1;
      measured = λ first f full.
          peak_le (main_fullness rate e.held.parts) (model_of rate d.description.base0 s us bytes) (main_most e.held) f.main
          (λ y. omega (arith, v.fuller y, model first y)) whole.lines.main full.main;
    }

pub job_main_law : JobMainLaw
job_main_law d units slots request e k ranges promised none few viewed =
    let each : ℕ → List AccessUnit = λ j. units_of j units in
    let same : run_bytes (content_at d each) 0 slots ≡ output_of false d (job_history units slots) = sym (output_bytes (content_at d each) 0 slots) in
    subst (λ (bytes : List ℕ). (whole : IsWhole request d.description.rate (cut_packets bytes) e) →
    NoMainExcess d request (units_of k units) bytes viewed.stream e whole) same
    (run_main_law d each slots request e k ranges promised (job_kept d units ranges none) few viewed)
