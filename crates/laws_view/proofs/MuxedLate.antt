-- The units of a run that a multiplexer wrote, in a view
use Rattle.std.proofs.Common.{◌≡◌, ◌∙◌, sym, ℕ, zero, suc, ◌+◌, ◌*◌, ◌≤◌, max, false, cond, Bool, true, List, [], ◌∷◌, ◌++◌, length, map, take, drop, replicate}
use Rattle.std.proofs.Common.{Option, Some, None, refl, ap, subst, arith, All}
use Rattle.std.specs.Prelude.{count_by, slice_get}
use Rattle.std.proofs.Math.Nat.{mul-le-mul_right}
use Rattle.std.proofs.lemmas.List.{append_assoc, map-append}
use Rattle.std.proofs.lemmas.List.Elements.{All-append, All-cons, All-head, All-nil, All-replicate, All-tail, All-weaker}
use Rattle.clock27.specs.Departure.{last_left}
use Rattle.clock27.specs.Units.{slot_units_at_1bps}
use Rattle.own_slots.specs.Slots.{own_before, own_slots}
use Rattle.ts_packet.specs.PidList.{Entry, cut_packets}
use Rattle.pes_packet.specs.AccessUnits.{AccessUnit}
use Rattle.pes_packet.specs.Units.{units_of}
use Rattle.slot_contents.specs.Contents.{run_bytes}
use Rattle.description_parts.specs.Described.{DescribedStream}
use Rattle.description_parts.specs.Ranges.{IsInRange}
use Rattle.slot_plan.specs.Promised.{Promised, declaration}
use Rattle.slot_plan.specs.declared.slot.Item.TheVariants.{Stream as StreamItem}
use Rattle.slot_plan.specs.Schedule.{owned}
use Rattle.unit_timing.specs.Arrived.{AllLeft}
use Rattle.unit_timing.specs.PesPacket.{PesPacket}
use Rattle.unit_timing.specs.Plans.{KeepsDeclaration}
use Rattle.unit_timing.specs.Schedule.{Packet, packet_in, packets_by_slot, packets_in_slots, payload_size_at}
use Rattle.unit_timing.specs.Transport.{pes_left}
use Rattle.unit_timing.proofs.ScheduleLemmas.{slotwise_law}
use Rattle.unit_queue.specs.OwnedStreams.{OwnedStream, packet_count, timed}
use Rattle.unit_queue.specs.Payloads.{all_senders}
use Rattle.tstd.specs.Carried.{timed_pes_packets}
use Rattle.unit_queue.proofs.CarriedBytes.{carried_law}
use Rattle.mux_core.specs.Scheduled.{Scheduled}
use Rattle.mux_core.specs.Headline.{UnitsKept}
use Rattle.mux_core.specs.Histories.{content_at, owned_stream}
use Rattle.mux_core.specs.WholeJobs.{job_history, output_of}
use Rattle.mux_core.proofs.JobWriting.{output_bytes}
use Rattle.mux_core.proofs.StreamsAlone.{stream_alone}
use Rattle.mux_core.proofs.Whole.{contents_fit}
use Rattle.laws_run.proofs.MonitoredJobs.{job_kept}
use Rattle.arrival.specs.declared.arrival.Arrival.TheVariants.{AtRate}
use Rattle.tstd_rows.specs.History.{arrivals_of, unit_of, until_of}
use Rattle.tstd_rows.specs.declared.arriving.Arriving.{Arriving}
use Rattle.tstd_rows.specs.Held.{Held, empty}
use Rattle.es_events.specs.Tallies.{is_late}
use Rattle.laws_view.specs.StreamPackets.{after_each}
use Rattle.laws_view.specs.CarriedStreams.{CutUnit, IsCut, cut_pieces, cut_senders, cut_units}
use Rattle.laws_view.specs.StreamUnits.{all_units, units_ended}
use Rattle.laws_view.specs.WholeStreams.{IsWhole, followed, known_at_begin, stream_packets}
use Rattle.laws_view.specs.ViewedRuns.{JobLateLaw, NoLateUnit, RunLateLaw}
use Rattle.laws_view.proofs.MainBytes.{timed_packet, until_at}
use Rattle.laws_view.proofs.EnteredBytes.{ComeFrom}
use Rattle.laws_view.proofs.KeptBytes.{Follows}
use Rattle.laws_view.proofs.SentBytes.{packet_sizes, sizes_of, timely_units}
use Rattle.laws_view.proofs.SentUnits.{entry_packet, many_packets, sizes_below}
use Rattle.laws_view.proofs.ClockAhead.{entries_from}
use Rattle.laws_view.proofs.PidEntries.{pid_entries}
use Rattle.laws_view.proofs.UnitsInTime.{LeaveInTime, UnitFine, fine_each, leave_last, leave_timely}
use Rattle.laws_view.proofs.RunUnits.{cuts_of, same_senders, same_units}
use Rattle.laws_view.proofs.MuxedMain.{run_viewed}

-- A run that continues for m more slots

slots_on : (own : ℕ → Bool) (s n m : ℕ) → own_slots own s (n + m) ≡ own_slots own s n ++ own_slots own (s + n) m
unfolding own_slots
slots_on own s zero m =
    let none : 0 + m ≡ m = omega arith in
    let same : s ≡ s + 0 = omega arith in
    ap (λ (k : ℕ). own_slots own s k) none ∙ ap (λ (i : ℕ). own_slots own i m) same
slots_on own s (suc n) m =
    let next : suc s + n ≡ s + suc n = omega arith in
    let rest : own_slots own (suc s) (n + m) ≡ own_slots own (suc s) n ++ own_slots own (s + suc n) m =
    slots_on own (suc s) n m ∙ ap (λ (i : ℕ). own_slots own (suc s) n ++ own_slots own i m) next in
    let count : suc n + m ≡ suc (n + m) = omega arith in
    rw (count, rest) (by (own s) (own_slots own (suc s) n) (own_slots own (s + suc n) m))
  where
    by : (b : Bool) (xs ys : List ℕ) → cond b (s ∷ (xs ++ ys)) (xs ++ ys) ≡ cond b (s ∷ xs) xs ++ ys
    by true xs ys = refl
    by false xs ys = refl

packets_on_more : (own : ℕ → Bool) (c : ℕ → Option ℕ) (xs ys : List ℕ) → packets_by_slot own c (xs ++ ys) ≡ packets_by_slot own c xs ++ packets_by_slot own c ys
unfolding packets_by_slot
packets_on_more own c [] ys = refl
packets_on_more own c (x ∷ xs) ys =
    ap (λ (l : List Packet). packet_in x (c (own_before own x)) ++ l) (packets_on_more own c xs ys)
    ∙ sym (append_assoc (packet_in x (c (own_before own x))) (packets_by_slot own c xs) (packets_by_slot own c ys))

-- The packets of a longer run begin with the packets of its first slots.
pub packets_go_on : (own : ℕ → Bool) (rate lead n m : ℕ) (units : List PesPacket) → packets_in_slots own rate lead 0 units (own_slots own 0 (n + m))
    ≡ packets_in_slots own rate lead 0 units (own_slots own 0 n) ++ packets_by_slot own (payload_size_at own rate lead 0 units) (own_slots own (0 + n) m)
packets_go_on own rate lead n m units =
    let c : ℕ → Option ℕ = payload_size_at own rate lead 0 units in
    sym (slotwise_law own rate lead (n + m) units) ∙ ap (λ (l : List ℕ). packets_by_slot own c l) (slots_on own 0 n m)
    ∙ packets_on_more own c (own_slots own 0 n) (own_slots own (0 + n) m)
    ∙ ap (λ (l : List Packet). l ++ packets_by_slot own c (own_slots own (0 + n) m)) (slotwise_law own rate lead n units)

-- A run that is long enough for each unit to be due

unfoldable latest : List AccessUnit → ℕ
latest [] = 0
latest (u ∷ us) = max u.dts (latest us)

all_before : (us : List AccessUnit) (n : ℕ) → latest us ≤ n → All (λ u. u.dts ≤ n) us
unfolding latest
all_before [] n le = All-nil (λ (u : AccessUnit). u.dts ≤ n)
all_before (u ∷ us) n le = All-cons (λ u. u.dts ≤ n) u us (omega (arith, le)) (all_before us n (omega (arith, le)))

senders_before : (l : OwnedStream) (us : List AccessUnit) (n : ℕ) → All (λ u. u.dts ≤ n) us → All (λ u. u.dts ≤ n) (all_senders l us)
senders_before l [] n all = All-nil (λ (u : AccessUnit). u.dts ≤ n)
senders_before l (u ∷ us) n all =
    All-append (λ u. u.dts ≤ n) (replicate (packet_count l u) u) (all_senders l us)
    (All-replicate (λ u. u.dts ≤ n) (packet_count l u) u (All-head (λ u. u.dts ≤ n) u us all)) (senders_before l us n (All-tail (λ u. u.dts ≤ n) u us all))

due_all : (rate n m : ℕ) (us : List AccessUnit) → All (λ u. u.dts ≤ m) us → All (λ u. u.dts * rate ≤ (n + m * rate) * slot_units_at_1bps) us
due_all rate n m us all =
    All-weaker (λ u. u.dts ≤ m) (λ u. u.dts * rate ≤ (n + m * rate) * slot_units_at_1bps)
    (λ u le. let far : u.dts * rate ≤ m * rate = mul-le-mul_right rate le in omega (arith, far)) us all

-- Each packet of a stream leaves by the decoding time of its unit.
stream_in_time : (d : Scheduled) (units : ℕ → List AccessUnit) (slots k : ℕ) (s : DescribedStream) → IsInRange d.description →
    Promised d.description d.schedule → UnitsKept d units →
    slice_get d.description.streams k ≡ Some s → (es : List Entry) → es ≡ entries_from s.pid 0 (cut_packets (run_bytes (content_at d units) 0 slots)) →
    All (λ p. p.size ≤ 188) (map entry_packet es) →
    All (IsCut s.stream_id d.description.base0) (cuts_of (owned_stream d k s) (units k)) →
    packet_sizes (map entry_packet es) ≡ take (length (map entry_packet es)) (sizes_of (cut_pieces (cuts_of (owned_stream d k s) (units k)))) →
    LeaveInTime d.description.rate s.rx 0 (cut_senders (cuts_of (owned_stream d k s) (units k))) (map entry_packet es)
stream_in_time d units slots k s ranges promised kept is es same sized cut sizes =
    let rate : ℕ = d.description.rate in
    let l : OwnedStream = owned_stream d k s in
    let us : List AccessUnit = units k in
    let pes : List PesPacket = map (timed l) us in
    let own : ℕ → Bool = owned d.schedule (StreamItem k) in
    let fits = contents_fit d units ranges kept in
    let k_kept = kept.kept k s is in
    let keeps : KeepsDeclaration (declaration s) pes = record { spaced = k_kept.spaced; sized = k_kept.sized; allowed = k_kept.allowed } in
    let served = promised.streams k s pes is keeps in
    let carried = carried_law l us (content_at d units) slots (stream_alone d units k s ranges fits is) in
    let more : ℕ = latest us * rate in
    let qs : List Packet = map entry_packet es in
    let first : packets_in_slots own rate s.lead 0 pes (own_slots own 0 slots) ≡ qs =
    sym carried.packets ∙ ap (λ (xs : List Entry). map entry_packet xs) (pid_entries s.pid (run_bytes (content_at d units) 0 slots) ∙ sym same) in
    let later : List Packet = packets_by_slot own (payload_size_at own rate s.lead 0 pes) (own_slots own (0 + slots) more) in
    let on : packets_in_slots own rate s.lead 0 pes (own_slots own 0 (slots + more)) ≡ qs ++ later = packets_go_on own rate s.lead slots more pes
    ∙ ap (λ (ps : List Packet). ps ++ later) first in
    let all : AllLeft rate s.rx (slots + more) pes (pes_left rate s.rx 0 (qs ++ later)) =
    subst (λ (ps : List Packet). AllLeft rate s.rx (slots + more) pes (pes_left rate s.rx 0 ps)) on (served.arrived (slots + more)) in
    let cuts : List CutUnit = cuts_of l us in
    let all_too : AllLeft rate s.rx (slots + more) (timed_pes_packets s.stream_id d.description.base0 (cut_units cuts)) (pes_left rate s.rx 0 (qs ++ later)) =
    subst (λ (vs : List AccessUnit). AllLeft rate s.rx (slots + more) (timed_pes_packets s.stream_id d.description.base0 vs)
    (pes_left rate s.rx 0 (qs ++ later))) (sym (same_units l us)) all in
    let timely = timely_units rate s.rx (slots + more) s.stream_id d.description.base0 cuts qs (pes_left rate s.rx 0 (qs ++ later)) cut sizes all_too in
    let before : All (λ u. u.dts ≤ latest us) (cut_senders cuts) =
    subst (λ (vs : List AccessUnit). All (λ u. u.dts ≤ latest us) vs) (same_senders l us)
    (senders_before l us (latest us) (all_before us (latest us) (omega arith))) in
    leave_timely rate s.rx (slots + more) 0 (cut_senders cuts) qs later sized (due_all rate slots (latest us) (cut_senders cuts) before) timely

-- The view has no late unit.

view_fine : (rate rx size low : ℕ) (ps : List Arriving) (us : List AccessUnit) → ComeFrom low ps → Follows rate rx None ps us →
    LeaveInTime rate rx 0 us (map timed_packet ps) →
    count_by is_late (all_units rate (after_each (empty rate rx size) (AtRate rate) ps).parts) ≡ 0
unfolding arrivals_of last_left until_of until_at UnitFine unit_of units_ended
view_fine rate rx size low ps us come follows in_time = fine_each rate low (empty rate rx size) ps us None come (omega arith) refl follows refl in_time tt refl

pub run_late_law : RunLateLaw
run_late_law d units slots request e k ranges promised kept few viewed whole =
    let rate : ℕ = d.description.rate in
    let base0 : ℕ = d.description.base0 in
    let chunks : List (List ℕ) = cut_packets (run_bytes (content_at d units) 0 slots) in
    let s : DescribedStream = viewed.stream in
    let us : List AccessUnit = cut_senders (cuts_of (owned_stream d k s) (units k)) in
    let rest : List (List ℕ) = whole.begun.first ∷ whole.begun.later in
    let v = run_viewed d units slots request e k ranges promised kept few viewed whole in
    let es : List Entry = entries_from s.pid 0 whole.begun.before in
    let fs : List Entry = entries_from s.pid (length whole.begun.before) rest in
    let all = stream_in_time d units slots k s ranges promised kept viewed.there (entries_from s.pid 0 chunks) refl
    (sizes_below base0 v.sent.first None (entries_from s.pid 0 chunks) us v.sent.sent) v.sent.cut v.sent.sizes in
    let two : map entry_packet (entries_from s.pid 0 chunks) ≡ map entry_packet es ++ map entry_packet fs =
    ap (λ (xs : List Entry). map entry_packet xs) v.entries ∙ map-append entry_packet es fs in
    let last : LeaveInTime rate s.rx 0 (drop (length es) us) (map entry_packet fs) =
    subst (λ (n : ℕ). LeaveInTime rate s.rx 0 (drop n us) (map entry_packet fs)) (many_packets es)
    (leave_last rate s.rx 0 us (map entry_packet es) (map entry_packet fs) (subst (λ (ps : List Packet). LeaveInTime rate s.rx 0 us ps) two all)) in
    let in_time : LeaveInTime rate e.held.rx 0 (drop (length es) us) (map timed_packet (stream_packets request e whole.begun.before rest)) =
    subst (λ (r : ℕ). LeaveInTime rate r 0 (drop (length es) us) (map timed_packet (stream_packets request e whole.begun.before rest))) (sym viewed.rx)
    (subst (λ (ps : List Packet). LeaveInTime rate s.rx 0 (drop (length es) us) ps) (sym v.begin.packets) last) in
    let none = view_fine rate e.held.rx e.held.main.size (known_at_begin (followed request e) whole.begun.before).index
    (stream_packets request e whole.begun.before rest) (drop (length es) us)
    v.begin.come v.begin.follows in_time in
    let no_late : count_by is_late (all_units rate e.held.parts) ≡ 0 = ap (λ (h : Held). count_by is_late (all_units rate h.parts)) whole.held ∙ none in
    record { none = no_late; number = λ window. whole.lines.late window ∙ no_late }

pub job_late_law : JobLateLaw
job_late_law d units slots request e k ranges promised none few viewed =
    let each : ℕ → List AccessUnit = λ j. units_of j units in
    let same : run_bytes (content_at d each) 0 slots ≡ output_of false d (job_history units slots) = sym (output_bytes (content_at d each) 0 slots) in
    subst (λ (bytes : List ℕ). IsWhole request d.description.rate (cut_packets bytes) e → NoLateUnit d.description.rate e) same
    (run_late_law d each slots request e k ranges promised (job_kept d units ranges none) few viewed)
