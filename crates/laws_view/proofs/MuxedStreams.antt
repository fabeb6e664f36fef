-- A view of a multiplexer's output has no excess of a transport buffer.
use Rattle.std.proofs.Common.{◌≡◌, ◌∙◌, sym, ℕ, ◌+◌, ◌/◌, ◌≤◌, ◌<◌, max, false, List, [], ◌∷◌, ◌++◌, length, Option, Some, None, refl, ap, subst, arith}
use Rattle.std.specs.Option.{option_to_list}
use Rattle.clock27.specs.Arrival.{arrivals}
use Rattle.clock27.specs.Peak.{most_found}
use Rattle.clock27.proofs.Peak.{arrivals_climb}
use Rattle.ts_packet.specs.PidList.{cut_packets}
use Rattle.pes_packet.specs.AccessUnits.{AccessUnit}
use Rattle.pes_packet.specs.Units.{units_of}
use Rattle.monitor.proofs.FoundWhole.{packet_count}
use Rattle.mux_core.specs.WholeJobs.{job_history, output_of}
use Rattle.tstd_rows.specs.declared.excess.Excess.{Excess}
use Rattle.tstd_rows.specs.Excesses.{AreOver, excess_after, excesses_ended}
use Rattle.tstd_rows.specs.TransportLaws.{excesses}
use Rattle.tstd_rows.proofs.Levels.{most_law}
use Rattle.tstd_rows.proofs.OverBytes.{none_over}
use Rattle.tstd_rows.proofs.LeavingBytes.{climbs_rises}
use Rattle.tstd.proofs.RisingTimes.{climbs_low}
use Rattle.tstd.proofs.StreamPackets.{packets_climb}
use Rattle.mux_core.specs.Headline.{Headline}
use Rattle.mux_core.proofs.KnownRanges.{stream_range}
use Rattle.mux_core.proofs.Whole.{headline}
use Rattle.mux_core.proofs.JobWriting.{output_bytes}
use Rattle.mux_core.specs.Histories.{content_at}
use Rattle.laws_run.proofs.MonitoredJobs.{job_kept}
use Rattle.tstd_rows.specs.Limits.{tb_size}
use Rattle.tstd_rows.specs.Held.{transport_most, transport_under_way}
use Rattle.ts_watch.specs.Choices.{RequestView}
use Rattle.es_view.specs.Entries.{EntryState}
use Rattle.laws_view.specs.StreamPackets.{most_packets}
use Rattle.laws_view.specs.WholeStreams.{IsWhole, indices_of}
use Rattle.laws_view.specs.MuxedStreams.{JobNoExcessLaw, MuxedStreamLaw, NoExcess}
use Rattle.laws_view.proofs.MeasuredStreams.{no_fuller}
use Rattle.laws_view.proofs.RateStreams.{whole_stream_law}

-- Bytes that find room begin no excess.
pub room_after : (step size prev : ℕ) (ts : List ℕ) → AreOver false step size prev ts → excess_after step size prev None ts ≡ None
unfolding excess_after AreOver
room_after step size prev [] room = refl
room_after step size prev (t ∷ ts) room = rw room.0 (room_after step size (max t prev + step) ts room.1)

pub room_ended : (step size prev : ℕ) (ts : List ℕ) → AreOver false step size prev ts → excesses_ended step size prev None ts ≡ []
unfolding excesses_ended AreOver
room_ended step size prev [] room = refl
room_ended step size prev (t ∷ ts) room = rw room.0 (room_ended step size (max t prev + step) ts room.1)

no_excesses : (step size : ℕ) (ts : List ℕ) → most_found step 0 ts ≤ size → excesses step size ts ≡ []
no_excesses step size ts few =
    let room = none_over step size 0 ts few in
    rw (room_ended step size 0 ts room, room_after step size 0 ts room) refl

-- If two lists joined are empty, the first is empty.
none_first : {A : Type 0} (xs ys : List A) → xs ++ ys ≡ [] → xs ≡ []
none_first [] ys e = refl
none_first (x ∷ xs) ys e = absurd (let no : ⊥ = cc in no)

none_last : {A : Type 0} (xs : List A) (o : Option A) → xs ++ option_to_list o ≡ [] → o ≡ None
none_last xs None e = refl
none_last [] (Some y) e = absurd (let no : ⊥ = cc in no)
none_last (x ∷ xs) (Some y) e = absurd (let no : ⊥ = cc in no)

-- A view whose transport buffer holds at most 512 bytes has no excess of it.
pub fits : (request : RequestView) (rate : ℕ) (packets : List (List ℕ)) (e : EntryState) → 0 < rate → 0 < e.held.rx → IsWhole request rate packets e →
    transport_most e.held ≤ tb_size → NoExcess request rate packets e
fits request rate packets e some drained w few =
    let slots : List ℕ = indices_of e.pid (length w.begun.before) (w.begun.first ∷ w.begun.later) in
    let ts : List ℕ = arrivals e.held.rx slots in
    let climbs = climbs_low 0 (length w.begun.before) slots (omega arith) (packets_climb e.pid (length w.begun.before) (w.begun.first ∷ w.begun.later)) in
    let peak = most_law rate ts some (climbs_rises 0 ts (arrivals_climb e.held.rx slots drained climbs)) in
    let most : most_found rate 0 ts ≤ tb_size = omega (arith, peak.reached, w.lines.transport.never_more peak.moment, few) in
    let none : excesses rate tb_size ts ≡ [] = no_excesses rate tb_size ts most in
    let reported = w.lines.reported ∙ none in
    record {
      whole = w;
      most = few;
      none_ended = none_first _ (option_to_list (transport_under_way e.held)) reported;
      none_under_way = none_last _ (transport_under_way e.held) reported;
      number = λ window. w.lines.excesses window ∙ ap (λ (l : List Excess). length l) none;
    }

-- A multiplexer's output

pub muxed_stream_law : MuxedStreamLaw
muxed_stream_law d units slots bytes request place e k s ranges h few at_rate there is same drained =
    let rate : ℕ = d.description.rate in
    let some : 0 < rate = omega (arith, ranges.least_rate) in
    let stream = stream_range d.description k s ranges is in
    let out : 0 < e.held.rx = omega (arith, stream.least_rx, drained) in
    let many : length (cut_packets bytes) ≡ length bytes / 188 = packet_count (length bytes / 188) bytes in
    let fewer : length (cut_packets bytes) ≤ most_packets = omega (arith, many, h.size, few) in
    let w = whole_stream_law request rate (cut_packets bytes) place e at_rate some fewer there out in
    let kept = h.streams k s is in
    let x : ℕ = w.lines.transport.moment in
    let most : transport_most e.held ≤ 512 =
    omega (arith, w.lines.transport.reached, no_fuller request rate x bytes e s.pid s.rx w same drained, kept.transport x) in
    fits request rate (cut_packets bytes) e some out w most

pub job_no_excess_law : JobNoExcessLaw
job_no_excess_law d units n request place e k s ranges promised none few at_rate there is same drained =
    let each : ℕ → List AccessUnit = λ k. units_of k units in
    let kept : Headline d each n (output_of false d (job_history units n)) =
    subst (λ (bytes : List ℕ). Headline d each n bytes) (sym (output_bytes (content_at d each) 0 n))
    (headline d each n ranges promised (job_kept d units ranges none)) in
    muxed_stream_law d each n (output_of false d (job_history units n)) request place e k s ranges kept few at_rate there is same drained
