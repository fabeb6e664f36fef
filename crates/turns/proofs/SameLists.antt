-- What is promised of a stream, of a table or of a program is of the packets of its PIDs alone.
use Rattle.std.proofs.Common.{◌≡◌, ◌≤◌, ◌*◌, ◌+◌, ℕ, List, None, length, map, take, sym, ap, subst, ◌∙◌, arith}
use Rattle.std.specs.Prelude.{slice_get, nat_eq}
use Rattle.std.specs.List.{concat, starts_with}
use Rattle.pes_packet.specs.AccessUnits.{AccessUnit}
use Rattle.pes_packet.specs.Units.{pes_packets_of}
use Rattle.ts_packet.specs.PidList.{Entry, pid_list, payload_of}
use Rattle.clock27.specs.Recurrence.{Recur}
use Rattle.clock27.specs.Reference.{pcr_at}
use Rattle.ts_packet.specs.Packets.{pcr_view}
use Rattle.slot_contents.specs.Contents.{Content, payload_at, run_bytes}
use Rattle.slot_contents.specs.RunLaws.{Fits}
use Rattle.slot_contents.proofs.Runs.{all_entries}
use Rattle.unit_timing.specs.Schedule.{Packet}
use Rattle.unit_timing.specs.PesPacket.{PesPacket}
use Rattle.unit_timing.specs.Transport.{slots_of, tb_fullness, pes_left}
use Rattle.unit_timing.specs.Arrived.{AllLeft}
use Rattle.unit_timing.specs.AccessUnits.{framed_fullness}
use Rattle.unit_timing.specs.EmptyBuffers.{IsEmptyEachSecond}
use Rattle.unit_timing.specs.LongestStay.{WaitsAtMost}
use Rattle.unit_timing.specs.MainBuffer.{mb_fullness}
use Rattle.unit_timing.specs.VideoBuffers.{multiplexing_left, multiplexing_fullness, elementary_fullness}
use Rattle.unit_timing.specs.SystemBuffer.{system_tb_fullness, bsys_fullness}
use Rattle.description_parts.specs.Described.{DescribedStream, DescribedProgram}
use Rattle.description_parts.specs.Tables.{table_pid}
use Rattle.slot_plan.specs.Waits.{pes_entered, longest_wait}
use Rattle.tstd.specs.Carried.{timed_pes_packets, packets_on, table_packets}
use Rattle.tstd.specs.Measured.{late_of}
use Rattle.unit_queue.specs.Payloads.{piece_in, all_pieces}
use Rattle.mux_core.specs.Scheduled.{Scheduled}
use Rattle.mux_core.specs.Histories.{TextsSoFar, owned_stream}
use Rattle.mux_core.specs.Headline.{StreamKept, ProgramKept, TableKeptOver}
use Rattle.turns.specs.LineUpRuns.{ProgramKeptFrom}
use Rattle.turns.proofs.TurnLists.{on, after, listed}
use Rattle.turns.proofs.ComingClocks.{tenth_bytes, recur_after, says_after}

pub stream_kept_same : (d : Scheduled) (k : ℕ) (s : DescribedStream) (us : List AccessUnit) (n : ℕ) (bytes other : List ℕ) →
    pid_list s.pid bytes ≡ pid_list s.pid other → StreamKept d k s us n bytes → StreamKept d k s us n other
stream_kept_same d k s us n bytes other same kept =
    let rate = d.description.rate in
    let pes : List PesPacket = timed_pes_packets s.stream_id d.description.base0 us in
    let packets : packets_on s.pid bytes ≡ packets_on s.pid other =
    ap (λ (es : List Entry). map (λ (entry : Entry). record { slot = entry.index; size = length (payload_of entry.packet) }) es) same in
    record {
      carried = ap (λ (es : List Entry). starts_with nat_eq (concat (pes_packets_of s.stream_id d.description.base0 us)) (concat (map (λ (entry : Entry). payload_of entry.packet) es)))
          (sym same) ∙ kept.carried;
      pieces = subst (λ (es : List Entry). map (λ (e : Entry). piece_in (payload_at e)) es ≡ take (length es) (all_pieces (owned_stream d k s) us)) same kept.pieces;
      counters = λ j e is. kept.counters j e (ap (λ (es : List Entry). slice_get es j) same ∙ is);
      not_early = λ j e u is who. kept.not_early j e u (ap (λ (es : List Entry). slice_get es j) same ∙ is) who;
      waits = subst (λ (ps : List Packet). WaitsAtMost longest_wait rate s.rx pes (pes_entered s.rx ps)) packets kept.waits;
      transport = λ x. subst (λ (ps : List Packet). tb_fullness rate s.rx x (slots_of ps) ≤ 512) packets (kept.transport x);
      arrived = subst (λ (ps : List Packet). late_of rate d.description.base0 n s us ps ≡ None) packets kept.arrived;
      main_buffer = λ x. subst (λ (ps : List Packet). mb_fullness rate s.rx x pes (pes_left rate s.rx 0 ps) ≤ s.main) packets (kept.main_buffer x);
      video = λ b some. let video = kept.video b some in record {
        multiplexing = λ x. subst (λ (ps : List Packet). multiplexing_fullness rate s.rx b.rbx x ps ≤ b.size) packets (video.multiplexing x);
        elementary = λ x. subst (λ (ps : List Packet). elementary_fullness rate s.rx b.rbx x pes ps ≤ s.main) packets (video.elementary x);
        whole = subst (λ (ps : List Packet). AllLeft rate (s.rx * b.rbx) n pes (multiplexing_left rate s.rx b.rbx ps)) packets video.whole;
        transport_empties = subst (λ (ps : List Packet). IsEmptyEachSecond rate s.rx (λ x. tb_fullness rate s.rx x (slots_of ps))) packets video.transport_empties;
        multiplexing_empties = subst (λ (ps : List Packet). IsEmptyEachSecond rate (s.rx * b.rbx) (λ x. multiplexing_fullness rate s.rx b.rbx x ps)) packets
            video.multiplexing_empties;
      };
      frames = λ f some cuts x cut.
          subst (λ (ps : List Packet). framed_fullness rate s.rx x f.frame cuts (pes_left rate s.rx 0 ps) ≤ s.main) packets (kept.frames f some cuts x cut);
    }

pub table_kept_same : (d : Scheduled) (changes : TextsSoFar) (t n : ℕ) (bytes other : List ℕ) →
    pid_list (table_pid d.description t) bytes ≡ pid_list (table_pid d.description t) other → TableKeptOver d changes t n bytes → TableKeptOver d changes t n other
table_kept_same d changes t n bytes other same kept = record {
  sections = record {
    counters = λ j e is. kept.sections.counters j e (ap (λ (es : List Entry). slice_get es j) same ∙ is);
    payloads = ap (map payload_at) (sym same) ∙ kept.sections.payloads;
  };
  begins = λ j s within on_air before starts. let b = kept.begins j s within on_air before starts in record {
    number = b.number;
    entry = b.entry;
    listed = ap (λ (es : List Entry). slice_get es b.number) (sym same) ∙ b.listed;
    slot = b.slot;
    start = b.start;
    first = b.first;
  };
  sections_recur = kept.sections_recur;
  sections_apart = kept.sections_apart;
}

-- A program whose clock references come on air in slot `at`: they are those of a whole run from there on, and its tables have the same packets.
pub program_kept_from : (d : Scheduled) (p : DescribedProgram) (at n : ℕ) (f : ℕ → Content) (bytes : List ℕ) → Fits f →
    pid_list p.pcr_pid bytes ≡ after at (pid_list p.pcr_pid (run_bytes f 0 n)) →
    table_packets p.pmt_pid bytes ≡ table_packets p.pmt_pid (run_bytes f 0 n) → ProgramKept d p n (run_bytes f 0 n) → ProgramKeptFrom d p at n bytes
program_kept_from d p at n f bytes fits clocks tables kept = record {
  clocks = ap (map (λ (e : Entry). e.packet)) clocks
      ∙ says_after at (λ e. e.packet) (λ e. pcr_view p.pcr_pid (pcr_at d.description.rate d.description.base0 (188 * e.index + 10)))
      (pid_list p.pcr_pid (run_bytes f 0 n)) kept.clocks
      ∙ sym (ap (map (λ (e : Entry). pcr_view p.pcr_pid (pcr_at d.description.rate d.description.base0 (188 * e.index + 10)))) clocks);
  pcrs_recur = subst (λ (es : List Entry). Recur d.description.rate p.pcr_limit (188 * at) (tenth_bytes es) (188 * n)) (sym (clocks ∙ ap (after at) all))
      (recur_after p.pcr_pid d.description.rate p.pcr_limit at f 0 n 0 (188 * n) (omega arith)
      (subst (λ (es : List Entry). Recur d.description.rate p.pcr_limit 0 (tenth_bytes es) (188 * n)) all kept.pcrs_recur));
  system_transport = λ x. subst (λ (l : List ℕ). system_tb_fullness d.description.rate x l ≤ 512) (sym tables) (kept.system_transport x);
  system_buffer = λ x. subst (λ (l : List ℕ). bsys_fullness d.description.rate x l ≤ 1536) (sym tables) (kept.system_buffer x);
}
  where
    all : pid_list p.pcr_pid (run_bytes f 0 n) ≡ on p.pcr_pid (all_entries f 0 n)
    all = listed p.pcr_pid n f fits
