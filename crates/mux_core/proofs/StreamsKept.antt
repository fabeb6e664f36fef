-- The promises that the finished bytes keep for a stream that has its PID to itself.
use Rattle.std.proofs.Common.{◌≡◌, ◌≤◌, ◌*◌, ℕ, Bool, List, Some, None, sym, subst}
use Rattle.std.specs.Prelude.{slice_get}
use Rattle.pes_packet.specs.AccessUnits.{AccessUnit}
use Rattle.slot_contents.specs.Contents.{Content, run_bytes}
use Rattle.unit_timing.specs.declared.framing.FrameDeclaration.{FrameDeclaration}
use Rattle.unit_timing.specs.PesPacket.{PesPacket}
use Rattle.unit_timing.specs.Schedule.{Packet}
use Rattle.unit_timing.specs.Transport.{slots_of, tb_fullness, pes_left, NoneLeavesEarly}
use Rattle.unit_timing.specs.Arrived.{AllLeft}
use Rattle.unit_timing.specs.EmptyBuffers.{IsEmptyEachSecond}
use Rattle.unit_timing.specs.LongestStay.{WaitsAtMost}
use Rattle.unit_timing.specs.MainBuffer.{mb_fullness}
use Rattle.unit_timing.specs.VideoBuffers.{multiplexing_left, multiplexing_fullness, elementary_fullness}
use Rattle.unit_timing.specs.Plans.{KeepsDeclaration, run_packets}
use Rattle.unit_timing.proofs.LateUnits.{late_law}
use Rattle.unit_timing.proofs.NotEarly.{run_left}
use Rattle.description_parts.specs.Described.{DescribedStream}
use Rattle.slot_plan.specs.declared.slot.Item.TheVariants.{Stream as StreamItem}
use Rattle.slot_plan.specs.Schedule.{owned}
use Rattle.slot_plan.specs.Promised.{declaration, Promised}
use Rattle.slot_plan.specs.Waits.{pes_entered, longest_wait}
use Rattle.tstd.specs.Carried.{timed_pes_packets, packets_on}
use Rattle.tstd.specs.Measured.{late_of}
use Rattle.unit_queue.specs.Queues.{Kept}
use Rattle.unit_queue.specs.Payloads.{StreamIsAlone}
use Rattle.unit_queue.proofs.CarriedBytes.{carried_law}
use Rattle.mux_core.specs.Scheduled.{Scheduled}
use Rattle.mux_core.specs.Histories.{owned_stream}
use Rattle.mux_core.specs.FramesKept.{FramesKept}
use Rattle.mux_core.specs.Headline.{StreamKept}

-- The main buffer never overflows, whenever bytes leave the transport buffer after the start of their packet.
pub main_kept : (d : Scheduled) (k : ℕ) (s : DescribedStream) (units : List AccessUnit) (content : ℕ → Content) (n : ℕ) →
    slice_get d.description.streams k ≡ Some s → StreamIsAlone (owned_stream d k s) units content → Kept (owned_stream d k s) units →
    Promised d.description d.schedule →
    (x : ℕ) (left : List ℕ) → NoneLeavesEarly s.rx (packets_on s.pid (run_bytes content 0 n)) left →
    mb_fullness d.description.rate s.rx x (timed_pes_packets s.stream_id d.description.base0 units) left ≤ s.main
main_kept d k s units content n is alone kept promised x left late =
    let pes = timed_pes_packets s.stream_id d.description.base0 units in
    let keeps : KeepsDeclaration (declaration s) (timed_pes_packets s.stream_id d.description.base0 units) =
    record { spaced = kept.spaced; sized = kept.sized; allowed = kept.allowed } in
    (promised.streams k s pes is keeps).main n x left
    (subst (λ (ps : List Packet). NoneLeavesEarly s.rx ps left) (carried_law (owned_stream d k s) units content n alone).packets late)

-- The main buffer does not overflow either if a unit has several frames that are removed one by one.
frames_kept : (d : Scheduled) (k : ℕ) (s : DescribedStream) (units : List AccessUnit) (content : ℕ → Content) (n : ℕ) →
    slice_get d.description.streams k ≡ Some s → StreamIsAlone (owned_stream d k s) units content → Kept (owned_stream d k s) units →
    Promised d.description d.schedule →
    (f : FrameDeclaration) → s.framing ≡ Some f → FramesKept d s f units (run_bytes content 0 n)
frames_kept d k s units content n is alone kept promised f some packets x cut =
    let keeps : KeepsDeclaration (declaration s) (timed_pes_packets s.stream_id d.description.base0 units) =
    record { spaced = kept.spaced; sized = kept.sized; allowed = kept.allowed } in
    let sent : packets_on s.pid (run_bytes content 0 n)
    ≡ run_packets (owned d.schedule (StreamItem k)) d.description.rate (declaration s) (timed_pes_packets s.stream_id d.description.base0 units) n =
    (carried_law (owned_stream d k s) units content n alone).packets in
    let own : ℕ → Bool = owned d.schedule (StreamItem k) in
    let pes : List PesPacket = timed_pes_packets s.stream_id d.description.base0 units in
    let left : List ℕ = pes_left d.description.rate s.rx 0 (packets_on s.pid (run_bytes content 0 n)) in
    let late = subst
    (λ (ps : List Packet). NoneLeavesEarly s.rx (run_packets own d.description.rate (declaration s) pes n) (pes_left d.description.rate s.rx 0 ps))
    (sym sent) (run_left own d.description.rate s.lead s.rx n pes) in
    promised.frames k s f packets is some cut.declared cut.followed
    (subst (λ (us : List PesPacket). KeepsDeclaration (declaration s) us) (sym cut.same) keeps) n x left
    (subst (λ (us : List PesPacket). NoneLeavesEarly s.rx (run_packets own d.description.rate (declaration s) us n) left) (sym cut.same) late)

pub stream_kept : (d : Scheduled) (k : ℕ) (s : DescribedStream) (units : List AccessUnit) (content : ℕ → Content) (n : ℕ) →
    slice_get d.description.streams k ≡ Some s → StreamIsAlone (owned_stream d k s) units content → Kept (owned_stream d k s) units →
    Promised d.description d.schedule →
    StreamKept d k s units n (run_bytes content 0 n)
stream_kept d k s units content n is alone kept promised =
    let carried = carried_law (owned_stream d k s) units content n alone in
    let rate = d.description.rate in
    let pes = timed_pes_packets s.stream_id d.description.base0 units in
    let keeps : KeepsDeclaration (declaration s) (timed_pes_packets s.stream_id d.description.base0 units) =
    record { spaced = kept.spaced; sized = kept.sized; allowed = kept.allowed } in
    let served = promised.streams k s pes is keeps in
    let packets : run_packets (owned d.schedule (StreamItem k)) d.description.rate (declaration s) (timed_pes_packets s.stream_id d.description.base0 units) n
    ≡ packets_on s.pid (run_bytes content 0 n) = sym carried.packets in
    record {
      carried = carried.joined;
      pieces = carried.pieces;
      counters = carried.counters;
      not_early = carried.released;
      waits = subst (λ (ps : List Packet). WaitsAtMost longest_wait rate s.rx pes (pes_entered s.rx ps)) packets (promised.waits k s pes n is);
      transport = λ x. subst (λ (ps : List Packet). tb_fullness rate s.rx x (slots_of ps) ≤ 512) packets (served.transport n x);
      arrived = subst (λ (ps : List Packet). late_of rate d.description.base0 n s units ps ≡ None) packets
          (late_law.none_late rate s.rx n 0 pes (pes_left rate s.rx 0 (run_packets (owned d.schedule (StreamItem k)) rate (declaration s) pes n))
          (served.arrived n));
      main_buffer = λ x. main_kept d k s units content n is alone kept promised x (pes_left rate s.rx 0 (packets_on s.pid (run_bytes content 0 n)))
          (subst (λ (ps : List Packet). NoneLeavesEarly s.rx ps (pes_left rate s.rx 0 ps)) packets
          (run_left (owned d.schedule (StreamItem k)) rate s.lead s.rx n pes));
      video = λ b some. let video = promised.videos k s b pes is some keeps in record {
        multiplexing = λ x. subst (λ (ps : List Packet). multiplexing_fullness rate s.rx b.rbx x ps ≤ b.size) packets (video.multiplexing n x);
        elementary = λ x. subst (λ (ps : List Packet). elementary_fullness rate s.rx b.rbx x pes ps ≤ s.main) packets (video.elementary n x);
        whole = subst (λ (ps : List Packet). AllLeft rate (s.rx * b.rbx) n pes (multiplexing_left rate s.rx b.rbx ps)) packets (video.whole n);
        transport_empties = subst (λ (ps : List Packet). IsEmptyEachSecond rate s.rx (λ x. tb_fullness rate s.rx x (slots_of ps))) packets
            ((promised.emptied k s b pes is some).0 n);
        multiplexing_empties = subst (λ (ps : List Packet). IsEmptyEachSecond rate (s.rx * b.rbx) (λ x. multiplexing_fullness rate s.rx b.rbx x ps)) packets
            ((promised.emptied k s b pes is some).1 n);
      };
      frames = frames_kept d k s units content n is alone kept promised;
    }
