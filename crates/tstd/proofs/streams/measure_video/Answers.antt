use Rattle.std.proofs.Common.{◌≡◌, ◌∙◌, ◌<◌, ◌*◌, ℕ, None, [], length, ap, arith, refl, sym}
use Rattle.std.proofs.Math.Nat.{le_trans}
use Rattle.clock27.specs.Arrival.{arrivals}
use Rattle.clock27.specs.Departure.{departures}
use Rattle.clock27.specs.Peak.{IsPeak}
use Rattle.unit_timing.specs.Transport.{slots_of}
use Rattle.unit_timing.specs.VideoBuffers.{multiplexing_entered, multiplexing_left, multiplexing_fullness}
use Rattle.unit_timing.proofs.MainBufferPeak.{main_peak_law}
use Rattle.clock27.proofs.Departures.{length-departures}
use Rattle.pes_packet.specs.Units.{units_of}
use Rattle.tstd.specs.Carried.{timed_pes_packets}
use Rattle.tstd.specs.PidPackets.{packets_from}
use Rattle.tstd.specs.Queues.{greatest_residence}
use Rattle.tstd.specs.MultiplexingQueue.{residence_in}
use Rattle.tstd.specs.PayloadBytes.{bytes_ahead, drain_of}
use Rattle.tstd.proofs.Peaks.{peak_few, length-arrivals, video_peak}
use Rattle.tstd.proofs.StreamPackets.{packets_few, payloads_few, payload_count, none_given, most_found_all}
use Rattle.tstd.proofs.UnitLists.{late_found}
use Rattle.tstd.proofs.streams.measure_video.Goals as goal

pub measure_units-requires-clause-carried : goal.measure_units-requires-clause-carried
measure_units-requires-clause-carried g c =
    let s = c.args.stream.now in
    let packets = packets_from s.pid 0 c.args.packets.now in
    let entered = multiplexing_entered c.args.rate c.from.result c.from-2.result packets in
    let few = payloads_few packets (departures (c.from-2.result * c.args.rate) 0 (arrivals (c.from.result * c.from-2.result) (slots_of packets))) in
    let same = length-departures (c.from.result * c.args.rate) 0 entered in
    (s.stream_id, rw (c.leaking-walk.ensures.ahead, same) (le_trans few c.requires.carried))

pub returns-clause-fullness : goal.returns-clause-fullness
returns-clause-fullness g c =
    let walk = c.leaking-walk.ensures in
    let all = c.in_ok-late.ensures in
    let end = c.next-end.ensures in
    let s = c.args.stream.now in
    let b = c.args.leak in
    let packets = packets_from s.pid 0 c.args.packets.now in
    let pes_packets = timed_pes_packets s.stream_id c.args.base0 (units_of c.args.number c.args.units.now) in
    let left = multiplexing_left c.args.rate s.rx b.rbx packets in
    let drain : drain_of c.leaking-walk.result ≡ s.rx * b.rbx = rw (walk.rx, walk.rbx) (rw (c.from.ensures, c.from-2.ensures) (omega arith)) in
    let ahead : bytes_ahead c.leaking-walk.result ≡ left = rw (c.from.ensures, c.from-2.ensures) at walk.ahead in
    let none : c.next-end.result ≡ None =
    none_given c.next-end.result (bytes_ahead c.next-end.new.self) (bytes_ahead c.measure_units.new.walk) all.left end.ahead in
    let residence : residence_in c.next-end.new.self.multiplexing [] ≡
    (s.rx * c.args.rate, greatest_residence (s.rx * c.args.rate) 0 (multiplexing_entered c.args.rate s.rx b.rbx packets)) =
    ap (λ (both : ℕ × (ℕ × ℕ)). both.1)
    (sym (rw none at end.ended) ∙ end.residences ∙ all.residences ∙ rw (c.from.ensures, c.from-2.ensures) at walk.residences) in
    let some : 0 < c.args.rate = omega (arith, c.requires.low) in
    let positive : 0 < s.rx = omega (arith, c.requires.stream.least_rx) in
    let leaks : 0 < b.rbx = omega (arith, c.requires.leak.least_rbx) in
    let main = most_found_all c.leaking-walk.result c.measure_units.new.walk c.new-buffer.result c.measure_units.new.buffer c.args.rate (s.rx * b.rbx)
    pes_packets left
    c.new-buffer.ensures.empty c.new-buffer.ensures.peak walk.rate drain ahead all.left (all.peak s.stream_id) in
    record {
      multiplexing = video_peak c.next-end.new.self.multiplexing c.args.rate s.rx b.rbx c.peak-multiplexing.result packets some positive leaks residence
          c.peak-multiplexing.ensures;
      elementary = rw main (main_peak_law c.args.rate (s.rx * b.rbx) pes_packets left);
    }

pub overflow_cast-multiplexing : goal.overflow_cast-multiplexing
overflow_cast-multiplexing g c =
    let walk = c.leaking-walk.ensures in
    let all = c.in_ok-late.ensures in
    let end = c.next-end.ensures in
    let s = c.args.stream.now in
    let b = c.args.leak in
    let packets = packets_from s.pid 0 c.args.packets.now in
    let times = arrivals (s.rx * b.rbx) (slots_of packets) in
    let entered = multiplexing_entered c.args.rate s.rx b.rbx packets in
    let none : c.next-end.result ≡ None =
    none_given c.next-end.result (bytes_ahead c.next-end.new.self) (bytes_ahead c.measure_units.new.walk) all.left end.ahead in
    let residence : residence_in c.next-end.new.self.multiplexing [] ≡ (s.rx * c.args.rate, greatest_residence (s.rx * c.args.rate) 0 entered) =
    ap (λ (both : ℕ × (ℕ × ℕ)). both.1)
    (sym (rw none at end.ended) ∙ end.residences ∙ all.residences ∙ rw (c.from.ensures, c.from-2.ensures) at walk.residences) in
    let some : 0 < c.args.rate = omega (arith, c.requires.low) in
    let positive : 0 < s.rx = omega (arith, c.requires.stream.least_rx) in
    let leaks : 0 < b.rbx = omega (arith, c.requires.leak.least_rbx) in
    let peak : IsPeak (λ x. multiplexing_fullness c.args.rate s.rx b.rbx x packets) c.peak-multiplexing.result =
    video_peak c.next-end.new.self.multiplexing c.args.rate s.rx b.rbx c.peak-multiplexing.result packets some positive leaks residence
    c.peak-multiplexing.ensures in
    omega (
      arith,
      peak_few c.peak-multiplexing.result entered (departures (s.rx * c.args.rate) 0 entered) peak,
      payload_count packets (departures (b.rbx * c.args.rate) 0 times),
      length-departures (b.rbx * c.args.rate) 0 times,
      length-arrivals (s.rx * b.rbx) (slots_of packets),
      packets_few s.pid 0 c.args.packets.now,
      c.requires.count,
    )

pub returns-clause-late : goal.returns-clause-late
returns-clause-late g c =
    let walk = c.leaking-walk.ensures in
    let all = c.in_ok-late.ensures in
    let s = c.args.stream.now in
    let b = c.args.leak in
    let packets = packets_from s.pid 0 c.args.packets.now in
    let pes_packets = timed_pes_packets s.stream_id c.args.base0 (units_of c.args.number c.args.units.now) in
    let drain : drain_of c.leaking-walk.result ≡ s.rx * b.rbx = rw (walk.rx, walk.rbx) (rw (c.from.ensures, c.from-2.ensures) (omega arith)) in
    let ahead : bytes_ahead c.leaking-walk.result ≡ multiplexing_left c.args.rate s.rx b.rbx packets = rw (c.from.ensures, c.from-2.ensures) at walk.ahead in
    late_found c.args.rate c.leaking-walk.result.rate (s.rx * b.rbx) (drain_of c.leaking-walk.result) (length c.args.packets.now) (length c.args.packets.now)
    c.in_ok-late.late pes_packets
    (multiplexing_left c.args.rate s.rx b.rbx packets) (bytes_ahead c.leaking-walk.result) walk.rate drain refl ahead (all.late s.stream_id)
