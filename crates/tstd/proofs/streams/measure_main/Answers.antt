use Rattle.std.proofs.Common.{◌≡◌, ◌∙◌, ◌<◌, ℕ, None, length, ap, arith, refl, sym}
use Rattle.std.proofs.Math.Nat.{le_trans}
use Rattle.clock27.specs.Arrival.{arrivals}
use Rattle.clock27.specs.Departure.{departures}
use Rattle.clock27.specs.Peak.{IsPeak}
use Rattle.clock27.proofs.Peak.{arrivals_climb}
use Rattle.unit_timing.specs.Transport.{slots_of, tb_fullness, pes_left}
use Rattle.unit_timing.proofs.MainBufferPeak.{main_peak_law}
use Rattle.pes_packet.specs.Units.{units_of}
use Rattle.tstd.specs.Carried.{timed_pes_packets}
use Rattle.tstd.specs.PidPackets.{packets_from}
use Rattle.tstd.specs.Queues.{greatest_residence}
use Rattle.tstd.specs.PayloadBytes.{bytes_ahead, drain_of}
use Rattle.tstd.proofs.Peaks.{residence_peak, peak_few, length-arrivals}
use Rattle.tstd.proofs.StreamPackets.{packets_climb, packets_few, payloads_few, none_given, most_found_all}
use Rattle.tstd.proofs.UnitLists.{late_found}
use Rattle.tstd.proofs.streams.measure_main.Goals as goal

pub measure_units-requires-clause-carried : goal.measure_units-requires-clause-carried
measure_units-requires-clause-carried g c =
    let packets = packets_from c.args.stream.now.pid 0 c.args.packets.now in
    let few = payloads_few packets (departures c.args.rate 0 (arrivals c.from.result (slots_of packets))) in
    (c.args.stream.now.stream_id, rw c.new-walk.ensures.ahead (le_trans few c.requires.carried))

pub returns-clause-fullness : goal.returns-clause-fullness
returns-clause-fullness g c =
    let walk = c.new-walk.ensures in
    let all = c.in_ok-late.ensures in
    let end = c.next-end.ensures in
    let s = c.args.stream.now in
    let packets = packets_from s.pid 0 c.args.packets.now in
    let times = arrivals s.rx (slots_of packets) in
    let pes_packets = timed_pes_packets s.stream_id c.args.base0 (units_of c.args.number c.args.units.now) in
    let left = pes_left c.args.rate s.rx 0 packets in
    let none : c.next-end.result ≡ None =
    none_given c.next-end.result (bytes_ahead c.next-end.new.self) (bytes_ahead c.measure_units.new.walk) all.left end.ahead in
    let step : c.next-end.new.self.transport.queue.step ≡ c.args.rate = end.step ∙ all.step ∙ walk.step in
    let longest_residence : c.next-end.new.self.transport.queue.longest_residence ≡ greatest_residence c.args.rate 0 times =
    ap (λ (both : ℕ × (ℕ × ℕ)). both.0) (sym (rw none at end.ended) ∙ end.residences ∙ all.residences ∙ rw c.from.ensures at walk.residences) in
    let some : 0 < c.args.rate = omega (arith, c.requires.low) in
    let positive : 0 < s.rx = omega (arith, c.requires.stream.least_rx) in
    let drain : drain_of c.new-walk.result ≡ s.rx = rw (walk.rx, walk.rbx, c.from.ensures) (omega arith) in
    let main = most_found_all c.new-walk.result c.measure_units.new.walk c.new-buffer.result c.measure_units.new.buffer c.args.rate s.rx pes_packets left
    c.new-buffer.ensures.empty c.new-buffer.ensures.peak walk.rate drain (rw c.from.ensures at walk.ahead) all.left (all.peak s.stream_id) in
    record {
      transport = rw (c.peak-transport.ensures, step)
          (residence_peak c.args.rate c.next-end.new.self.transport.queue.longest_residence times some
          (arrivals_climb s.rx (slots_of packets) positive (packets_climb s.pid 0 c.args.packets.now)) longest_residence);
      main = rw main (main_peak_law c.args.rate s.rx pes_packets left);
    }

pub overflow_cast-transport : goal.overflow_cast-transport
overflow_cast-transport g c =
    let walk = c.new-walk.ensures in
    let all = c.in_ok-late.ensures in
    let end = c.next-end.ensures in
    let s = c.args.stream.now in
    let packets = packets_from s.pid 0 c.args.packets.now in
    let times = arrivals s.rx (slots_of packets) in
    let none : c.next-end.result ≡ None =
    none_given c.next-end.result (bytes_ahead c.next-end.new.self) (bytes_ahead c.measure_units.new.walk) all.left end.ahead in
    let step : c.next-end.new.self.transport.queue.step ≡ c.args.rate = end.step ∙ all.step ∙ walk.step in
    let longest_residence : c.next-end.new.self.transport.queue.longest_residence ≡ greatest_residence c.args.rate 0 times =
    ap (λ (both : ℕ × (ℕ × ℕ)). both.0) (sym (rw none at end.ended) ∙ end.residences ∙ all.residences ∙ rw c.from.ensures at walk.residences) in
    let some : 0 < c.args.rate = omega (arith, c.requires.low) in
    let positive : 0 < s.rx = omega (arith, c.requires.stream.least_rx) in
    let peak : IsPeak (λ x. tb_fullness c.args.rate s.rx x (slots_of packets)) c.peak-transport.result = rw (c.peak-transport.ensures, step)
    (residence_peak c.args.rate c.next-end.new.self.transport.queue.longest_residence times some
    (arrivals_climb s.rx (slots_of packets) positive (packets_climb s.pid 0 c.args.packets.now)) longest_residence) in
    omega (
      arith,
      peak_few c.peak-transport.result times (departures c.args.rate 0 times) peak,
      length-arrivals s.rx (slots_of packets),
      packets_few s.pid 0 c.args.packets.now,
      c.requires.count,
    )

pub returns-clause-late : goal.returns-clause-late
returns-clause-late g c =
    let walk = c.new-walk.ensures in
    let all = c.in_ok-late.ensures in
    let s = c.args.stream.now in
    let packets = packets_from s.pid 0 c.args.packets.now in
    let pes_packets = timed_pes_packets s.stream_id c.args.base0 (units_of c.args.number c.args.units.now) in
    let drain : drain_of c.new-walk.result ≡ s.rx = rw (walk.rx, walk.rbx, c.from.ensures) (omega arith) in
    late_found c.args.rate c.new-walk.result.rate s.rx (drain_of c.new-walk.result) (length c.args.packets.now) (length c.args.packets.now) c.in_ok-late.late
    pes_packets (pes_left c.args.rate s.rx 0 packets)
    (bytes_ahead c.new-walk.result) walk.rate drain refl (rw c.from.ensures at walk.ahead) (all.late s.stream_id)
