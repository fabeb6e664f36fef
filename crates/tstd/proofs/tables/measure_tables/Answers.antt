use Rattle.std.proofs.Common.{◌∙◌, ◌+◌, ◌*◌, ◌<◌, ◌≤◌, length, drop, refl, arith, ap, sym}
use Rattle.clock27.specs.Arrival.{arrivals, bytes_from}
use Rattle.clock27.specs.Departure.{departures}
use Rattle.tstd.specs.declared.queue.Queue.{Queue}
use Rattle.tstd.specs.PacketLists.{tables_from}
use Rattle.tstd.specs.Queues.{all_arrived, bytes_within}
use Rattle.tstd.proofs.TablePackets.{tables_own, tables_other, tables_end, packet_arrives, packet_passes, tables_rise, tables_few}
use Rattle.tstd.proofs.Peaks.{tables_peak, tables_bytes}
use Rattle.tstd.proofs.QueueStates.{passed-step}
use Rattle.tstd.proofs.tables.measure_tables.Goals as goal

pub loop-index-preserved-then-not-is_of_tables : goal.loop-index-preserved-then-not-is_of_tables
loop-index-preserved-then-not-is_of_tables c =
    let inv = c.loop-index.invariant in
    let i = c.loop-index.index in
    let same = tables_other c.args.pmt_pid i c.args.packets.now _ c.loop-index-test.true (sym c.is_of_tables.ensures ∙ c.if-not-is_of_tables.true) in
    record {
      step = inv.step;
      system_step = inv.system_step;
      last = omega (arith, inv.last);
      left = omega (arith, inv.left);
      longest_residence = inv.longest_residence;
      inner = inv.inner;
      transport = rw same at inv.transport;
      system = rw same at inv.system;
    }

pub loop-index-preserved : goal.loop-index-preserved
loop-index-preserved c =
    let inv = c.loop-index.invariant in
    let i = c.loop-index.index in
    let e = c.pass_packet.ensures in
    let rest = tables_from c.args.pmt_pid (i + 1) (drop (i + 1) c.args.packets.now) in
    let same = tables_own c.args.pmt_pid i c.args.packets.now _ c.loop-index-test.true (sym c.is_of_tables.ensures ∙ c.if-not-is_of_tables.false) in
    let before = c.loop-index.transport in
    let after = c.loop-index.system in
    let row = bytes_from 2000000 (188 * i) 188 in
    record {
      step = ap (λ (q : Queue). q.step) e.transport ∙ passed-step before row ∙ inv.step;
      system_step = ap (λ (q : Queue). q.step) e.system ∙ passed-step after (departures before.step before.last row) ∙ inv.system_step;
      last = omega (arith, e.last);
      left = omega (arith, e.left);
      longest_residence = e.longest_residence;
      inner = e.inner;
      transport = ap (λ (q : Queue). all_arrived q (arrivals 2000000 rest)) e.transport ∙ packet_arrives before (188 * i) i rest refl
          ∙ rw same at inv.transport;
      system = rw (e.transport, e.system) (packet_passes before after (188 * i) i rest refl ∙ rw same at inv.system);
    }

pub returns : goal.returns
unfolding arrivals departures
returns c =
    let inv = c.loop-index.invariant in
    let none = tables_end c.args.pmt_pid c.loop-index.index c.args.packets.now c.loop-index-test.false in
    let some : 0 < c.args.rate = omega (arith, c.requires.low) in
    let slots = tables_from c.args.pmt_pid 0 c.args.packets.now in
    let few : length slots ≤ length c.args.packets.now = tables_few c.args.pmt_pid 0 c.args.packets.now in
    tables_peak c.args.rate slots c.loop-index.transport c.loop-index.system c.peak.result c.peak-2.result
    some (tables_rise c.args.pmt_pid c.args.packets.now) inv.step inv.system_step (rw none at inv.transport) (rw none at inv.system) c.peak.ensures
    c.peak-2.ensures

pub overflow_cast-result : goal.overflow_cast-result
unfolding arrivals departures
overflow_cast-result c =
    let inv = c.loop-index.invariant in
    let none = tables_end c.args.pmt_pid c.loop-index.index c.args.packets.now c.loop-index-test.false in
    let some : 0 < c.args.rate = omega (arith, c.requires.low) in
    let slots = tables_from c.args.pmt_pid 0 c.args.packets.now in
    let few : length slots ≤ length c.args.packets.now = tables_few c.args.pmt_pid 0 c.args.packets.now in
    let m = bytes_within c.loop-index.system.step c.loop-index.system.longest_residence in
    let full = tables_peak c.args.rate slots c.loop-index.transport c.loop-index.system c.peak.result m
    some (tables_rise c.args.pmt_pid c.args.packets.now) inv.step inv.system_step (rw none at inv.transport) (rw none at inv.system) c.peak.ensures refl in
    let bytes = tables_bytes c.args.rate slots (record { transport = c.peak.result; system = m }) full in
    omega (arith, bytes.0, few, c.requires.count)

pub overflow_cast-result-2 : goal.overflow_cast-result-2
unfolding arrivals departures
overflow_cast-result-2 c =
    let inv = c.loop-index.invariant in
    let none = tables_end c.args.pmt_pid c.loop-index.index c.args.packets.now c.loop-index-test.false in
    let some : 0 < c.args.rate = omega (arith, c.requires.low) in
    let slots = tables_from c.args.pmt_pid 0 c.args.packets.now in
    let few : length slots ≤ length c.args.packets.now = tables_few c.args.pmt_pid 0 c.args.packets.now in
    let full = tables_peak c.args.rate slots c.loop-index.transport c.loop-index.system c.peak.result c.peak-2.result
    some (tables_rise c.args.pmt_pid c.args.packets.now) inv.step inv.system_step (rw none at inv.transport) (rw none at inv.system) c.peak.ensures
    c.peak-2.ensures in
    let bytes = tables_bytes c.args.rate slots (record { transport = c.peak.result; system = c.peak-2.result }) full in
    omega (arith, bytes.1, few, c.requires.count)
