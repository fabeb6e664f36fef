use Rattle.std.proofs.Common.{◌≡◌, ℕ, ◌≤◌, length, drop, sum_by}
use Rattle.std.specs.Option.{option_or}
use Rattle.unit_timing.specs.Arrived.{first_late}
use Rattle.pes_packet.specs.Units.{units_of}
use Rattle.tstd.specs.Carried.{timed_pes_packets}
use Rattle.tstd.specs.Entry.{peak_of}
use Rattle.tstd.specs.BufferState.{IsSound}
use Rattle.tstd.specs.PayloadBytes.{bytes_ahead, residences, drain_of}
use Rattle.tstd.proofs.units.measure_units.Given as goal

abbrev pub invariant-loop-entry : goal.invariant-loop-entry
invariant-loop-entry g l = record {
  late : (id : ℕ) →
      option_or l.late
      (first_late l.fn.walk.rate (drain_of l.fn.walk) l.slots l.number (timed_pes_packets id l.base0 (units_of l.stream (drop l.entry-index l.units)))
      (bytes_ahead l.walk))
      ≡ first_late l.fn.walk.rate (drain_of l.fn.walk) l.slots 0 (timed_pes_packets id l.base0 (units_of l.stream l.units)) (bytes_ahead l.fn.walk);
  peak : (id : ℕ) → peak_of l.walk l.buffer (timed_pes_packets id l.base0 (units_of l.stream (drop l.entry-index l.units)))
      ≡ peak_of l.fn.walk l.fn.buffer (timed_pes_packets id l.base0 (units_of l.stream l.units));
  carried : (id : ℕ) × (length (bytes_ahead l.walk) ≤ sum_by (λ t. t.size) (timed_pes_packets id l.base0 (units_of l.stream (drop l.entry-index l.units))));
  residences : residences l.walk ≡ residences l.fn.walk;
  rate : l.walk.rate ≡ l.fn.walk.rate;
  rx : l.walk.rx ≡ l.fn.walk.rx;
  rbx : l.walk.rbx ≡ l.fn.walk.rbx;
  step : l.walk.transport.queue.step ≡ l.fn.walk.transport.queue.step;
  sound : IsSound l.buffer;
  fullness : l.buffer.fullness ≤ l.walk.transport.byte;
  number : l.number ≤ l.entry-index;
}
