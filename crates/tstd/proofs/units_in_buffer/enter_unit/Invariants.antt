use Rattle.std.proofs.Common.{◌≡◌, ℕ, ◌-◌, ◌*◌, ◌≤◌, nat_le, nat_eq, ◌||◌, List, ◌∷◌, length, take, drop}
use Rattle.std.specs.List.{list_all}
use Rattle.unit_timing.specs.PesPacket.{PesPacket}
use Rattle.tstd.specs.Entry.{peak_of}
use Rattle.tstd.specs.Removal.{removal_time}
use Rattle.tstd.specs.BufferState.{IsSound}
use Rattle.tstd.specs.PayloadBytes.{bytes_ahead, residences, last_of, drain_of}
use Rattle.tstd.proofs.units_in_buffer.enter_unit.Given as goal

abbrev pub invariant-loop-taken : goal.invariant-loop-taken
invariant-loop-taken g l = record {
  within : l.taken ≤ l.size;
  there : l.taken ≤ length (bytes_ahead l.fn.walk);
  left : bytes_ahead l.walk ≡ drop l.taken (bytes_ahead l.fn.walk);
  in_time : (limit : ℕ) → list_all (λ d. nat_le (d * 720000) limit) (take l.taken (bytes_ahead l.fn.walk))
      ≡ (nat_eq l.taken 0 || nat_le (last_of l.walk * 720000) limit);
  peak : (due : ℕ) (pes_packets : List PesPacket) → l.fn.buffer.current.until ≡ removal_time l.fn.walk.rate (drain_of l.fn.walk) due →
      peak_of l.walk l.buffer (record { dts = due; size = l.size - l.taken; front = 0 } ∷ pes_packets)
      ≡ peak_of l.fn.walk l.fn.buffer (record { dts = due; size = l.size; front = 0 } ∷ pes_packets);
  residences : residences l.walk ≡ residences l.fn.walk;
  rate : l.walk.rate ≡ l.fn.walk.rate;
  rx : l.walk.rx ≡ l.fn.walk.rx;
  rbx : l.walk.rbx ≡ l.fn.walk.rbx;
  step : l.walk.transport.queue.step ≡ l.fn.walk.transport.queue.step;
  until : l.buffer.current.until ≡ l.fn.buffer.current.until;
  sound : IsSound l.buffer;
  fullness : l.buffer.fullness ≤ l.walk.transport.byte;
}

abbrev pub decreases-loop-taken : goal.decreases-loop-taken
decreases-loop-taken g l = l.size - l.taken
