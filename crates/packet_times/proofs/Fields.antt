-- A packet without an adaptation field has no clock reference.
use Rattle.std.proofs.Common.{◌≡◌, ℕ, zero, suc, ◌/◌, ◌%◌, ◌==◌, ◌≤◌, ◌&&◌, not, Bool, true, false, List, slice_index, drop, Option, None, Err, refl, sym, arith, if◌then◌else◌}
use Rattle.arrival.specs.declared.clock.PcrSample.{PcrSample}
use Rattle.ts_packet.specs.Reading.{packet_at, body_at, header_of}
use Rattle.ts_packet.specs.declared.header.Header.{Header}
use Rattle.ts_packet.specs.declared.packet.PacketError.TheVariants.{Sync}
use Rattle.packet_times.specs.Waiting.{reference_read, is_of_clock}
use Rattle.packet_times.specs.declared.packet_queue.ClockPid.{ClockPid}

-- whether a packet counts or not, it has none
either_way : (counts : Bool) (none : Option (ℕ × PcrSample)) → (if counts then none else none) ≡ none
either_way true none = refl
either_way false none = refl

by_control : (clock : ClockPid) (index : ℕ) (header : Header) (control : ℕ) (bytes : List ℕ) → control ≤ 1 →
    reference_read clock index (body_at header control bytes) ≡ None
unfolding body_at reference_read Rattle.tr101290.specs.Samples.sample_in
by_control clock index header zero bytes few = refl
by_control clock index header (suc zero) bytes few = either_way (not header.transport_error_indicator && is_of_clock clock header.pid) None
by_control clock index header (suc (suc n)) bytes few = absurd (omega (arith, few))

by_sync : (sync : Bool) (clock : ClockPid) (index : ℕ) (header : Header) (control : ℕ) (bytes : List ℕ) → control ≤ 1 →
    reference_read clock index (if sync then body_at header control bytes else Err Sync) ≡ None
unfolding reference_read
by_sync true clock index header control bytes few = by_control clock index header control bytes few
by_sync false clock index header control bytes few = refl

pub without_field : (clock : ClockPid) (index : ℕ) (bytes : List ℕ) → slice_index bytes 3 / 32 % 2 ≡ 0 → None ≡ reference_read clock index (packet_at bytes)
unfolding packet_at
without_field clock index bytes none =
    let few : slice_index bytes 3 / 16 % 4 ≤ 1 = omega (arith, none) in
    sym (by_sync (slice_index bytes 0 == 0x47) clock index (header_of bytes) (slice_index bytes 3 / 16 % 4) (drop 4 bytes) few)
