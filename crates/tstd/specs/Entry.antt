-- Bytes that enter a main buffer, one after another.
use Rattle.std.specs.Prelude.{◌≡◌, ℕ, ◌+◌, max, List, ◌∷◌}
use Rattle.clock27.specs.Peak.{greatest_at}
use Rattle.unit_timing.specs.MainBuffer.{mb_fullness}
use Rattle.unit_timing.specs.PesPacket.{PesPacket}
use Rattle.tstd.specs.declared.payload_bytes.PayloadBytes.{PayloadBytes}
use Rattle.tstd.specs.declared.main_buffer.MainBuffer.{MainBuffer}
use Rattle.tstd.specs.Removal.{removal_time}
use Rattle.tstd.specs.BufferState.{fullness_at}
use Rattle.tstd.specs.PayloadBytes.{bytes_ahead, drain_of}

-- the most bytes at the entry of a byte, if the bytes of these PES packets enter at these times; `before` counts the bytes of earlier PES packets
abbrev pub peak_ahead : (ℕ → ℕ) → ℕ → ℕ → List PesPacket → List ℕ → ℕ
peak_ahead before rate rx pes_packets left = greatest_at (λ x. before x + mb_fullness rate rx x pes_packets left) left

-- the most bytes over the entries so far and the entries ahead
abbrev pub peak_of : {A : Type 0} → PayloadBytes → MainBuffer A → List PesPacket → ℕ
peak_of walk buffer pes_packets = max buffer.peak (peak_ahead (fullness_at buffer) walk.rate (drain_of walk) pes_packets (bytes_ahead walk))

-- a unit of this size enters, as far as its bytes arrive
abbrev pub EntersUnit : {A : Type 0} → PayloadBytes → PayloadBytes → MainBuffer A → MainBuffer A → ℕ → Type 0
EntersUnit walk walk' buffer buffer' size =
    (due : ℕ) (pes_packets : List PesPacket) → buffer.current.until ≡ removal_time walk.rate (drain_of walk) due →
    peak_of walk' buffer' pes_packets ≡ peak_of walk buffer (record { dts = due; size = size; front = 0 } ∷ pes_packets)
