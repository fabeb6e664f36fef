-- When the bytes of units come into the decoder, and how long before their decoding times.
use Rattle.std.specs.Prelude.{ℕ, List}
use Rattle.clock27.specs.Arrival.{arrivals}
use Rattle.unit_timing.specs.Schedule.{Packet}
use Rattle.unit_timing.specs.Transport.{slots_of, of_payloads}

-- when the payload bytes of these packets come into the transport buffer, which is drained at r bits a second
abbrev pub pes_entered : ℕ → List Packet → List ℕ
pes_entered r packets = of_payloads packets (arrivals r (slots_of packets))

-- a second, in units of 90 kHz
abbrev pub longest_wait : ℕ
longest_wait = 90000
