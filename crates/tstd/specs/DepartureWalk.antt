-- The remaining part of a walk over the packets of a PID.
use Rattle.std.specs.Prelude.{ℕ, max, List, [], ◌∷◌, ◌++◌, Option, Some, None}
use Rattle.clock27.specs.Arrival.{bytes_from, arrivals}
use Rattle.clock27.specs.Departure.{departures, last_left}
use Rattle.unit_timing.specs.Schedule.{Packet}
use Rattle.unit_timing.specs.Transport.{slots_of, pes_left}
use Rattle.tstd.specs.PidPackets.{packets_from}
use Rattle.tstd.specs.Queues.{greatest_residence}
use Rattle.tstd.specs.declared.departures.Departures.{Departures}

-- the packets that a walk has not reached
abbrev pub packets_ahead : Departures → List Packet
packets_ahead walk = packets_from walk.pid walk.index walk.packets.now

-- the departures of payload bytes: of the current packet from `byte` on, and of the packets ahead
abbrev pub left_from : ℕ → ℕ → ℕ → ℕ → ℕ → List Packet → List ℕ
left_from step last rx byte left packets =
    departures step last (bytes_from rx byte left) ++ pes_left step rx (last_left step last (bytes_from rx byte left)) packets

-- the longest residence of a byte in the buffer, over the bytes so far and the bytes ahead
abbrev pub residence_from : ℕ → ℕ → ℕ → ℕ → ℕ → ℕ → List Packet → ℕ
residence_from step last longest_residence rx byte left packets =
    max longest_residence (greatest_residence step last (bytes_from rx byte left ++ arrivals rx (slots_of packets)))

-- the departures of the payload bytes that a walk has not given
unfoldable pub left_ahead : Departures → List ℕ
left_ahead walk = left_from walk.queue.step walk.queue.last walk.rx walk.byte walk.left (packets_ahead walk)

-- the longest residence of all bytes of the PID, given or not yet given by the walk
unfoldable pub walk_residence : Departures → ℕ
walk_residence walk = residence_from walk.queue.step walk.queue.last walk.queue.longest_residence walk.rx walk.byte walk.left (packets_ahead walk)

-- a departure that is given, followed by the departures ahead; none is given at the end
abbrev pub given : Option ℕ → List ℕ → List ℕ
given None ahead = []
given (Some time) ahead = time ∷ ahead
