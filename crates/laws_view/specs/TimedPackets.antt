-- The packets of a stream, each with how it arrives.
--
-- By clock references a packet waits until its line is known, or too many wait; a packet that no longer waits arrives by that line, and at the end the
-- remaining packets arrive on the last line, extended.
use Rattle.std.specs.Prelude.{◌≡◌, ℕ, List, [], ◌∷◌, ◌++◌, map, Option, Some, None}
use Rattle.arrival.specs.declared.arrival.Arrival.{Arrival}
use Rattle.packet_times.specs.Waiting.{QueueState, last_arrival, no_packet, released, stepped, with_held}
use Rattle.packet_times.specs.declared.packet_queue.ClockPid.{ClockPid}

-- a packet, and how its bytes arrive
pub record Timed : Type 0 where
  pub arrival : Arrival
  pub bytes : List ℕ

abbrev pub arriving_so : Arrival → List (List ℕ) → List Timed
arriving_so arrival packets = map (λ bytes. record { arrival = arrival; bytes = bytes }) packets

-- among packets that wait, the packets that arrive, and the packets that still wait
unfoldable pub arrived : Option Arrival → List (List ℕ) → List Timed
arrived None held = []
arrived (Some arrival) held = arriving_so arrival held

unfoldable pub waiting : Option Arrival → List (List ℕ) → List (List ℕ)
waiting None held = held
waiting (Some arrival) held = []

-- a packet comes, and waits
abbrev pub with_one : QueueState → List ℕ → QueueState
with_one q bytes = with_held (stepped q bytes) (waiting (released q bytes) q.held ++ bytes ∷ [])

-- the packets that wait, and then these
unfoldable pub timed_from : QueueState → List (List ℕ) → List Timed
timed_from q [] = arriving_so (last_arrival q) q.held
timed_from q (bytes ∷ packets) = arrived (released q bytes) q.held ++ timed_from (with_one q bytes) packets

-- all packets of a stream that arrives by the references of this PID
abbrev pub timed_packets : ClockPid → List (List ℕ) → List Timed
timed_packets pid packets = timed_from (no_packet pid) packets

-- each packet arrives once, in the order of the stream
abbrev pub EachOnceLaw : Type 0
EachOnceLaw = (pid : ClockPid) (packets : List (List ℕ)) → map (λ p. p.bytes) (timed_packets pid packets) ≡ packets
