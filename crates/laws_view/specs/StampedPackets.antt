-- The packets of a stream that arrives by the stamps before them, in place of clock references.
use Rattle.std.specs.Prelude.{◌≡◌, ℕ, Bool, List, [], ◌∷◌, ◌++◌, length, map, All, Option}
use Rattle.arrival.specs.StampClocks.{StampState, after, no_stamp, step_at}
use Rattle.arrival.specs.declared.clock.PcrSample.{PcrSample}
use Rattle.packet_times.specs.Waiting.{QueueState, last_arrival, no_packet, released_with, stepped_with, with_held}
use Rattle.packet_times.specs.declared.packet_queue.ClockPid.{ClockPid}
use Rattle.tstd_rows.specs.TransportLaws.{Rises}
use Rattle.laws_view.specs.Leads.{AllLead}
use Rattle.laws_view.specs.TimedPackets.{Timed, arrived, arriving_so, waiting}
use Rattle.laws_view.specs.Times.{times_among}

-- the four bytes before a packet, as a number, and the packet
pub record Stamped : Type 0 where
  pub head : ℕ
  pub bytes : List ℕ

-- a packet with a sample of the stamps' clock, or without one, is added and waits
abbrev pub with_stamped : QueueState → Option PcrSample → List ℕ → QueueState
with_stamped q sample bytes = with_held (stepped_with q sample) (waiting (released_with q sample) q.held ++ bytes ∷ [])

-- the packets that wait, and then these
unfoldable pub stamped_from : StampState → QueueState → List Stamped → List Timed
stamped_from c q [] = arriving_so (last_arrival q) q.held
stamped_from c q (p ∷ packets) = arrived (released_with q (step_at c p.head).sample) q.held
    ++ stamped_from (after c p.head) (with_stamped q (step_at c p.head).sample p.bytes) packets

-- all packets, whatever clock references the queue was made for
abbrev pub stamped_packets : ClockPid → List Stamped → List Timed
stamped_packets pid packets = stamped_from no_stamp (no_packet pid) packets

-- each packet arrives once, in the order of the stream
abbrev pub StampedOnceLaw : Type 0
StampedOnceLaw = (pid : ClockPid) (packets : List Stamped) → map (λ p. p.bytes) (stamped_packets pid packets) ≡ map (λ p. p.bytes) packets

-- whichever packets are chosen, no byte of theirs arrives before an earlier one
abbrev pub StampedRiseLaw : Type 0
StampedRiseLaw = (pid : ClockPid) (packets : List Stamped) (chosen : ℕ → List ℕ → Bool) (drain : ℕ) →
    Rises 0 (times_among chosen drain 0 (stamped_packets pid packets))

-- if a line begins within a packet of 188 bytes, the packet's whole payload lies on that line
abbrev pub StampedLeadLaw : Type 0
StampedLeadLaw = (pid : ClockPid) (packets : List Stamped) → All (λ p. length p.bytes ≡ 188) packets → AllLead 0 (stamped_packets pid packets)
