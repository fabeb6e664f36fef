-- When bytes arrive, byte by byte, at a buffer that is drained at `drain` bits a second.
--
-- Times are in the units of that buffer: at a constant rate R of 8 / (R * drain) seconds, by clock references of 1 / (27,000,000 * drain).
use Rattle.std.specs.Prelude.{ℕ, zero, suc, ◌+◌, ◌*◌, Bool, if◌then◌else◌, List, [], ◌∷◌, ◌++◌}
use Rattle.arrival.specs.Lines.{arrival_at}
use Rattle.tstd_rows.specs.TransportLaws.{Rises}
use Rattle.arrival.specs.Arrivals.{has_times, line_at}
use Rattle.arrival.specs.declared.arrival.Arrival.{Arrival}
use Rattle.arrival.specs.declared.arrival.Arrival.TheVariants.{Unknown, AtRate, OnLines}
use Rattle.packet_times.specs.declared.packet_queue.ClockPid.{ClockPid}
use Rattle.laws_view.specs.TimedPackets.{Timed, timed_packets}

-- the time of byte i, on its own line; before a line is known it has no time
unfoldable pub time_of : Arrival → ℕ → ℕ → ℕ
time_of Unknown drain i = 0
time_of (AtRate rate) drain i = i * drain
time_of (OnLines lines) drain i = arrival_at drain (line_at lines i) i

-- n bytes from byte i on
unfoldable pub times_from : Arrival → ℕ → ℕ → ℕ → List ℕ
times_from arrival drain i zero = []
times_from arrival drain i (suc n) = time_of arrival drain i ∷ times_from arrival drain (suc i) n

-- the times of the bytes of the packet at an index: empty if it has no times
abbrev pub packet_times : ℕ → ℕ → Arrival → List ℕ
packet_times drain index arrival = if has_times arrival (188 * index) 188 then times_from arrival drain (188 * index) 188 else []

-- the times of the packets that are chosen, by their indices and bytes; the first of all packets has this index
unfoldable pub times_among : (ℕ → List ℕ → Bool) → ℕ → ℕ → List Timed → List ℕ
times_among chosen drain index [] = []
times_among chosen drain index (p ∷ packets) =
    (if chosen index p.bytes then packet_times drain index p.arrival else []) ++ times_among chosen drain (index + 1) packets

-- whichever packets are chosen of a stream that arrives by the references of a PID, no byte of theirs arrives before an earlier one
abbrev pub RisesLaw : Type 0
RisesLaw = (pid : ClockPid) (packets : List (List ℕ)) (chosen : ℕ → List ℕ → Bool) (drain : ℕ) →
    Rises 0 (times_among chosen drain 0 (timed_packets pid packets))
