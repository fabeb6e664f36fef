-- The bytes between two clock references of one continuous clock (ISO/IEC 13818-1, 2.4.2.2): all lie on the line through both.
use Rattle.std.specs.Prelude.{◌≡◌, ℕ, ◌+◌, ◌-◌, ◌*◌, ◌<◌, ◌≤◌, true, List, [], ◌∷◌, ◌++◌, length, slice_get, Some, None}
use Rattle.std.specs.Option.{option_map}
use Rattle.arrival.specs.Clock.{elapsed, goes_on}
use Rattle.arrival.specs.declared.clock.PcrSample.{PcrSample}
use Rattle.arrival.specs.declared.line.Line.{Line}
use Rattle.arrival.specs.Arrivals.{line_at}
use Rattle.arrival.specs.declared.arrival.Arrival.TheVariants.{OnLines}
use Rattle.arrival.specs.declared.arrival.ClockLines.{ClockLines}
use Rattle.packet_times.specs.Waiting.{QueueState, most_waiting, no_packet, reference_in}
use Rattle.packet_times.specs.declared.packet_queue.ClockPid.{ClockPid}
use Rattle.laws_view.specs.TimedPackets.{Timed, timed_packets, with_one}

-- the state after these packets
unfoldable pub with_all : QueueState → List (List ℕ) → QueueState
with_all q [] = q
with_all q (bytes ∷ packets) = with_all (with_one q bytes) packets

-- none of these packets has a reference of the clock of arrival
unfoldable pub AreQuiet : QueueState → List (List ℕ) → Type 0
AreQuiet q [] = Unit {0}
AreQuiet q (bytes ∷ packets) = (reference_in q bytes ≡ None) × AreQuiet (with_one q bytes) packets

-- the line through two references; the first reference has this moment
abbrev pub line_through : ℕ → PcrSample → PcrSample → Line
line_through moment before sample = record {
  byte = before.byte;
  moment = moment;
  bytes = sample.byte - before.byte;
  ticks = elapsed before.ticks sample.ticks;
}

-- byte i, of the packet at index k, arrives on this line
pub record LiesOn (packets : List Timed) (k i : ℕ) (line : Line) : Type 0 where
  pub lines : ClockLines
  pub arrival : option_map (λ p. p.arrival) (slice_get packets k) ≡ Some (OnLines lines)
  pub is : line_at lines i ≡ line

-- the state after these packets and a further packet
abbrev pub kept_with : ClockPid → List (List ℕ) → List ℕ → QueueState
kept_with pid before a = with_one (with_all (no_packet pid) before) a

-- two packets with references of one continuous clock, none between them, and no more packets waiting than may: each byte after the first reference, up
-- to the second, lies on their line
abbrev pub BetweenLaw : Type 0
BetweenLaw = (pid : ClockPid) (before : List (List ℕ)) (a : List ℕ) (between : List (List ℕ)) (b : List ℕ) (later : List (List ℕ)) (r r' : ℕ × PcrSample)
    (k i : ℕ) →
    reference_in (with_all (no_packet pid) before) a ≡ Some r →
    AreQuiet (kept_with pid before a) between →
    length (kept_with pid before a).held + length between ≤ most_waiting →
    reference_in (with_all (kept_with pid before a) between) b ≡ Some r' →
    goes_on r.1 r'.1 ≡ true → r.1.byte < i → i ≤ r'.1.byte → 188 * k ≤ i → i < 188 * k + 188 →
    LiesOn (timed_packets pid (before ++ a ∷ between ++ b ∷ later)) k i (line_through (kept_with pid before a).clock.moment r.1 r'.1)
