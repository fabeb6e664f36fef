-- The clock of the arrival time stamps before packets of 192 bytes: 30 bits of a clock of 27 MHz, which wraps.
--
-- Each stamp is the moment at which the first byte of its packet arrives. A packet whose stamp differs from the stamp before gives a sample of this clock;
-- packets with equal stamps lie on the line from the first of these packets to the next sample.
use Rattle.std.specs.Prelude.{ℕ, ◌+◌, ◌-◌, ◌*◌, ◌%◌, ◌^◌, ◌==◌, is_some, min, nat_lt, not, nat_le, if◌then◌else◌, Bool, false, Option, Some, None}
use Rattle.arrival.specs.Clock.{longest_interval, pcr_period}
use Rattle.arrival.specs.declared.clock.PcrSample.{PcrSample}
use Rattle.arrival.specs.declared.stamp_clock.StampStep.{StampStep}
use Rattle.arrival.specs.declared.stamp_clock.StampValue.{StampValue}

-- the ticks after which a stamp wraps
abbrev pub stamp_period : ℕ
stamp_period = 2 ^ 30

-- the stamp in the four bytes before a packet: their low 30 bits; the high two bits are copy_permission_indicator
abbrev pub stamp_in : ℕ → ℕ
stamp_in head = head % stamp_period

-- the ticks from one stamp to the next
abbrev pub ticks_between : ℕ → ℕ → ℕ
ticks_between before stamp = (stamp + stamp_period - before) % stamp_period

-- the kept state: the last stamp, extended to a clock that wraps only when clock references do, and the number of packets
pub record StampState : Type 0 where
  pub last : Option StampValue
  pub packets : ℕ

abbrev pub no_stamp : StampState
no_stamp = record { last = None; packets = 0 }

-- no packet has arrived
abbrev pub is_new : StampState → Bool
is_new s = not (is_some s.last)

-- the ticks from the last stamp to the next stamp; none before the first stamp
unfoldable pub ticks_since : Option StampValue → ℕ → Option ℕ
ticks_since None stamp = None
ticks_since (Some before) stamp = Some (ticks_between before.stamp stamp)

unfoldable pub value_after : Option StampValue → ℕ → StampValue
value_after None stamp = record { stamp = stamp; ticks = stamp }
value_after (Some before) stamp = record { stamp = stamp; ticks = (before.ticks + ticks_between before.stamp stamp) % pcr_period }

-- the packet at an index has a sample: its first byte is among the first 2^40
abbrev pub is_near : ℕ → Bool
is_near index = nat_le (188 * index) (2 ^ 40)

abbrev pub sample_of : ℕ → StampValue → PcrSample
sample_of index value = record { byte = 188 * index; ticks = value.ticks; discontinuity = false }

unfoldable pub is_same : Option ℕ → Bool
is_same None = false
is_same (Some ticks) = ticks == 0

abbrev pub near_sample : ℕ → StampValue → Option PcrSample
near_sample index value = if is_near index then Some (sample_of index value) else None

abbrev pub sample_if : Bool → ℕ → StampValue → Option PcrSample
sample_if same index value = if same then None else near_sample index value

abbrev pub sample_at : StampState → ℕ → Option PcrSample
sample_at s stamp = sample_if (is_same (ticks_since s.last stamp)) s.packets (value_after s.last stamp)

-- the ticks of a jump: more than a second lies between the stamps, which includes a stamp that falls
unfoldable pub jump_by : Option ℕ → Option ℕ
jump_by None = None
jump_by (Some ticks) = if nat_lt longest_interval ticks then Some ticks else None

-- what the four bytes before a packet give: the number of the packet, its sample and its jump, if any
abbrev pub step_at : StampState → ℕ → StampStep
step_at s head = record {
  packet = s.packets;
  sample = sample_at s (stamp_in head);
  jump = jump_by (ticks_since s.last (stamp_in head));
}

abbrev pub after : StampState → ℕ → StampState
after s head = record { last = Some (value_after s.last (stamp_in head)); packets = min (s.packets + 1) (2 ^ 64 - 1) }
