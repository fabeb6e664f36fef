-- The main buffer of a stream: the bytes of its units enter it as they leave the transport buffer, and leave it at
-- their unit's stamp (ISO/IEC 13818-1, 2.4.2.3; one main buffer for each stream is this profile's).
use Rattle.std.specs.Prelude.{ℕ, ◌+◌, ◌-◌, ◌*◌, ◌≤◌, Bool, nat_le, nat_lt, ◌&&◌, List, [], ◌∷◌, take, drop, count_by}
use Rattle.clock27.specs.Peak.{IsPeak, greatest_at}
use Rattle.clock27.specs.Units.{slot_units_at_1bps}
use Rattle.clock27.specs.Units.{byte_units_at_1bps}
use Rattle.own_slots.specs.Slots.{AtMostPerWindow, own_slots}
use Rattle.unit_timing.specs.PesPacket.{PesPacket}
use Rattle.unit_timing.specs.Allowances.{IsRising, Allows}
use Rattle.unit_timing.specs.Schedule.{packets_in_slots}
use Rattle.unit_timing.specs.Transport.{NoneLeavesEarly}

-- a byte that leaves the transport buffer at d, of a unit with the stamp `due`, is in the main buffer at the moment x
abbrev pub is_in_main_buffer : ℕ → ℕ → ℕ → ℕ → ℕ → Bool
is_in_main_buffer rate r x due d = nat_le d x && nat_lt (x * byte_units_at_1bps) (due * rate * r)

-- the bytes in the main buffer at the moment x, unit by unit; `left` has the departures of all bytes of units that are written,
-- from the first unit on
unfoldable pub mb_fullness : ℕ → ℕ → ℕ → List PesPacket → List ℕ → ℕ
mb_fullness rate r x [] left = 0
mb_fullness rate r x (unit ∷ units) left =
    count_by (is_in_main_buffer rate r x unit.dts) (take unit.size left) + mb_fullness rate r x units (drop unit.size left)

-- whenever bytes leave the transport buffer, none before its packet's slot begins: at any moment it holds bytes of slots that begin
-- within `lead` of one another
abbrev pub BySlots : Type 0
BySlots = (own : ℕ → Bool) (rate lead r w m : ℕ) (units : List PesPacket) (n x : ℕ) (left : List ℕ) →
    lead * rate ≤ w * slot_units_at_1bps → AtMostPerWindow own w m →
    NoneLeavesEarly r (packets_in_slots own rate lead 0 units (own_slots own 0 n)) left → mb_fullness rate r x units left ≤ 184 * m

-- a bound from the allowance: the units that are due within less than `lead` of one another count at most `allowed (lead - 1)`; a
-- unit has at most `each` bytes for each that it counts
abbrev pub ByCurve : Type 0
ByCurve = (own : ℕ → Bool) (rate lead r each : ℕ) (f : PesPacket → ℕ) (allowed : ℕ → ℕ) (units : List PesPacket) (n x : ℕ) (left : List ℕ) →
    ((unit : PesPacket) → unit.size ≤ each * f unit) → IsRising allowed → Allows f allowed units →
    NoneLeavesEarly r (packets_in_slots own rate lead 0 units (own_slots own 0 n)) left → mb_fullness rate r x units left ≤ each * allowed (lead - 1)

-- the greatest fullness over all moments is found at the departures from the transport buffer, whatever the order of
-- the stamps
abbrev pub MainPeakLaw : Type 0
MainPeakLaw = (rate r : ℕ) (units : List PesPacket) (left : List ℕ) →
    IsPeak (λ x. mb_fullness rate r x units left) (greatest_at (λ x. mb_fullness rate r x units left) left)
