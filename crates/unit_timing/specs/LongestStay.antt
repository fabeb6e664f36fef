-- How long bytes stay in a decoder before their stamp (ISO/IEC 13818-1, 2.4.2.6: at most a second, for most streams).
use Rattle.std.specs.Prelude.{ℕ, ◌+◌, ◌*◌, ◌≤◌, Bool, List, [], ◌∷◌, take, drop, All}
use Rattle.clock27.specs.Units.{byte_units_at_1bps}
use Rattle.own_slots.specs.Slots.{own_slots}
use Rattle.unit_timing.specs.PesPacket.{PesPacket}
use Rattle.unit_timing.specs.Schedule.{packets_in_slots}
use Rattle.unit_timing.specs.Transport.{NoneLeavesEarly}

-- none of the times of the units' bytes, such as their arrivals, lies more than `wait` units of 90 kHz before the unit's stamp; a
-- moment x of a buffer which is drained at r bits a second lies no earlier if due * R * r ≤ x * 720,000 + wait * R * r
unfoldable pub WaitsAtMost : ℕ → ℕ → ℕ → List PesPacket → List ℕ → Type 0
WaitsAtMost wait rate r [] times = Unit {0}
WaitsAtMost wait rate r (unit ∷ units) times =
    All (λ t. unit.dts * rate * r ≤ t * byte_units_at_1bps + wait * rate * r) (take unit.size times) × WaitsAtMost wait rate r units (drop unit.size times)

-- no byte waits longer than the lead for its stamp, from whatever time on that does not lie before its packet's slot
abbrev pub LongestStayLaw : Type 0
LongestStayLaw = (own : ℕ → Bool) (rate lead r n : ℕ) (units : List PesPacket) (times : List ℕ) →
    NoneLeavesEarly r (packets_in_slots own rate lead 0 units (own_slots own 0 n)) times → WaitsAtMost lead rate r units times
