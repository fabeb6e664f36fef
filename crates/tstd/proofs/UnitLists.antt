-- The units of one stream among all units.
use Rattle.std.proofs.Common.{◌≡◌, ℕ, ◌+◌, ◌≤◌, ◌<◌, ◌==◌, ◌&&◌, not, Bool, true, false, cond, if◌then◌else◌, Option, Some, None, List, [], ◌∷◌, length, drop}
use Rattle.std.proofs.Common.{get_or, sum_by, refl, sym, arith}
use Rattle.std.proofs.Math.Seq.{drop-cons}
use Rattle.std.proofs.lemmas.List.{drop_all, length-drop}
use Rattle.std.proofs.lemmas.List.Sums.{sum_by-cons}
use Rattle.std.proofs.Common.{add-one}
use Rattle.std.specs.Option.{option_or}
use Rattle.pes_packet.specs.AccessUnits.{AccessUnit}
use Rattle.pes_packet.specs.Encoding.{pes_packet_bytes}
use Rattle.unit_timing.specs.Arrived.{is_due, has_left, first_late}
use Rattle.unit_timing.specs.PesPacket.{PesPacket}
use Rattle.unit_timing.specs.MainBuffer.{mb_fullness}
use Rattle.tstd.specs.declared.payload_bytes.PayloadBytes.{PayloadBytes}
use Rattle.tstd.specs.declared.main_buffer.MainBuffer.{MainBuffer}
use Rattle.tstd.specs.Entry.{peak_of}
use Rattle.pes_packet.specs.Marks.{field_size}
use Rattle.pes_packet.specs.Units.{units_of}
use Rattle.tstd.specs.Carried.{timed_pes_packets}

-- A unit of the stream adds a PES packet with its time stamp and size.
pub texts_own : (id base0 stream i due size : ℕ) (units : List (ℕ × AccessUnit)) (u : ℕ × AccessUnit) → i < length units → u ≡ get_or units i u →
    (u.0 == stream) ≡ true →
    due ≡ u.1.dts → size ≡ length (pes_packet_bytes id base0 u.1) →
    timed_pes_packets id base0 (units_of stream (drop i units)) ≡ record { dts = due; size = size; front = field_size u.1.marks.random_access } ∷
    timed_pes_packets id base0 (units_of stream (drop (i + 1) units))
texts_own id base0 stream i due size units u below at own stamp is = rw (drop-cons units i u below, add-one i, sym at, own, stamp, is) refl

-- A unit of another stream adds no PES packet.
pub texts_other : (id base0 stream i : ℕ) (units : List (ℕ × AccessUnit)) (u : ℕ × AccessUnit) → i < length units → u ≡ get_or units i u →
    (u.0 == stream) ≡ false →
    timed_pes_packets id base0 (units_of stream (drop i units)) ≡ timed_pes_packets id base0 (units_of stream (drop (i + 1) units))
texts_other id base0 stream i units u below at other = rw (drop-cons units i u below, add-one i, sym at, other) refl

-- No unit is left.
pub texts_end : (id base0 stream i : ℕ) (units : List (ℕ × AccessUnit)) → length units ≤ i → timed_pes_packets id base0 (units_of stream (drop i units)) ≡ []
texts_end id base0 stream i units over = rw (drop_all i units over) refl

-- The first late unit among the earlier units, the current unit and the later units.
pub late_next : (late : Option ℕ) (is : Bool) (number : ℕ) (later : Option ℕ) →
    option_or (option_or late (if is then Some number else None)) (later) ≡ option_or late (cond is (Some number) later)
late_next None true number later = refl
late_next None false number later = refl
late_next (Some n) is number later = refl

pub late_end : (late : Option ℕ) → option_or late None ≡ late
late_end None = refl
late_end (Some n) = refl

pub size_next : (pes_packet : PesPacket) (pes_packets : List PesPacket) → sum_by (λ t. t.size) (pes_packet ∷ pes_packets) ≡ pes_packet.size
    + sum_by (λ t. t.size) pes_packets
size_next pes_packet pes_packets = sum_by-cons (λ t. t.size) pes_packet pes_packets

-- The first late unit, after one more PES packet is judged.
pub late_more : (rate rx slots number size front due : ℕ) (late : Option ℕ) (is : Bool) (pes_packets : List PesPacket) (left left' : List ℕ) (rate' rx' : ℕ) →
    rate' ≡ rate → rx' ≡ rx →
    is ≡ (is_due rate' slots (record { dts = due; size = size; front = 0 }) && not (has_left rate' rx' (record { dts = due; size = size; front = 0 }) left)) →
    left' ≡ drop size left →
    option_or (option_or late (if is then Some number else None)) (first_late rate rx slots (number + 1) pes_packets left')
    ≡ option_or late (first_late rate rx slots number (record { dts = due; size = size; front = front } ∷ pes_packets) left)
unfolding first_late
late_more rate rx slots number size front due late is pes_packets left left' rate' rx' same_rate same_rx decided rest =
    rw (late_next late is number (first_late rate rx slots (number + 1) pes_packets left'), decided, rest, same_rate, same_rx, add-one number) refl

-- The main buffer holds the bytes of PES packets only, whatever bytes are in front of them.
pub peak_front : {A : Type 0} (walk : PayloadBytes) (buffer : MainBuffer A) (due size front : ℕ) (pes_packets : List PesPacket) →
    peak_of walk buffer (record { dts = due; size = size; front = 0 } ∷ pes_packets) ≡ peak_of walk buffer
    (record { dts = due; size = size; front = front } ∷ pes_packets)
unfolding mb_fullness
peak_front walk buffer due size front pes_packets = refl

pub fewer_left : (size total : ℕ) (left : List ℕ) → length left ≤ size + total → length (drop size left) ≤ total
fewer_left size total left le = omega (arith, length-drop size left, le)

-- The first late unit on the scale of a walk is the first late unit on the stream's scale.
pub late_found : (rate rate' drain drain' slots slots' : ℕ) (late : Option ℕ) (pes_packets : List PesPacket) (left left' : List ℕ) → rate' ≡ rate →
    drain' ≡ drain → slots' ≡ slots → left' ≡ left →
    late ≡ first_late rate' drain' slots' 0 pes_packets left' → late ≡ first_late rate drain slots 0 pes_packets left
late_found rate rate' drain drain' slots slots' late pes_packets left left' same_rate same_drain same_slots same is =
    rw (same_rate, same_drain, same_slots, same) at is
