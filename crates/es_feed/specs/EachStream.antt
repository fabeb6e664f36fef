-- The units that are fed for each stream of a description, if no fault is reported.
use Rattle.std.specs.Prelude.{◌≡◌, ◌≤◌, ◌<◌, ℕ, ◌^◌, ◌==◌, ◌&&◌, Bool, true, false, if◌then◌else◌, ⊤, IfSome, Option, Some, None, Ok, Err, List, [], ◌∷◌}
use Rattle.std.specs.Prelude.{length, slice_get}
use Rattle.std.specs.List.{flat_map, list_any}
use Rattle.clock27.specs.Release.{release}
use Rattle.pes_packet.specs.AccessUnits.{AccessUnit}
use Rattle.demux.specs.Stream.{start, pushed, finished}
use Rattle.pid_findings.specs.Views.{FindingView}
use Rattle.packet_sync.specs.Slips.{carried}
use Rattle.es_units.specs.CarriedUnits.{RoleView, Ignored, Start, Continuation, Interruption, role_of, apart_wire_units}
use Rattle.es_moments.specs.Stamps.{moved}
use Rattle.es_units.specs.UnitSteps.{none_so_far}
use Rattle.fed_streams.specs.Feeding.{Fed, FedStreamView, feed_first}
use Rattle.es_units.specs.Marking.{MarkingView, all_marked}
use Rattle.es_feed.specs.StreamFeeding.{fed_of}
use Rattle.fed_streams.specs.Maps.{MapView}

-- 1. The units among the fed records

-- the units with the number of a stream, in order
unfoldable pub fed_if : ℕ → Fed → List AccessUnit
fed_if n (k, Ok u) = if k == n then u ∷ [] else []
fed_if n (k, Err fault) = []

abbrev pub units_fed : ℕ → List Fed → List AccessUnit
units_fed n fed = flat_map (fed_if n) fed

-- something is no unit: a unit that has no moment, a loss of packets, units that are cut, a new map, a jump of the clock
unfoldable pub has_fault : Fed → Bool
has_fault (n, Ok u) = false
has_fault (n, Err fault) = true

abbrev pub have_fault : List Fed → Bool
have_fault fed = list_any has_fault fed

-- 2. Units of one PES packet each

-- after a unit of a PID the next unit starts, or nothing follows: no PES packet continues the unit, and nothing interrupts it
unfoldable pub starts_next : RoleView → Bool → Bool
starts_next Ignored later = later
starts_next (Start u) later = true
starts_next (Continuation id body) later = false
starts_next (Interruption unstamped) later = false

unfoldable pub next_starts : ℕ → List FindingView → Bool
next_starts pid [] = true
next_starts pid (f ∷ fs) = starts_next (role_of pid f) (next_starts pid fs)

unfoldable pub if_start : RoleView → Bool → Bool
if_start Ignored next = true
if_start (Start u) next = next
if_start (Continuation id body) next = true
if_start (Interruption unstamped) next = true

-- this is true of all units of a PID
unfoldable pub one_by_one : ℕ → List FindingView → Bool
one_by_one pid [] = true
one_by_one pid (f ∷ fs) = if_start (role_of pid f) (next_starts pid fs) && one_by_one pid fs

-- 3. The streams of a description

-- one with its number, before its first unit
abbrev pub fed_stream : ℕ → ℕ → FedStreamView
fed_stream number pid = record { number = number; before = None; units = none_so_far pid true; follow = false; stray = false; place = 0 }

-- streams before their first unit, numbered from 0 on, each with a PID of its own
pub record AreFirst (streams : List FedStreamView) : Type 0 where
  pub each : (k : ℕ) (s : FedStreamView) → slice_get streams k ≡ Some s → s ≡ fed_stream k s.units.pid
  pub own : (j k : ℕ) (s t : FedStreamView) → slice_get streams j ≡ Some s → slice_get streams k ≡ Some t → s.units.pid ≡ t.units.pid → j ≡ k
  pub few : length streams ≤ 255

-- all that is found in a stream of bytes
abbrev pub found_of_all : List ℕ → List FindingView
found_of_all bytes = (finished (pushed start (carried bytes))).found

-- the first record is a unit of a stream with a number below `count`, and is due at a moment
unfoldable pub BeginsAt : ℕ → ℕ → List Fed → Type 0
BeginsAt moment count [] = ⊤
BeginsAt moment count ((n, Ok u) ∷ fed) = (n < count) × (u.dts ≡ moment)
BeginsAt moment count ((n, Err fault) ∷ fed) = ⊤

-- the units of each stream are the units that its PID carries among these findings, moved by one constant, with distinct DTS if several data units in a
-- row have the same
pub record AreMovedByOne (earliest : ℕ) (streams : List FedStreamView) (findings : List FindingView) (fed : List Fed) : Type 0 where
  -- all streams share it: with it the first unit of all is due at `earliest`
  pub base : ℕ
  pub range : base < 2 ^ 33
  pub begins : BeginsAt earliest (length streams) fed
  pub moved_by : (k : ℕ) (s : FedStreamView) → slice_get streams k ≡ Some s → one_by_one s.units.pid findings ≡ true →
      units_fed k fed ≡ moved base None (apart_wire_units s.units.pid findings)

-- this is true, with the marks that are asked for, if no fault is reported: no packet of the streams is lost, nothing cuts their units, no map changes,
-- the clock does not jump, and each unit has a moment
abbrev pub FedByOneConstant : Type 0
FedByOneConstant = (earliest : ℕ) (marking : MarkingView) (maps : List MapView) (streams : List FedStreamView) (bytes : List ℕ) → earliest < 2 ^ 33 →
    AreFirst streams →
    have_fault (fed_of (feed_first earliest marking maps streams) bytes) ≡ false →
    AreMovedByOne earliest streams (all_marked marking (found_of_all bytes)) (fed_of (feed_first earliest marking maps streams) bytes)

-- 4. In order of DTS

-- each unit is due after the one before it, and the first after a moment, if there is one
unfoldable pub RiseFrom : Option ℕ → List AccessUnit → Type 0
RiseFrom before [] = ⊤
RiseFrom before (u ∷ us) = IfSome before (λ dts. dts < u.dts) × RiseFrom (Some u.dts) us

-- the DTS of each stream's units rise, whatever the input is: even if packets are lost, a clock jumps or a stamp is damaged
abbrev pub EachRises : Type 0
EachRises = (earliest k : ℕ) (marking : MarkingView) (maps : List MapView) (streams : List FedStreamView) (bytes : List ℕ) → AreFirst streams →
    k < length streams →
    RiseFrom None (units_fed k (fed_of (feed_first earliest marking maps streams) bytes))

-- then no unit may be sent before the unit before it, with any lead
abbrev pub ReleasesRise : Type 0
ReleasesRise = (rate lead one other : ℕ) → one < other → release rate lead one ≤ release rate lead other
