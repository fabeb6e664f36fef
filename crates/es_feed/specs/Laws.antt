-- What the laws of this crate say.
use Rattle.std.specs.Prelude.{◌≡◌, ℕ, ◌&&◌, Bool, true, false, if◌then◌else◌, Option, None, Some, Ok, Err, List, [], ◌∷◌, map}
use Rattle.std.specs.List.{flat_map, list_any}
use Rattle.pes_packet.specs.AccessUnits.{AccessUnit}
use Rattle.demux.specs.Laws.{has_pid}
use Rattle.pid_findings.specs.Views.{FindingView}
use Rattle.es_units.specs.CarriedUnits.{carried_units}
use Rattle.es_moments.specs.Stamps.{distance, first_fault, moved}
use Rattle.es_units.specs.UnitSteps.{has_cut, none_so_far}
use Rattle.demux.specs.FoundSoFar.{found_in_all}
use Rattle.demux.specs.Stream.{StreamState}
use Rattle.fed_streams.specs.Feeding.{Fed, FeedView, after_all, fed_all, fed_to_end, feed_first, lost_by, greatest_pts_limit}
use Rattle.fed_streams.specs.Ticks.{after_packets, fed_packets}
use Rattle.fed_streams.specs.declared.feed_fault.FeedFault.{FeedFault}
use Rattle.fed_streams.specs.declared.feed_fault.FeedFault.TheVariants.{Packet, Stray}
use Rattle.fed_streams.specs.declared.feed_fault.Loss.{Loss}
use Rattle.es_units.specs.Marking.{all_marked, no_marking}

-- one stream of a PID and no map, before its first unit
abbrev pub one_stream : ℕ → ℕ → ℕ → FeedView
one_stream earliest number pid =
    feed_first earliest no_marking [] (record { number = number; before = None; units = none_so_far pid true; follow = false; stray = false; place = 0 } ∷ [])

-- packets of a PID are lost before a finding among these
unfoldable pub is_loss : Option Loss → Bool
is_loss None = false
is_loss (Some loss) = true

abbrev pub has_loss : ℕ → List FindingView → Bool
has_loss pid fs = list_any (λ f. has_pid pid f.pid && is_loss (lost_by f.packet f.what)) fs

-- a report on a packet that is not read, on bytes after the last packet, or on payload in no PES packet: it is about no unit
unfoldable pub is_of_packet : FeedFault → Bool
is_of_packet (Packet fault) = true
is_of_packet (Stray packet) = true
is_of_packet _ = false

unfoldable pub unless_packet : Fed → List Fed
unless_packet (n, Ok u) = (n, Ok u) ∷ []
unless_packet (n, Err fault) = if is_of_packet fault then [] else (n, Err fault) ∷ []

-- without it
abbrev pub beside_packets : List Fed → List Fed
beside_packets fed = flat_map unless_packet fed

-- if no packet of a stream is lost, nothing cuts a unit and each unit can have a moment, the feed gives for the stream the units that its PID carries,
-- moved by one constant, so that the first unit is due at `earliest`
abbrev pub FedAsCarried : Type 0
FedAsCarried = (earliest number pid : ℕ) (fs : List FindingView) (u : AccessUnit) (us : List AccessUnit) → has_cut pid fs ≡ false → has_loss pid fs ≡ false →
    map (λ w. w.unit) (carried_units pid fs) ≡ u ∷ us → first_fault greatest_pts_limit (distance earliest u.dts) None 0 (u ∷ us) ≡ None →
    beside_packets (fed_to_end (one_stream earliest number pid) fs) ≡ map (λ x. (number, Ok x)) (moved (distance earliest u.dts) None (u ∷ us))

-- if no program is known, and so no clock, the feed gives for packets the records of all findings in them, with the marks that are asked for
abbrev pub FedWithoutClock : Type 0
FedWithoutClock = (s : StreamState) (feed : FeedView) (packets : List (List ℕ)) → feed.maps ≡ [] →
    (after_packets s feed packets ≡ after_all feed (all_marked feed.marking (found_in_all s packets)))
    × (fed_packets s feed packets ≡ fed_all feed (all_marked feed.marking (found_in_all s packets)))
