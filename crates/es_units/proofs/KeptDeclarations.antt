-- Units for which a stream declares enough.
use Rattle.std.proofs.Common.{◌≡◌, ◌≤◌, ℕ, ◌+◌, ◌-◌, Option, Some, None, List, [], ◌∷◌, length, map, arith, All}
use Rattle.std.proofs.lemmas.List.Elements.{All-nil, All-cons, All-head, All-tail}
use Rattle.pes_packet.specs.AccessUnits.{AccessUnit}
use Rattle.pes_packet.specs.Marks.{marks_size}
use Rattle.unit_timing.specs.declared.allowance.Allowance.{Allowance}
use Rattle.unit_timing.specs.declared.allowance.Allowance.TheVariants.{Groups, Pace}
use Rattle.unit_timing.specs.PesPacket.{Spaced, Sized, GroupsWithin}
use Rattle.unit_timing.specs.Allowances.{KeepsAllowance}
use Rattle.unit_timing.specs.Levels.{greatest_level}
use Rattle.unit_timing.proofs.Bursting.{burst_law}
use Rattle.unit_queue.specs.OwnedStreams.{OwnedStream, timed}
use Rattle.unit_queue.specs.Queues.{IsUnit, max_packets_per_unit}
use Rattle.unit_queue.specs.declared.parameters.StreamParameters.{StreamParameters}
use Rattle.es_moments.specs.Stamps.{distance, dts_at, unit_at, moved, unit_fault, first_fault}
use Rattle.es_moments.specs.Declaration.{interval_after, min_interval, max_unit_size, max_pts_after, max_group, AllowsUnits}
use Rattle.es_units.specs.Laws.{FirstDue, UnitsAreKept}
use Rattle.es_moments.proofs.StampFaults.{place_none, timely}
use Rattle.es_moments.proofs.UnitCounts.{within_burst, bytes_most}

-- 1. Each unit alone

unit_is : (r : StreamParameters) (limit base : ℕ) (before : Option ℕ) (u : AccessUnit) → unit_fault limit base before u ≡ None →
    1 ≤ length u.bytes → length (unit_at base before u).bytes + marks_size (unit_at base before u).marks ≤ r.size →
    (unit_at base before u).pts - (unit_at base before u).dts ≤ r.pts_limit → IsUnit r (unit_at base before u)
unfolding unit_at
unit_is r limit base before u none some most few =
    let own = timely limit base before u none in
    record { some = some; most = most; later = own.later; soon = omega (arith, own.later, few); last = own.last }

units_each : (r : StreamParameters) (limit base place : ℕ) (before : Option ℕ) (us : List AccessUnit) → first_fault limit base before place us ≡ None →
    All (λ u. 1 ≤ length u.bytes) us → max_unit_size (moved base before us) ≤ r.size → max_pts_after (moved base before us) ≤ r.pts_limit →
    All (IsUnit r) (moved base before us)
unfolding moved first_fault max_unit_size max_pts_after
units_each r limit base place before [] none some size pts = All-nil (IsUnit r)
units_each r limit base place before (u ∷ us) none some size pts =
    let both = place_none place (unit_fault limit base before u) _ none in
    let unit = unit_is r limit base before u both.0 (All-head (λ u. 1 ≤ length u.bytes) u us some) (omega (arith, size)) (omega (arith, pts)) in
    All-cons (IsUnit r) (unit_at base before u) (moved base (Some (dts_at base before u.dts)) us) unit
    (units_each r limit base (place + 1) (Some (dts_at base before u.dts)) us both.1 (All-tail (λ u. 1 ≤ length u.bytes) u us some) (omega (arith, size))
    (omega (arith, pts)))

-- 2. The distances of units

spaced_after : (l : OwnedStream) (base last : ℕ) (us : List AccessUnit) → l.parameters.interval ≤ interval_after last (moved base (Some last) us) →
    Spaced l.parameters.interval (last + l.parameters.interval) (map (timed l) (moved base (Some last) us))
unfolding moved Spaced interval_after unit_at dts_at
spaced_after l base last [] le = tt
spaced_after l base last (u ∷ us) le =
    let dts = last + distance (last + base) u.dts in
    (omega (arith, le), spaced_after l base dts us (omega (arith, le)))

spaced_all : (l : OwnedStream) (base : ℕ) (us : List AccessUnit) → l.parameters.interval ≤ min_interval (moved base None us) →
    FirstDue l.parameters.lead (moved base None us) →
    Spaced l.parameters.interval l.parameters.lead (map (timed l) (moved base None us))
unfolding moved Spaced min_interval FirstDue
spaced_all l base [] le due = tt
spaced_all l base (u ∷ us) le due = unfold unit_at in (due, spaced_after l base (dts_at base None u.dts) us le)

-- 3. The sizes of units

sized_all : (l : OwnedStream) (us : List AccessUnit) → max_unit_size us ≤ l.parameters.size → Sized (19 + l.parameters.size) (map (timed l) us)
unfolding Sized max_unit_size
sized_all l [] le = tt
sized_all l (u ∷ us) le =
    let most = bytes_most l.parameters.stream_id l.parameters.base0 l.parameters.size u (omega (arith, le)) in
    (omega (arith, most), sized_all l us (omega (arith, le)))

-- 4. The number of packets of units

grouped_all : (l : OwnedStream) (group most : ℕ) (us : List AccessUnit) → max_unit_size us ≤ l.parameters.size → max_group group (map (timed l) us) ≤ most →
    GroupsWithin group most (max_packets_per_unit l.parameters) (map (timed l) us)
unfolding GroupsWithin max_unit_size max_group
grouped_all l group most [] size le = tt
grouped_all l group most (u ∷ us) size le = (
  omega (arith, bytes_most l.parameters.stream_id l.parameters.base0 l.parameters.size u (omega (arith, size))),
  omega (arith, le),
  grouped_all l group most us (omega (arith, size)) (omega (arith, le)),
)

allowed_all : (a : Allowance) (l : OwnedStream) (us : List AccessUnit) → max_unit_size us ≤ l.parameters.size →
    Spaced l.parameters.interval l.parameters.lead (map (timed l) us) →
    AllowsUnits a l.parameters.stream_id l.parameters.base0 us → KeepsAllowance a (max_packets_per_unit l.parameters) (map (timed l) us)
allowed_all (Groups group most) l us size spaced allows = grouped_all l group most us size (omega (arith, allows))
allowed_all (Pace burst pace) l us size spaced allows =
    burst_law.more burst pace l.parameters.interval l.parameters.lead (map (timed l) us) spaced
    (within_burst (greatest_level pace (map (timed l) us)) burst (omega (arith, allows)))

-- 5. All declarations together

pub units_kept : UnitsAreKept
units_kept l limit base wire none some declares =
    let spaced = spaced_all l base wire declares.interval declares.lead in
    record {
      units = units_each l.parameters limit base 0 None wire none some declares.size declares.pts;
      spaced = spaced;
      sized = sized_all l (moved base None wire) declares.size;
      allowed = allowed_all l.parameters.allowance l (moved base None wire) declares.size spaced declares.allowance;
    }
