-- A unit that has a moment is due soon after the unit before it.
use Rattle.std.proofs.Common.{◌≡◌, ◌∙◌, ℕ, false, Option, Some, None, [], refl, sym, ap}
use Rattle.std.specs.Option.{option_to_list}
use Rattle.pes_packet.specs.AccessUnits.{AccessUnit}
use Rattle.es_moments.specs.Stamps.{dts_at, dts_not_increasing, dts_too_far, or_fault, pts_out_of_range, unit_at, unit_fault}
use Rattle.es_moments.specs.declared.stamps.StampFault.{StampFault}
use Rattle.es_units.proofs.ApartSteps.{Soon}
use Rattle.es_moments.proofs.StampFaults.{or_none}
use Rattle.es_feed.specs.EachStream.{has_fault, have_fault}
use Rattle.fed_streams.specs.Feeding.{at_moment, base_of, fed_with, greatest_pts_limit, unless_fault}
use Rattle.fed_streams.specs.declared.due.Due.{Due}
use Rattle.fed_streams.specs.declared.origin.Origin.{Origin}
use Rattle.es_feed.proofs.FedSteps.{HasBase, if_first}
use Rattle.es_moments.specs.WireUnits.{CarriedUnit}

fault_none : (n : ℕ) (greatest : Option ℕ) (fault : Option StampFault) (u : AccessUnit) → has_fault (n, unless_fault greatest fault u) ≡ false → fault ≡ None
unfolding unless_fault has_fault
fault_none n greatest None u none = refl
fault_none n greatest (Some fault) u none = absurd cc

pub given_soon : (d : Due) (o : Origin) (n base : ℕ) (before : Option ℕ) (w : Option CarriedUnit) → HasBase d o w base →
    have_fault (option_to_list (fed_with d o n before w)) ≡ false → Soon base before (option_to_list w)
unfolding fed_with Soon
given_soon d o n base before None here none = tt
given_soon d o n base before (Some u) here none =
    let b = base_of d o u in
    let one = if_first (has_fault (n, at_moment d.greatest b before u.unit)) (have_fault []) none in
    let sound = fault_none n d.greatest (unit_fault greatest_pts_limit b before u.unit) (unit_at b before u.unit) one in
    let rises = (or_none (dts_not_increasing b before u.unit.dts)
    (or_fault (pts_out_of_range greatest_pts_limit b (dts_at b before u.unit.dts) u.unit.pts) (dts_too_far (dts_at b before u.unit.dts))) sound).0 in
    ap (λ (c : ℕ). dts_not_increasing c before u.unit.dts) (sym (here u refl)) ∙ rises
