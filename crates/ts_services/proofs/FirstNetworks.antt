-- The first network that is found, finding by finding.
use Rattle.std.proofs.Common.{◌≡◌, ◌≤◌, ◌<◌, ℕ, ◌+◌, List, length, map, drop, get_or, None, refl}
use Rattle.std.specs.Option.{option_or}
use Rattle.pid_findings.specs.Views.{FindingView}
use Rattle.ts_services.specs.Networks.{network_found, network}
use Rattle.program_tables.proofs.Slices.{more, done}

pub network_more : {X : Type 0} (view : X → FindingView) (i : ℕ) (fs : List X) (f : X) → i < length fs → f ≡ get_or fs i f →
    network (map view (drop i fs)) ≡ option_or (network_found (view f)) (network (map view (drop (i + 1) fs)))
unfolding network
network_more view i fs f below at = rw (more view i fs f below at) refl

pub network_end : {X : Type 0} (view : X → FindingView) (i : ℕ) (fs : List X) → length fs ≤ i → network (map view (drop i fs)) ≡ None
unfolding network
network_end view i fs over = rw (done view i fs over) refl
