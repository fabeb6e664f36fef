-- Network information tables, finding by finding.
use Rattle.std.proofs.Common.{◌≡◌, ◌≤◌, ◌<◌, ℕ, ◌+◌, List, length, map, drop, get_or, Option, Some, None, refl}
use Rattle.std.specs.Option.{option_or}
use Rattle.pid_findings.specs.Views.{FindingView}
use Rattle.ts_services.specs.NetworkInformation.{network_said, first_network}
use Rattle.ts_services.specs.declared.network_information.KnownStream.{KnownStream}
use Rattle.program_tables.proofs.Slices.{more, done}

-- The first network.

pub first_more : {X : Type 0} (view : X → FindingView) (s : KnownStream) (i : ℕ) (fs : List X) (f : X) → i < length fs → f ≡ get_or fs i f →
    first_network s (map view (drop i fs)) ≡ option_or (network_said s (view f)) (first_network s (map view (drop (i + 1) fs)))
unfolding first_network
first_more view s i fs f below at = rw (more view i fs f below at) refl

pub first_end : {X : Type 0} (view : X → FindingView) (s : KnownStream) (i : ℕ) (fs : List X) → length fs ≤ i → first_network s (map view (drop i fs)) ≡ None
unfolding first_network
first_end view s i fs over = rw (done view i fs over) refl
