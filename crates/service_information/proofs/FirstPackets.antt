-- The first finding that a test passes, finding by finding
use Rattle.std.proofs.Common.{◌≡◌, ◌≤◌, ◌<◌, ℕ, ◌+◌, Bool, true, false, List, ◌∷◌, length, map, drop, get_or, Some, None, refl}
use Rattle.pid_findings.specs.Views.{FindingView}
use Rattle.program_tables.proofs.Slices.{more, done}
use Rattle.service_information.specs.FirstFindings.{first_packet}

pub packet_later : {X : Type 0} (view : X → FindingView) (passes : FindingView → Bool) (i : ℕ) (fs : List X) (f : X) → i < length fs → f ≡ get_or fs i f →
    passes (view f) ≡ false → first_packet passes (map view (drop i fs)) ≡ first_packet passes (map view (drop (i + 1) fs))
unfolding first_packet
packet_later view passes i fs f below at not = rw (more view i fs f below at, not) refl

pub packet_here : {X : Type 0} (view : X → FindingView) (passes : FindingView → Bool) (i : ℕ) (fs : List X) (f : X) → i < length fs → f ≡ get_or fs i f →
    passes (view f) ≡ true → first_packet passes (map view (drop i fs)) ≡ Some (view f).packet
unfolding first_packet
packet_here view passes i fs f below at is = rw (more view i fs f below at, is) refl

pub packet_end : {X : Type 0} (view : X → FindingView) (passes : FindingView → Bool) (i : ℕ) (fs : List X) → length fs ≤ i →
    first_packet passes (map view (drop i fs)) ≡ None
unfolding first_packet
packet_end view passes i fs over = rw (done view i fs over) refl
