-- The time of a stream, finding by finding
use Rattle.std.proofs.Common.{◌≡◌, ◌≤◌, ◌<◌, ℕ, ◌+◌, List, length, map, drop, get_or, None, refl}
use Rattle.std.specs.Option.{option_or}
use Rattle.pid_findings.specs.Views.{FindingView}
use Rattle.program_tables.proofs.Slices.{more, done}
use Rattle.service_information.specs.StreamTime.{time_found, stream_time}

pub time_more : {X : Type 0} (view : X → FindingView) (i : ℕ) (fs : List X) (f : X) → i < length fs → f ≡ get_or fs i f →
    stream_time (map view (drop i fs)) ≡ option_or (time_found (view f)) (stream_time (map view (drop (i + 1) fs)))
unfolding stream_time
time_more view i fs f below at = rw (more view i fs f below at) refl

pub time_end : {X : Type 0} (view : X → FindingView) (i : ℕ) (fs : List X) → length fs ≤ i → stream_time (map view (drop i fs)) ≡ None
unfolding stream_time
time_end view i fs over = rw (done view i fs over) refl
