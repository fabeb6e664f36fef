-- PES packets without a program, finding by finding.
use Rattle.std.proofs.Common.{◌≡◌, ◌≤◌, ◌<◌, ℕ, ◌+◌, List, ◌++◌, length, map, drop, get_or, refl}
use Rattle.pid_findings.specs.Views.{FindingView}
use Rattle.stream_programs.specs.StrayPids.{stray_pid, stray_pids}
use Rattle.program_tables.proofs.Slices.{more, done}

pub strays_more : {X : Type 0} (view : X → FindingView) (known : List ℕ) (i : ℕ) (fs : List X) (f : X) (found after : List ℕ) → i < length fs →
    f ≡ get_or fs i f →
    after ≡ found ++ stray_pid known found (view f) →
    stray_pids known found (map view (drop i fs)) ≡ stray_pids known after (map view (drop (i + 1) fs))
unfolding stray_pids
strays_more view known i fs f found after below at made = rw (more view i fs f below at, made) refl

pub strays_end : {X : Type 0} (view : X → FindingView) (known : List ℕ) (i : ℕ) (fs : List X) (found : List ℕ) → length fs ≤ i →
    stray_pids known found (map view (drop i fs)) ≡ found
unfolding stray_pids
strays_end view known i fs found over = rw (done view i fs over) refl
