-- Events, finding by finding
use Rattle.std.proofs.Common.{◌≡◌, ◌≤◌, ◌<◌, ℕ, ◌+◌, List, length, map, drop, get_or, refl}
use Rattle.pid_findings.specs.Views.{FindingView}
use Rattle.program_tables.proofs.Slices.{more, done}
use Rattle.service_information.specs.EventSections.{event_section_found}
use Rattle.service_information.specs.Events.{FoundEventView, with_findings, with_section}

pub events_more : {X : Type 0} (view : X → FindingView) (numbers : List ℕ) (i : ℕ) (fs : List X) (f : X) (taken after : List FoundEventView) → i < length fs →
    f ≡ get_or fs i f →
    after ≡ with_section numbers taken (event_section_found (view f)) →
    with_findings numbers taken (map view (drop i fs)) ≡ with_findings numbers after (map view (drop (i + 1) fs))
unfolding with_findings
events_more view numbers i fs f taken after below at made = rw (more view i fs f below at, made) refl

pub events_end : {X : Type 0} (view : X → FindingView) (numbers : List ℕ) (i : ℕ) (fs : List X) (taken : List FoundEventView) → length fs ≤ i →
    with_findings numbers taken (map view (drop i fs)) ≡ taken
unfolding with_findings
events_end view numbers i fs taken over = rw (done view i fs over) refl
