-- The last description of a service, finding by finding.
use Rattle.std.proofs.Common.{◌≡◌, ◌≤◌, ◌<◌, ℕ, ◌+◌, List, length, map, drop, get_or, Option, option_map, refl, sym, None}
use Rattle.std.specs.Option.{option_or}
use Rattle.pid_findings.specs.Views.{FindingView}
use Rattle.ts_services.specs.Services.{FoundServiceView, service_found, service}
use Rattle.program_tables.proofs.LastMaps.{or_both}
use Rattle.program_tables.specs.Sections.{section_on}
use Rattle.ts_services.specs.ServiceDescriptions.{sdt_found}
use Rattle.program_tables.proofs.Slices.{more, done}

pub service_more : {X Y : Type 0} (view : X → FindingView) (shown : Y → FoundServiceView) (number i : ℕ) (fs : List X) (f : X) (found last next : Option Y) →
    i < length fs → f ≡ get_or fs i f → option_map shown found ≡ service_found number (view f) → next ≡ option_or found last →
    option_or (service number (map view (drop i fs))) (option_map shown last) ≡ option_or (service number (map view (drop (i + 1) fs))) (option_map shown next)
unfolding service
service_more view shown number i fs f found last next below at is made =
    rw (more view i fs f below at, made, sym is) (or_both shown (service number (map view (drop (i + 1) fs))) found last)

-- A finding without a section on PID 0x11 does not describe a service.
pub says_nothing : (number : ℕ) (f : FindingView) → section_on 0x11 f ≡ None → service_found number f ≡ None
unfolding service_found sdt_found
says_nothing number f none = rw none refl

pub service_end : {X Y : Type 0} (view : X → FindingView) (shown : Y → FoundServiceView) (number i : ℕ) (fs : List X) (last : Option Y) → length fs ≤ i →
    option_or (service number (map view (drop i fs))) (option_map shown last) ≡ option_map shown last
unfolding service
service_end view shown number i fs last over = rw (done view i fs over) refl
