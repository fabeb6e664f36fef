-- The places among findings of tables that describe services, by program_number, in one pass.
use Rattle.std.specs.Prelude.{◌≡◌, ℕ, ◌+◌, nat_eq, List, [], ◌∷◌, slice_get, Option, Some, None, option_and_then}
use Rattle.std.specs.Map.{lookup}
use Rattle.indexmap.specs.IndexMap.{insert_entry}
use Rattle.dvb_tables.specs.Services.{ServiceView}
use Rattle.dvb_tables.specs.ServiceDescription.{SdtView}
use Rattle.pid_findings.specs.Views.{FindingView}
use Rattle.ts_services.specs.ServiceDescriptions.{sdt_found}
use Rattle.ts_services.specs.Services.{FoundServiceView, service, service_by, service_found}

-- 1. Places: by service_id the place of the last finding whose table describes the service

unfoldable pub with_said : List (ℕ × ℕ) → ℕ → ℕ → Option FoundServiceView → List (ℕ × ℕ)
with_said es number at None = es
with_said es number at (Some found) = insert_entry nat_eq es number at

-- after an entry of the table that the finding at a place has
abbrev pub with_entry : List (ℕ × ℕ) → ℕ → ServiceView → List (ℕ × ℕ)
with_entry es at s = with_said es s.service_id at (service_by s)

unfoldable pub with_entries : List (ℕ × ℕ) → ℕ → List ServiceView → List (ℕ × ℕ)
with_entries es at [] = es
with_entries es at (s ∷ ss) = with_entries (with_entry es at s) at ss

unfoldable pub with_table : List (ℕ × ℕ) → ℕ → Option SdtView → List (ℕ × ℕ)
with_table es at None = es
with_table es at (Some sdt) = with_entries es at sdt.services

-- the places with further findings; the first has the place `at`
unfoldable pub services_from : List (ℕ × ℕ) → ℕ → List FindingView → List (ℕ × ℕ)
services_from es at [] = es
services_from es at (f ∷ fs) = services_from (with_table es at (sdt_found f)) (at + 1) fs

abbrev pub services_in : List FindingView → List (ℕ × ℕ)
services_in findings = services_from [] 0 findings

-- 2. What the finding at a place says of a service

unfoldable pub service_there : ℕ → Option ℕ → List FindingView → Option FoundServiceView
service_there number None findings = None
service_there number (Some at) findings = option_and_then (service_found number) (slice_get findings at)

-- the place by service_id finds the last description of each service
abbrev pub ServicesAreThere : Type 0
ServicesAreThere = (number : ℕ) (findings : List FindingView) →
    service_there number (lookup (nat_eq number) (services_in findings)) findings ≡ service number findings
