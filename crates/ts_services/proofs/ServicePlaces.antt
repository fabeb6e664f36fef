-- The place of a service holds its last description.
use Rattle.std.proofs.Common.{◌≡◌, ◌<◌, ◌≤◌, ℕ, ◌+◌, ◌==◌, nat_eq, cond, Bool, true, false, List, [], ◌∷◌, length, map, drop, get_or, slice_get, Option, Some}
use Rattle.std.proofs.Common.{None, refl, ap, ◌∙◌, add-one}
use Rattle.std.specs.Prelude.{is_some, option_and_then}
use Rattle.std.specs.Map.{lookup}
use Rattle.std.specs.Option.{option_or}
use Rattle.dvb_tables.specs.Services.{ServiceView}
use Rattle.dvb_tables.specs.ServiceDescription.{SdtView}
use Rattle.pid_findings.specs.Views.{FindingView}
use Rattle.ts_services.specs.ServiceDescriptions.{sdt_found}
use Rattle.ts_services.specs.Services.{FoundServiceView, in_entries, of_entry, service, service_by, service_found}
use Rattle.ts_services.specs.ServicePlaces.{ServicesAreThere, service_there, services_from, with_entries, with_entry, with_said, with_table}
use Rattle.program_tables.proofs.MapKeys.{inserted}
use Rattle.program_tables.proofs.MapPlaces.{at_front}
use Rattle.program_tables.proofs.Slices.{more, done}

-- 1. Findings one after another

pub services_more : {X : Type 0} (view : X → FindingView) (es next : List (ℕ × ℕ)) (i : ℕ) (fs : List X) (f : X) → i < length fs → f ≡ get_or fs i f →
    next ≡ with_table es i (sdt_found (view f)) → services_from es i (map view (drop i fs)) ≡ services_from next (i + 1) (map view (drop (i + 1) fs))
unfolding services_from
services_more view es next i fs f below at made = rw (more view i fs f below at, made) refl

pub services_end : {X : Type 0} (view : X → FindingView) (es : List (ℕ × ℕ)) (i : ℕ) (fs : List X) → length fs ≤ i →
    services_from es i (map view (drop i fs)) ≡ es
unfolding services_from
services_end view es i fs over = rw (done view i fs over) refl

-- 2. The changes by one entry, and by all entries of a table

-- The place of a finding, if its table describes the service.
abbrev placed : ℕ → Option FoundServiceView → Option ℕ → Option ℕ
placed at found before = cond (is_some found) (Some at) before

by_said : (number id at : ℕ) (es : List (ℕ × ℕ)) (found : Option FoundServiceView) (t : Bool) → (id == number) ≡ t →
    lookup (nat_eq number) (with_said es id at found) ≡ placed at (cond t found None) (lookup (nat_eq number) es)
unfolding with_said
by_said number id at es None true e = refl
by_said number id at es None false e = refl
by_said number id at es (Some found) true e = inserted number id at es true e
by_said number id at es (Some found) false e = inserted number id at es false e

either : (at : ℕ) (one rest : Option FoundServiceView) (before : Option ℕ) → placed at rest (placed at one before) ≡ placed at (option_or one rest) before
either at None rest before = refl
either at (Some found) None before = refl
either at (Some found) (Some other) before = refl

by_entry : (number at : ℕ) (es : List (ℕ × ℕ)) (s : ServiceView) →
    lookup (nat_eq number) (with_entry es at s) ≡ placed at (of_entry number s) (lookup (nat_eq number) es)
unfolding of_entry
by_entry number at es s = by_said number s.service_id at es (service_by s) (s.service_id == number) refl

by_entries : (number at : ℕ) (es : List (ℕ × ℕ)) (ss : List ServiceView) →
    lookup (nat_eq number) (with_entries es at ss) ≡ placed at (in_entries number ss) (lookup (nat_eq number) es)
unfolding with_entries in_entries
by_entries number at es [] = refl
by_entries number at es (s ∷ ss) =
    by_entries number at (with_entry es at s) ss ∙ ap (placed at (in_entries number ss)) (by_entry number at es s)
    ∙ either at (of_entry number s) (in_entries number ss) (lookup (nat_eq number) es)

-- 3. The changes by one finding

placed_there : (number at : ℕ) (all : List FindingView) (found : Option FoundServiceView) (before : Option ℕ) →
    option_and_then (service_found number) (slice_get all at) ≡ found →
    service_there number (placed at found before) all ≡ option_or found (service_there number before all)
unfolding service_there
placed_there number at all None before here = refl
placed_there number at all (Some found) before here = here

by_table : (number at : ℕ) (all : List FindingView) (es : List (ℕ × ℕ)) (f : FindingView) (sdt : Option SdtView) → slice_get all at ≡ Some f →
    sdt_found f ≡ sdt →
    service_there number (lookup (nat_eq number) (with_table es at sdt)) all
    ≡ option_or (option_and_then (λ t. in_entries number t.services) sdt) (service_there number (lookup (nat_eq number) es) all)
unfolding with_table service_found
by_table number at all es f None here is = refl
by_table number at all es f (Some sdt) here is =
    ap (λ (o : Option ℕ). service_there number o all) (by_entries number at es sdt.services)
    ∙ placed_there number at all (in_entries number sdt.services) (lookup (nat_eq number) es)
    (ap (option_and_then (service_found number)) here ∙ ap (option_and_then (λ (t : SdtView). in_entries number t.services)) is)

or_assoc : (a b c : Option FoundServiceView) → option_or a (option_or b c) ≡ option_or (option_or a b) c
or_assoc None b c = refl
or_assoc (Some x) b c = refl

-- 4. All findings

all_there : (number : ℕ) (all : List FindingView) (es : List (ℕ × ℕ)) (at : ℕ) (fs : List FindingView) → drop at all ≡ fs →
    service_there number (lookup (nat_eq number) (services_from es at fs)) all
    ≡ option_or (service number fs) (service_there number (lookup (nat_eq number) es) all)
unfolding services_from service service_found
all_there number all es at [] is = refl
all_there number all es at (f ∷ fs) is =
    let one = at_front all at f fs is in
    all_there number all (with_table es at (sdt_found f)) (at + 1) fs (ap (λ (n : ℕ). drop n all) (add-one at) ∙ one.later)
    ∙ ap (option_or (service number fs)) (by_table number at all es f (sdt_found f) one.here refl)
    ∙ or_assoc (service number fs) (service_found number f) (service_there number (lookup (nat_eq number) es) all)

pub services_are_there : ServicesAreThere
unfolding service_there
services_are_there number findings = all_there number findings [] 0 findings refl ∙ last (service number findings)
  where
    last : (o : Option FoundServiceView) → option_or o (service_there number (lookup (nat_eq number) []) findings) ≡ o
    last None = refl
    last (Some found) = refl
