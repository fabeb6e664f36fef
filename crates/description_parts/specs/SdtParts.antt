-- The services in the sections of the service description table (EN 300 468, 5.2.3).
use Rattle.std.specs.Prelude.{◌≡◌, ℕ, ◌≤◌, Bool, List, [], ◌∷◌, length, sum_by, All, IsTrue}
use Rattle.description_parts.specs.Cuts.{joined}
use Rattle.description_parts.specs.Described.{Described, DescribedProgram}
use Rattle.description_parts.specs.Ranges.{IsInRange, IsProgram}
use Rattle.description_parts.specs.Tables.{most_services, sdt_parts, service_length}

-- the sections have all programs, each once and in order; there is one section if all services fit in it; for a transponder each section has
-- room for its services
pub record AreSdtParts (is_transponder : Bool) (ps : List DescribedProgram) (parts : List (List DescribedProgram)) : Type 0 where
  pub whole : joined parts ≡ ps
  pub some : 1 ≤ length parts
  pub most : length parts ≤ length ps
  pub programs : All (All IsProgram) parts
  pub one : sum_by service_length ps ≤ most_services → parts ≡ ps ∷ []
  pub fit : IsTrue is_transponder → All (λ part. sum_by service_length part ≤ most_services) parts

abbrev pub SdtPartsLaw : Type 0
SdtPartsLaw = (d : Described) → IsInRange d → AreSdtParts d.is_transponder d.programs (sdt_parts d)
