-- The transport streams in the sections of the network information table (EN 300 468, 5.2.1).
use Rattle.std.specs.Prelude.{◌≡◌, ℕ, suc, ◌+◌, ◌≤◌, Bool, List, [], ◌∷◌, length, sum_by, All, IsTrue, Some}
use Rattle.description_parts.specs.Cuts.{joined}
use Rattle.description_parts.specs.Described.{Described, DescribedNetwork}
use Rattle.description_parts.specs.Ranges.{IsInRange, longest_section}
use Rattle.description_parts.specs.Tables.{most_network_bytes, network_stream_length, network_streams, nit_lengths, nit_parts}
use Rattle.description_parts.specs.declared.network_stream.NetworkStream.{NetworkStream}

-- the sections have all transport streams, each once and in order; there is one section if all fit in it beside the network's
-- descriptors; for a transponder each section has room for its own
pub record AreNitParts (is_transponder : Bool) (n : DescribedNetwork) (ss : List NetworkStream) (parts : List (List NetworkStream)) : Type 0 where
  pub whole : joined parts ≡ ss
  pub some : 1 ≤ length parts
  pub most : length parts ≤ suc (length ss)
  pub one : length n.network_descriptors + sum_by network_stream_length ss ≤ most_network_bytes → parts ≡ ss ∷ []
  pub fit : IsTrue is_transponder → All (λ l. l ≤ longest_section) (nit_lengths n 0 parts)

abbrev pub NitPartsLaw : Type 0
NitPartsLaw = (d : Described) → IsInRange d → (n : DescribedNetwork) → d.network ≡ Some n
    → AreNitParts d.is_transponder n (network_streams d n) (nit_parts d n)
