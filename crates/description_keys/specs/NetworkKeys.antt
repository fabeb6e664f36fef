-- The keys of the table `network`, and of a table of its array `stream`.
use Rattle.std.specs.Prelude.{ℕ, pos, ◌&&◌, ◌||◌, Bool, List, [], ◌∷◌, Option, codes, is_none, is_some}
use Rattle.toml.specs.Data.{Data, get}
use Rattle.description_values.specs.Values.{integer_at, text_at, descriptors_or_none}
use Rattle.description_keys.specs.Rules.{Rule, needs, rule}
use Rattle.description_keys.specs.declared.key_row.KeyPart.TheVariants as part

-- network_id (EN 300 468, 5.2.1)
abbrev pub network_id : Data → Option ℕ
network_id = integer_at (codes "id") (pos 0) (pos 65535)

abbrev pub has_name : Data → Bool
has_name network = is_some (get (codes "name") network)

abbrev pub network_name : Data → Option (List ℕ)
network_name = text_at 200 (codes "name")

-- the name may be absent beside `network_descriptors`
abbrev pub refuses_network_name : Data → Bool
refuses_network_name network = is_none (network_name network) && (has_name network || is_none (get (codes "network_descriptors") network))

-- descriptors of the network's transport stream
abbrev pub network_descriptors : Data → Option (List ℕ)
network_descriptors = descriptors_or_none 700 (codes "descriptors")

-- descriptors of the network itself, after its name
abbrev pub own_descriptors : Data → Option (List ℕ)
own_descriptors = descriptors_or_none 700 (codes "network_descriptors")

-- the rules of the keys, by their numbers
abbrev pub network_rules : List Rule
network_rules = needs part.Network 21 (codes "id") network_id
    ∷ rule part.Network 22 (codes "name") (λ document network. refuses_network_name network)
    ∷ needs part.Network 23 (codes "descriptors") network_descriptors
    ∷ needs part.Network 24 (codes "network_descriptors") own_descriptors ∷ []

-- another transport stream of the network: its transport_stream_id, its original_network_id and its descriptors
abbrev pub other_stream_id : Data → Option ℕ
other_stream_id = integer_at (codes "ts_id") (pos 0) (pos 65535)

abbrev pub other_network_id : Data → Option ℕ
other_network_id = integer_at (codes "original_network_id") (pos 0) (pos 65535)

abbrev pub other_descriptors : Data → Option (List ℕ)
other_descriptors = descriptors_or_none 700 (codes "descriptors")

abbrev pub network_stream_rules : List Rule
network_stream_rules = needs part.NetworkStream 26 (codes "ts_id") other_stream_id
    ∷ needs part.NetworkStream 27 (codes "original_network_id") other_network_id
    ∷ needs part.NetworkStream 28 (codes "descriptors") other_descriptors ∷ []
