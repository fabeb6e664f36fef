-- A rule of a key: the part of a description that has the key, the number of its refusal, its name, and what is refused, in a document and
-- such a part of it.
use Rattle.std.specs.Prelude.{ℕ, ◌&&◌, ◌==◌, Bool, List, map, filter, Option, bytes_eq, is_none}
use Rattle.toml.specs.Data.{Data}
use Rattle.description_keys.specs.declared.key_row.KeyPart.{KeyPart}
use Rattle.description_keys.specs.declared.key_row.KeyPart.TheVariants as part

pub record Rule : Type 0 where
  pub part : KeyPart
  pub code : ℕ
  pub name : List ℕ
  pub refuses : Data → Data → Bool

abbrev pub rule : KeyPart → ℕ → List ℕ → (Data → Data → Bool) → Rule
rule part code name refuses = record { part = part; code = code; name = name; refuses = refuses }

-- a part is refused that has no value of its key
abbrev pub needs : {X : Type 0} → KeyPart → ℕ → List ℕ → (Data → Option X) → Rule
needs part code name value = rule part code name (λ document d. is_none (value d))

-- a kind of part by its number
abbrev pub part_number : KeyPart → ℕ
part_number part.Document = 0
part_number part.Network = 1
part_number part.Program = 2
part_number part.Stream = 3
part_number part.Event = 4
part_number part.Table = 5
part_number part.NetworkStream = 6

abbrev pub is_of : KeyPart → KeyPart → Bool
is_of one other = part_number one == part_number other

-- the names of a part's keys
abbrev pub names_in : KeyPart → List Rule → List (List ℕ)
names_in owner rules = map (λ rule. rule.name) (filter (λ rule. is_of rule.part owner) rules)

-- the key of a part with a name
abbrev pub is_key_of : KeyPart → List ℕ → Rule → Bool
is_key_of owner name rule = is_of rule.part owner && bytes_eq rule.name name
