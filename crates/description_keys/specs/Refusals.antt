-- The first refusal of a document, in the order of the codes and then of the items.
use Rattle.std.specs.Prelude.{ℕ, Bool, false, true, not, ◌&&◌, List, [], ◌∷◌, ◌++◌, Option, None, Some, codes, position, if◌then◌else◌}
use Rattle.std.specs.List.{list_all}
use Rattle.std.specs.Option.{option_or, option_to_list}
use Rattle.toml.specs.Data.{Data, get}
use Rattle.description_values.specs.Values.{elements, is_table, tables_at}
use Rattle.description_values.specs.KnownKeys.{knows_keys}
use Rattle.description_keys.specs.Rules.{Rule, names_in, rule}
use Rattle.description_keys.specs.TopKeys.{limit_in, top_rules}
use Rattle.description_keys.specs.NetworkKeys.{network_rules, network_stream_rules}
use Rattle.description_keys.specs.ProgramKeys.{program_rules}
use Rattle.description_keys.specs.StreamKeys.{stream_rules}
use Rattle.description_keys.specs.EventKeys.{event_rules}
use Rattle.description_keys.specs.TableKeys.{table_rules}
use Rattle.description_keys.specs.declared.key_row.KeyPart.{KeyPart}
use Rattle.description_keys.specs.declared.key_row.KeyPart.TheVariants as part
use Rattle.description_keys.specs.declared.fault.DescFault.{DescFault}
use Rattle.description_keys.specs.declared.fault.DescFault.TheVariants.{Key, UnknownKey}

-- 1. The parts of a document

-- the tables of the array, or the table, at a key
abbrev pub programs_of : Data → List Data
programs_of = elements (codes "program")

abbrev pub streams_of : Data → List Data
streams_of = elements (codes "stream")

abbrev pub events_of : Data → List Data
events_of = elements (codes "event")

abbrev pub tables_of : Data → List Data
tables_of = elements (codes "table")

abbrev pub network_of : Data → Option Data
network_of = get (codes "network")

abbrev pub other_streams_of : Option Data → List Data
other_streams_of None = []
other_streams_of (Some network) = elements (codes "stream") network

-- the parts of a kind, in their order
abbrev pub parts_of : KeyPart → Data → List Data
parts_of part.Document d = d ∷ []
parts_of part.Network d = option_to_list (network_of d)
parts_of part.Program d = programs_of d
parts_of part.Stream d = streams_of d
parts_of part.Event d = events_of d
parts_of part.Table d = tables_of d
parts_of part.NetworkStream d = other_streams_of (network_of d)

-- 2. The rules in the order of their refusals: a table or an array before its keys

-- the network is a table, if there is one
abbrev pub is_no_table : Option Data → Bool
is_no_table None = false
is_no_table (Some network) = not (is_table network)

abbrev pub network_rule : Rule
network_rule = rule part.Document 20 (codes "network") (λ document d. is_no_table (network_of d))

-- an array of tables: its part, whether it may be absent, its key, and the least and the greatest number of tables, without and with
-- `transponder`
abbrev pub array_rule : KeyPart → ℕ → Bool → List ℕ → ℕ → ℕ → ℕ → Rule
array_rule owner code absent name least most more =
    rule owner code name (λ document d. not (tables_at absent name least (limit_in document most more) d))

unfoldable pub rules : List Rule
rules = top_rules
    ++ ((network_rule ∷ network_rules)
    ++ ((array_rule part.Network 25 true (codes "stream") 0 64 64 ∷ network_stream_rules)
    ++ ((array_rule part.Document 30 false (codes "program") 1 16 64 ∷ program_rules)
    ++ ((array_rule part.Document 40 true (codes "stream") 0 32 254 ∷ stream_rules)
    ++ ((array_rule part.Document 60 true (codes "event") 0 256 1024 ∷ event_rules)
    ++ (array_rule part.Document 70 true (codes "table") 0 16 64 ∷ table_rules))))))

-- the keys that a part may have
abbrev pub names_of : KeyPart → List (List ℕ)
names_of one = names_in one rules

-- a key that no description has, in the document or in a part that is a table
abbrev pub knows_part : Data → KeyPart → Bool
knows_part d one = list_all (knows_keys (names_of one)) (parts_of one d)

abbrev pub has_unknown_key : Data → Bool
has_unknown_key d = not (knows_part d part.Document
    && (knows_part d part.Network && knows_part d part.NetworkStream)
    && (knows_part d part.Program && knows_part d part.Stream)
    && (knows_part d part.Event && knows_part d part.Table))

abbrev pub unknown_key_fault : Data → Option DescFault
unknown_key_fault d = if has_unknown_key d then Some UnknownKey else None

-- 3. The first rule that refuses a part, at the first part that it refuses

abbrev pub first_fault : List Rule → Data → Option DescFault
first_fault [] d = None
first_fault (r ∷ rs) d = elim (position (r.refuses d) (parts_of r.part d)) [ None ↦ first_fault rs d | Some place ↦ Some (Key r.code place) ]

-- the first refusal of a key
abbrev pub key_fault : Data → Option DescFault
key_fault d = option_or (unknown_key_fault d) (first_fault rules d)
