-- The keys of a table of the array `table`, a private table.
use Rattle.std.specs.Prelude.{ℕ, pos, Bool, not, ◌&&◌, ◌||◌, List, [], ◌∷◌, Option, codes, is_none, is_some}
use Rattle.toml.specs.Data.{Data, get}
use Rattle.description_values.specs.Values.{integer_at, sections_at, descriptors_at}
use Rattle.description_keys.specs.Rules.{Rule, needs, rule}
use Rattle.description_keys.specs.StreamKeys.{has_owner}
use Rattle.description_keys.specs.declared.key_row.KeyPart.TheVariants as part

abbrev pub private_pid : Data → Option ℕ
private_pid = integer_at (codes "pid") (pos 32) (pos 8190)

-- the greatest time between two starts of a section, in ms
abbrev pub private_limit : Data → Option ℕ
private_limit = integer_at (codes "limit") (pos 1) (pos 30000)

abbrev pub has_sections : Data → Bool
has_sections = sections_at (codes "sections")

-- the entry of the table in the PMT of a program (ISO/IEC 13818-1, 2.4.4.8): the table has an entry if one of these keys is there,
-- the program's number, stream_type (table 2-34) and descriptors, and then all three are required
abbrev pub is_listed : Data → Bool
is_listed part = is_some (get (codes "program") part) || is_some (get (codes "stream_type") part) || is_some (get (codes "descriptors") part)

abbrev pub entry_type : Data → Option ℕ
entry_type = integer_at (codes "stream_type") (pos 1) (pos 255)

abbrev pub entry_descriptors : Data → Option (List ℕ)
entry_descriptors = descriptors_at 700 (codes "descriptors")

-- the rules of the keys, by their numbers
abbrev pub table_rules : List Rule
table_rules = needs part.Table 71 (codes "pid") private_pid ∷ needs part.Table 72 (codes "limit") private_limit
    ∷ rule part.Table 73 (codes "sections") (λ document d. not (has_sections d))
    ∷ rule part.Table 74 (codes "program") (λ document d. is_listed d && not (has_owner document d))
    ∷ rule part.Table 75 (codes "stream_type") (λ document d. is_listed d && is_none (entry_type d))
    ∷ rule part.Table 76 (codes "descriptors") (λ document d. is_listed d && is_none (entry_descriptors d)) ∷ []
