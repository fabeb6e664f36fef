-- If all keys of a document are in range, the document has as many parts as a description may have.
use Rattle.std.proofs.Common.{◌≡◌, ℕ, get_or, inl, inr, suc, ◌≤◌, ◌<◌, ◌&&◌, not, nat_le, Bool, true, false, List, [], ◌∷◌, ◌++◌, length, Option, None, Some, unwrap_or}
use Rattle.std.proofs.Common.{option_map, refl, ap, sym, ◌∙◌, arith, if◌then◌else◌, All, position, codes, is_some}
use Rattle.std.proofs.lemmas.Bool.{and_parts, cases_lt, leb-true}
use Rattle.std.proofs.lemmas.List.Sums.{prefix_len_passes}
use Rattle.std.proofs.lemmas.Bool.Decides.{nat_tests}
use Rattle.std.proofs.lemmas.List.{length-map}
use Rattle.std.proofs.lemmas.List.Elements.{All-map, All-same}
use Rattle.std.specs.List.{list_all, filter_map, cons_option, AllByRecursion, prefix_len}
use Rattle.std.specs.Option.{option_or}
use Rattle.toml.specs.Data.{Data, get}
use Rattle.description_values.specs.Values.{elements, elements_in, array_in, are_tables, tables_at, are_sections, sections_at, has_length, is_table, is_section}
use Rattle.description_values.specs.Values.{section_in}
use Rattle.description_parts.specs.Contents.{described, described_sections, described_table, described_program, described_stream}
use Rattle.description_parts.specs.Described.{Described}
use Rattle.description_parts.specs.Ranges.{HasCounts}
use Rattle.description_keys.specs.EventKeys.{event_rules}
use Rattle.description_keys.specs.NetworkKeys.{network_rules, network_stream_rules}
use Rattle.description_keys.specs.ProgramKeys.{program_rules}
use Rattle.description_keys.specs.StreamKeys.{stream_rules}
use Rattle.description_keys.specs.TableKeys.{table_rules}
use Rattle.description_keys.specs.TopKeys.{is_transponder, limit_in, top_rules}
use Rattle.description_keys.specs.Rules.{Rule}
use Rattle.description_keys.specs.Refusals.{array_rule, first_fault, key_fault, network_rule, parts_of, programs_of, rules, streams_of, tables_of}
use Rattle.description_keys.specs.Refusals.{unknown_key_fault}
use Rattle.description_keys.specs.declared.key_row.KeyPart.TheVariants.{Document, Network}
use Rattle.description_keys.specs.declared.fault.DescFault.{DescFault}
use Rattle.description_keys.specs.declared.fault.DescFault.TheVariants.{Key}

-- If the choice of two options is `None`, both options are `None`.
pub or_none : {X : Type 0} (a b : Option X) → option_or a b ≡ None → (a ≡ None) × (b ≡ None)
or_none None b h = (refl, h)
or_none (Some x) b h = absurd (cc)

-- No part refuses a key.
abbrev pub Accepts : Data → List Rule → Type 0
Accepts d rules = AllByRecursion (λ rule. All (λ part. rule.refuses d part ≡ false) (parts_of rule.part d)) rules

-- The number of elements of an array of `low` to `high` tables
pub record HasLength (low high n : ℕ) : Type 0 where
  pub least : low ≤ n
  pub most : n ≤ high

has_length-is : (low high : ℕ) (ds : List Data) → has_length low high ds ≡ true → HasLength low high (length ds)
has_length-is low high ds h =
    let parts = and_parts (nat_le low (length ds)) (nat_le (length ds) high) h in
    record { least = leb-true low (length ds) parts.0; most = leb-true (length ds) high parts.1 }

tables_in : (low high : ℕ) (o : Option (List Data)) → (elim o [ None ↦ false | Some ds ↦ has_length low high ds && list_all is_table ds ]) ≡ true
    → HasLength low high (length (unwrap_or o []))
tables_in low high None h = absurd (cc)
tables_in low high (Some ds) h = has_length-is low high ds (and_parts (has_length low high ds) (list_all is_table ds) h).0

tables_of_value : (absent : Bool) (low high : ℕ) (o : Option Data) → (absent ≡ true → low ≡ 0)
    → (elim o [ None ↦ absent | Some value ↦ are_tables low high value ]) ≡ true
    → HasLength low high (length (elim o as (λ _. List Data) [ None ↦ [] | Some value ↦ elements_in value ]))
tables_of_value absent low high None zero h = let z = zero h in record { least = omega (arith, z); most = omega arith }
tables_of_value absent low high (Some value) zero h = tables_in low high (array_in value) h

pub elements-length : (absent : Bool) (key : List ℕ) (low high : ℕ) (d : Data) → (absent ≡ true → low ≡ 0) → tables_at absent key low high d ≡ true
    → HasLength low high (length (elements key d))
elements-length absent key low high d zero h = tables_of_value absent low high (get key d) zero h

-- If a mapped option is `None`, the option is `None`.
pub map_none : {X Y : Type 0} (f : X → Y) (o : Option X) → option_map f o ≡ None → o ≡ None
map_none f None h = refl
map_none f (Some x) h = absurd (cc)

pub not_true : (b : Bool) → not b ≡ true → b ≡ false
not_true true h = absurd (cc)
not_true false h = refl

pub no_position : {X : Type 0} (p : X → Bool) (xs : List X) → position p xs ≡ None → All (λ x. p x ≡ false) xs
no_position p xs h = λ k d within.
    elim (cases_lt (prefix_len (λ x. not (p x)) xs) (length xs)) [
      | inl before ↦ absurd (grind (arith, nat_tests, before, h))
      | inr after ↦
          let passes : not (p (get_or xs k d)) ≡ true = prefix_len_passes (λ x. not (p x)) xs k d (omega arith) in
          not_true (p (get_or xs k d)) passes
    ]

first_none : (o : Option ℕ) (rest : Option DescFault) (fault : ℕ → DescFault)
    → (elim o as (λ _. Option DescFault) [ None ↦ rest | Some place ↦ Some (fault place) ]) ≡ None → (o ≡ None) × (rest ≡ None)
first_none None rest fault h = (refl, h)
first_none (Some place) rest fault h = absurd (cc)

accepts : (d : Data) (rules : List Rule) → first_fault rules d ≡ None → Accepts d rules
accepts d [] h = tt
accepts d (rule ∷ rules) h =
    let both = first_none (position (rule.refuses d) (parts_of rule.part d)) (first_fault rules d) (λ place. Key rule.code place) h in
    (no_position (rule.refuses d) (parts_of rule.part d) both.0, accepts d rules both.1)

-- The first of two lists of rules, and the second, refuse no part if neither does.
two_parts : (d : Data) (a b : List Rule) → Accepts d (a ++ b) → Accepts d a × Accepts d b
two_parts d [] b h = (tt, h)
two_parts d (rule ∷ a) b h = let rest = two_parts d a b h.1 in ((h.0, rest.0), rest.1)

pub not_false : (b : Bool) → not b ≡ false → b ≡ true
not_false true h = refl
not_false false h = absurd (cc)

-- A number of tables that is accepted is in its range.
in_array : (d : Data) (code : ℕ) (absent : Bool) (name : List ℕ) (low most more : ℕ) (rules : List Rule)
    → Accepts d (array_rule Document code absent name low most more ∷ rules) → tables_at absent name low (limit_in d most more) d ≡ true
in_array d code absent name low most more rules h =
    let here : 0 < 1 = omega arith in
    not_false (tables_at absent name low (limit_in d most more) d) (h.0 0 d here)

-- A limit is at most its greater number.
either_limit : (b : Bool) (most more : ℕ) → most ≤ more → (if b then more else most) ≤ more
either_limit true most more h = omega arith
either_limit false most more h = h

pub limit_most : (d : Data) (most more : ℕ) → most ≤ more → limit_in d most more ≤ more
limit_most d most more h = either_limit (is_transponder d) most more h

-- No key of the document is refused.
pub record NoFault (d : Data) : Type 0 where
  pub programs : tables_at false (codes "program") 1 (limit_in d 16 64) d ≡ true
  pub program : Accepts d program_rules
  pub streams : tables_at true (codes "stream") 0 (limit_in d 32 254) d ≡ true
  pub stream : Accepts d stream_rules
  pub events : tables_at true (codes "event") 0 (limit_in d 256 1024) d ≡ true
  pub tables : tables_at true (codes "table") 0 (limit_in d 16 64) d ≡ true
  pub table : Accepts d table_rules

pub no_fault : (d : Data) → key_fault d ≡ None → NoFault d
unfolding rules
no_fault d h =
    let tables : List Rule = array_rule Document 70 true (codes "table") 0 16 64 ∷ table_rules in
    let events : List Rule = array_rule Document 60 true (codes "event") 0 256 1024 ∷ event_rules in
    let streams : List Rule = array_rule Document 40 true (codes "stream") 0 32 254 ∷ stream_rules in
    let programs : List Rule = array_rule Document 30 false (codes "program") 1 16 64 ∷ program_rules in
    let others : List Rule = array_rule Network 25 true (codes "stream") 0 64 64 ∷ network_stream_rules in
    let network : List Rule = network_rule ∷ network_rules in
    let all = accepts d rules (or_none (unknown_key_fault d) (first_fault rules d) h).1 in
    let one = two_parts d top_rules (network ++ (others ++ (programs ++ (streams ++ (events ++ tables))))) all in
    let named = two_parts d network (others ++ (programs ++ (streams ++ (events ++ tables)))) one.1 in
    let two = two_parts d others (programs ++ (streams ++ (events ++ tables))) named.1 in
    let three = two_parts d programs (streams ++ (events ++ tables)) two.1 in
    let four = two_parts d streams (events ++ tables) three.1 in
    let five = two_parts d events tables four.1 in
    record {
      programs = in_array d 30 false (codes "program") 1 16 64 program_rules three.0;
      program = three.0.1;
      streams = in_array d 40 true (codes "stream") 0 32 254 stream_rules four.0;
      stream = four.0.1;
      events = in_array d 60 true (codes "event") 0 256 1024 event_rules five.0;
      tables = in_array d 70 true (codes "table") 0 16 64 table_rules five.1;
      table = five.1.1;
    }

-- An array of sections
pub record AreSections (ds : List Data) : Type 0 where
  pub counted : HasLength 1 8 (length ds)
  pub sections : list_all is_section ds ≡ true

sections_in : (o : Option (List Data)) → (elim o [ None ↦ false | Some ds ↦ has_length 1 8 ds && list_all is_section ds ]) ≡ true
    → AreSections (unwrap_or o [])
sections_in None h = absurd (cc)
sections_in (Some ds) h =
    let parts = and_parts (has_length 1 8 ds) (list_all is_section ds) h in
    record { counted = has_length-is 1 8 ds parts.0; sections = parts.1 }

sections_of_value : (o : Option Data) → (elim o [ None ↦ false | Some value ↦ are_sections value ]) ≡ true
    → AreSections (elim o as (λ _. List Data) [ None ↦ [] | Some value ↦ elements_in value ])
sections_of_value None h = absurd (cc)
sections_of_value (Some value) h = sections_in (array_in value) h

cons_length : {X : Type 0} (o : Option X) (xs : List X) → is_some o ≡ true → length (cons_option o xs) ≡ suc (length xs)
cons_length None xs h = absurd (cc)
cons_length (Some x) xs h = refl

filtered_length : (ds : List Data) → list_all is_section ds ≡ true → length (filter_map section_in ds) ≡ length ds
filtered_length [] h = refl
filtered_length (d ∷ ds) h =
    let parts = and_parts (is_section d) (list_all is_section ds) h in
    cons_length (section_in d) (filter_map section_in ds) parts.0 ∙ ap suc (filtered_length ds parts.1)

-- A private table has 1 to 8 sections.
pub sections-length : (part : Data) → sections_at (codes "sections") part ≡ true → HasLength 1 8 (length (described_sections part))
sections-length part h =
    let are = sections_of_value (get (codes "sections") part) h in
    let same = filtered_length (elements (codes "sections") part) are.sections in
    record { least = omega (arith, same, are.counted.least); most = omega (arith, same, are.counted.most) }

pub table_sections : (d : Data) → NoFault d → All (λ part. HasLength 1 8 (length (described_sections part))) (tables_of d)
table_sections d none =
    λ k other within. sections-length (get_or (tables_of d) k other)
    (not_false (sections_at (codes "sections") (get_or (tables_of d) k other)) (none.table.1.1.0 k other within))

-- The numbers of programs, streams and tables are in range.
pub has_counts : (d : Data) → NoFault d → HasCounts (described d)
has_counts d none =
    let programs = elements-length false (codes "program") 1 (limit_in d 16 64) d (λ e. absurd (cc)) none.programs in
    let streams = elements-length true (codes "stream") 0 (limit_in d 32 254) d (λ e. refl) none.streams in
    let tables = elements-length true (codes "table") 0 (limit_in d 16 64) d (λ e. refl) none.tables in
    let few_programs = limit_most d 16 64 (omega arith) in
    let few_streams = limit_most d 32 254 (omega arith) in
    let few_tables = limit_most d 16 64 (omega arith) in
    let p = length-map (programs_of d) (described_program d) in
    let s = length-map (streams_of d) described_stream in
    let t = length-map (tables_of d) described_table in
    record {
      some_programs = omega (arith, p, programs.least);
      most_programs = omega (arith, p, programs.most, few_programs);
      most_streams = omega (arith, s, streams.most, few_streams);
      most_tables = omega (arith, t, tables.most, few_tables);
      most_sections =
          All-map (λ table. length table.sections ≤ 8) described_table (tables_of d) (λ k other within. (table_sections d none k other within).most);
    }

-- The counts depend only on the number of programs, the streams and the tables.
pub counts_of : (d e : Described) → length d.programs ≡ length e.programs → d.streams ≡ e.streams → d.tables ≡ e.tables → HasCounts d → HasCounts e
counts_of d e p s t h = record {
  some_programs = rw (← p) h.some_programs;
  most_programs = rw (← p) h.most_programs;
  most_streams = rw (← s) h.most_streams;
  most_tables = rw (← t) h.most_tables;
  most_sections = All-same (λ table. length table.sections ≤ 8) e.tables d.tables (sym t) h.most_sections;
}
