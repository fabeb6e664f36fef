-- A version that a description names is below 32.
use Rattle.std.proofs.Common.{◌≡◌, ℕ, ◌<◌, ◌≤◌, ◌+◌, ◌==◌, ◌&&◌, nat_le, position, take, drop, Bool, true, false, List, [], ◌∷◌, Option, None, Some, IfSome}
use Rattle.std.proofs.Common.{codes, option_and_then, option_map, unwrap_or, refl, arith, length, if◌then◌else◌}
use Rattle.toml.specs.Data.{Data, as_str}
use Rattle.description_values.specs.Values.{elements}
use Rattle.description_keys.specs.VersionKeys.{first_version, if_within, is_version_of, named_version, new_version, number_after, number_within, numbered_version}
use Rattle.description_keys.specs.VersionKeys.{program_table, stream_table, version_after, version_at, version_if, version_in, version_of_program}
use Rattle.description_keys.specs.VersionKeys.{version_of_stream}
use Rattle.description_keys.specs.declared.version_keys.NamedTable.{NamedTable}
use Rattle.description_keys.specs.declared.version_keys.NamedVersion.{NamedVersion}
use Rattle.description_parts.proofs.KeyRanges.{Within, tested, then_all, map_all}
use Rattle.std.proofs.lemmas.Bool.Decides.{nat_tests}

abbrev IsSmall : NamedVersion → Type 0
IsSmall v = v.version < 32

within_is : (low high n : ℕ) → IfSome (if_within low high n) (Within low high)
within_is low high n = tested low high n (nat_le low n) (nat_le n high) (λ e. grind (arith, nat_tests)) (λ e. grind (arith, nat_tests))

number_is : (low high : ℕ) (text : List ℕ) → IfSome (number_within low high text) (Within low high)
number_is low high [] = tt
number_is low high (c ∷ text) = then_all (Within low high) (if_within low high) (number_after 0 (c ∷ text)) (within_is low high)

stream_is : (table : NamedTable) (text : List ℕ) → IfSome (version_of_stream table text) IsSmall
stream_is table text =
    map_all IsSmall (Within 0 31) (new_version table 0) (number_within 0 31 text) (λ n w. omega (arith, w.most)) (number_is 0 31 text)

numbered_is : (table : NamedTable) (program version : Option ℕ) → IfSome version (Within 0 31) → IfSome (numbered_version table program version) IsSmall
numbered_is table None None h = tt
numbered_is table None (Some v) h = tt
numbered_is table (Some p) None h = tt
numbered_is table (Some p) (Some v) h = omega (arith, h.most)

split_is : (table : NamedTable) (text : List ℕ) (o : Option ℕ) → IfSome (elim o as (λ _. Option NamedVersion) [
  | None ↦ None
  | Some i ↦ numbered_version table (number_within 1 65535 (take i text)) (number_within 0 31 (drop (i + 1) text))
]) IsSmall
split_is table text None = tt
split_is table text (Some i) = numbered_is table (number_within 1 65535 (take i text)) (number_within 0 31 (drop (i + 1) text))
    (number_is 0 31 (drop (i + 1) text))

after_is : (stream program : Option NamedTable) (text : List ℕ) → IfSome (version_after stream program text) IsSmall
after_is (Some table) program text = stream_is table text
after_is None (Some table) text = split_is table text (position (λ c. c == 32) text)
after_is None None text = tt

if_is : {X : Type 0} (P : X → Type 0) (b : Bool) (o : Option X) → IfSome o P → IfSome (if b then o else None) P
if_is P true o h = h
if_is P false o h = tt

in_is : (text : List ℕ) → IfSome (version_in text) IsSmall
in_is text =
    if_is IsSmall (nat_le 4 (length text)) (version_after (stream_table text) (program_table text) (drop 4 text))
    (after_is (stream_table text) (program_table text) (drop 4 text))

named_is : (d : Data) → IfSome (named_version d) IsSmall
named_is d = then_all IsSmall version_in (as_str d) in_is

small_if : (b : Bool) (v : NamedVersion) → IsSmall v → IfSome (if b then Some v.version else None) (λ n. n < 32)
small_if true v h = h
small_if false v h = tt

of_named : (table : NamedTable) (program : ℕ) (o : Option NamedVersion) → IfSome o IsSmall
    → IfSome (option_and_then (λ v. if is_version_of table program v then Some v.version else None) o) (λ n. n < 32)
of_named table program None h = tt
of_named table program (Some v) h = small_if (is_version_of table program v) v h

or_small : (o : Option ℕ) (rest : ℕ) → IfSome o (λ n. n < 32) → rest < 32 → unwrap_or o rest < 32
or_small None rest h k = k
or_small (Some n) rest h k = h

first_is : (table : NamedTable) (program : ℕ) (ds : List Data) → first_version table program ds < 32
first_is table program [] = omega arith
first_is table program (d ∷ ds) =
    or_small (version_if table program d) (first_version table program ds) (of_named table program (named_version d) (named_is d)) (first_is table program ds)

pub version_at-is : (table : NamedTable) (program : ℕ) (document : Data) → version_at table program document < 32
version_at-is table program document = first_is table program (elements (codes "versions") document)
