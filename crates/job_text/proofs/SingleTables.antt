-- A table at a key, as lines
use Rattle.std.proofs.Common.{◌≡◌, ℕ, true, List, [], ◌∷◌, ◌++◌, Option, Some, None, refl, arith}
use Rattle.toml_writer.specs.Text.{key_text}
use Rattle.std.specs.Ordering.{nat_cmp, is_lt}
use Rattle.std.specs.Cmp.Lexicographic.{slice_cmp}
use Rattle.toml.specs.Data.{is_before, table, Members, members_are_sorted}
use Rattle.toml.specs.Tables.{Expression, std_table}
use Rattle.toml.specs.Text.{needs_header, pairs, sections, section}
use Rattle.job_text.specs.KeyLines.{table_header}
use Rattle.job_text.specs.Documents.{with_table}
use Rattle.job_text.proofs.Comments.{IsCommented, AreCommented}

-- The keys of the table are in order.
abbrev pub IsTable : Option Members → Type 0
IsTable None = Unit {0}
IsTable (Some t) = members_are_sorted t ≡ true

abbrev pub expressions_if_any : List ℕ → Option Members → List Expression
expressions_if_any key None = []
expressions_if_any key (Some t) = section ([], key) (table t)

header_is_text : (key : List ℕ) → key_text key ≡ key → IsCommented true ([], key) std_table (table_header key)
unfolding table_header
header_is_text key bare = rw bare refl

-- The lines of the table are lines of TOML after its header, if its expressions are those of its own lines.
pub table_is_text : (key : List ℕ) (t : Members) (es : List Expression) (own : List ℕ) → key_text key ≡ key → needs_header t ≡ true →
    pairs t ++ sections (key ∷ []) t ≡ es → AreCommented true es own → AreCommented true (expressions_if_any key (Some t)) (table_header key ++ own)
table_is_text key t es own bare head same h = rw (head, same) (table_header key, own, refl, header_is_text key bare, omega arith, h)

-- A table among other keys
pub pairs_past_table : (key : List ℕ) (t : Option Members) (more : Members) → pairs (with_table key t more) ≡ pairs more
pairs_past_table key None more = refl
pairs_past_table key (Some t) more = refl

pub sections_with_table : (key : List ℕ) (t : Option Members) (more : Members)
    → sections [] (with_table key t more) ≡ expressions_if_any key t ++ sections [] more
sections_with_table key None more = refl
sections_with_table key (Some t) more = refl

pub sorted_past_table : (key : List ℕ) (t : Option Members) (more : Members) → is_before key more ≡ true → IsTable t →
    members_are_sorted (with_table key t more) ≡ members_are_sorted more
sorted_past_table key None more first h = refl
sorted_past_table key (Some t) more first h = rw (first, h)

pub before_table : (other key : List ℕ) (t : Option Members) (more : Members) → is_lt (slice_cmp nat_cmp other key) ≡ true → is_before other more ≡ true →
    is_before other (with_table key t more) ≡ true
before_table other key None more first last = last
before_table other key (Some t) more first last = first
