-- Arrays of tables, as lines
use Rattle.std.proofs.Common.{◌≡◌, ◌<◌, ℕ, length, true, List, [], ◌∷◌, ◌++◌, map, codes, refl, sym, ap, subst, ◌∙◌, arith, append_assoc, append-nil}
use Rattle.std.specs.List.{flat_map}
use Rattle.toml_parser.specs.Strings.{Key}
use Rattle.toml_writer.specs.Text.{dotted_text}
use Rattle.std.specs.Ordering.{nat_cmp, is_lt}
use Rattle.std.specs.Cmp.Lexicographic.{slice_cmp}
use Rattle.toml.specs.Data.{is_before, Members, items_are_sorted, members_are_sorted}
use Rattle.toml.specs.Tables.{Expression, array_table}
use Rattle.toml.specs.Text.{pairs, sections, elements, are_tables}
use Rattle.job_text.specs.KeyLines.{header}
use Rattle.job_text.specs.Documents.{elements_of, with_tables}
use Rattle.job_text.proofs.Comments.{IsCommented, IsTail, AreCommented, commented_both}
use Rattle.job_text.proofs.Scalars.{AreScalars, noted_are_text, noted_lines, no_sections}

-- Each table has only scalars, and its keys are in order.
abbrev pub AreTables : List Members → Type 0
AreTables [] = Unit {0}
AreTables (t ∷ ts) = AreScalars t × (members_are_sorted t ≡ true) × AreTables ts

pub all_tables : (ts : List Members) → are_tables (elements_of ts) ≡ true
all_tables [] = refl
all_tables (t ∷ ts) = all_tables ts

pub all_sorted : (ts : List Members) → AreTables ts → items_are_sorted (elements_of ts) ≡ true
all_sorted [] h = refl
all_sorted (t ∷ ts) h = rw h.1 (all_sorted ts h.2)

-- The name is that of the key, and the key's path is no longer than TOML's reader takes.
pub record IsNamed (key : Key) (name : List ℕ) : Type 0 where
  pub text : dotted_text key ≡ name
  pub short : length key.0 < 80

header_is_text : (key : Key) (name : List ℕ) → dotted_text key ≡ name → IsCommented true key array_table (header name)
unfolding header
header_is_text key name is = rw is refl

-- An element before other expressions
element_is_text : (key : Key) (name : List ℕ) (t : Members) (es : List Expression) (own text : List ℕ) → IsNamed key name → AreScalars t
    → AreCommented true (pairs t) own → AreCommented true es text
    → AreCommented true ((key, array_table) ∷ ((pairs t ++ sections (key.0 ++ key.1 ∷ []) t) ++ es)) (header name ++ (own ++ text))
element_is_text key name t es own text is h lines more =
    let all : AreCommented true (pairs t ++ []) own = rw append-nil lines in
    let both = commented_both true (pairs t ++ []) es own text all more in
    rw (no_sections (key.0 ++ key.1 ∷ []) t h) (header name, own ++ text, refl, header_is_text key name is.text, is.short, both)

-- The lines of the elements, each with a note at the key `at`, are lines of TOML.
pub elements_are_text : {X : Type 0} (key : Key) (name at : List ℕ) (table_of : X → Members) (note text : X → List ℕ) (xs : List X) → IsNamed key name
    → ((x : X) → IsTail (note x ++ codes "\n")) → ((x : X) → header name ++ noted_lines at (note x) (table_of x) ≡ text x)
    → AreTables (map table_of xs) → AreCommented true (elements key (elements_of (map table_of xs))) (flat_map text xs)
elements_are_text key name at table_of note text [] is tail lines h = refl
elements_are_text key name at table_of note text (x ∷ xs) is tail lines h =
    let t = table_of x in
    let es = elements key (elements_of (map table_of xs)) in
    let own = noted_lines at (note x) t in
    let rest = flat_map text xs in
    let more = elements_are_text key name at table_of note text xs is tail lines h.2 in
    let whole : header name ++ (own ++ rest) ≡ text x ++ rest =
    sym (append_assoc (header name) own rest) ∙ ap (λ (s : List ℕ). s ++ rest) (lines x) in
    subst (λ (s : List ℕ). AreCommented true ((key, array_table) ∷ ((pairs t ++ sections (key.0 ++ key.1 ∷ []) t) ++ es)) s) whole
    (element_is_text key name t es own rest is h.0 (noted_are_text true at (note x) t (tail x) h.0) more)

-- An array among other keys
pub pairs_past : (key : List ℕ) (ts : List Members) (more : Members) → pairs (with_tables key ts more) ≡ pairs more
pairs_past key [] more = refl
pairs_past key (t ∷ ts) more = rw (all_tables ts)

pub sections_with : (path : List (List ℕ)) (key : List ℕ) (ts : List Members) (more : Members)
    → sections path (with_tables key ts more) ≡ elements (path, key) (elements_of ts) ++ sections path more
sections_with path key [] more = refl
sections_with path key (t ∷ ts) more = rw (all_tables ts)

pub sorted_past : (key : List ℕ) (ts : List Members) (more : Members) → is_before key more ≡ true → AreTables ts
    → members_are_sorted (with_tables key ts more) ≡ members_are_sorted more
sorted_past key [] more first h = refl
sorted_past key (t ∷ ts) more first h = rw (first, all_sorted (t ∷ ts) h)

pub before_tables : (other key : List ℕ) (ts : List Members) (more : Members) → is_lt (slice_cmp nat_cmp other key) ≡ true → is_before other more ≡ true
    → is_before other (with_tables key ts more) ≡ true
before_tables other key [] more first last = last
before_tables other key (t ∷ ts) more first last = first
