-- The place of a description's key in its text: on a line of its own, below the head of its table in brackets (TOML 1.0).
use Rattle.std.specs.Prelude.{ℕ, ◌+◌, ◌-◌, ◌==◌, ◌&&◌, ◌||◌, Bool, true, false, List, [], ◌∷◌, ◌++◌, length, drop, Option, Some, None, codes, decimal, nat_eq}
use Rattle.std.specs.Prelude.{if◌then◌else◌}
use Rattle.std.specs.List.{slice_split, starts_with}

-- the lines of a text
abbrev pub lines_of : List ℕ → List (List ℕ)
lines_of text = slice_split (λ b. b == 10) text

-- a line without the spaces and tabs before it
abbrev pub is_blank : ℕ → Bool
is_blank b = b == 32 || b == 9

unfoldable pub unindented : List ℕ → List ℕ
unindented [] = []
unindented (b ∷ bs) = if is_blank b then unindented bs else b ∷ bs

-- it begins with this
abbrev pub begins : List ℕ → List ℕ → Bool
begins line word = starts_with nat_eq (unindented line) word

-- it begins with this key and an equals sign
abbrev pub has_key : List ℕ → List ℕ → Bool
has_key key line = begins line key && begins (drop (length key) (unindented line)) (codes "=")

-- after a head, which has the name if `own`, with `left` heads of the name to go: whether it is the last one, and how many heads of the name follow
abbrev pub is_last : Bool → ℕ → Bool
is_last own left = left == 1 && own

abbrev pub heads_after : Bool → ℕ → ℕ
heads_after own left = if own then left - 1 else left

-- the line of a key, inside its table
abbrev pub is_found : Bool → List ℕ → List ℕ → Bool
is_found inside key line = inside && has_key key line

-- the number of a key's line, and the line, among lines numbered from n on: inside the key's table, or after `left` heads of its name, the last of them its own
unfoldable pub key_row : List ℕ → List ℕ → Bool → ℕ → ℕ → List (List ℕ) → Option (ℕ × List ℕ)
key_row head key inside left n [] = None
key_row head key inside left n (l ∷ ls) =
    if begins l (codes "[") then key_row head key (is_last (begins l head) left) (heads_after (begins l head) left) (n + 1) ls
    else (if is_found inside key l then Some (n, l) else key_row head key inside left (n + 1) ls)

-- the line of a key of the document, which is before all heads; the line of a key in the table of this number
abbrev pub top_row : List ℕ → List (List ℕ) → Option (ℕ × List ℕ)
top_row key lines = key_row [] key true 0 1 lines

abbrev pub table_row : List ℕ → ℕ → List ℕ → List (List ℕ) → Option (ℕ × List ℕ)
table_row head item key lines = key_row head key false (item + 1) 1 lines

-- the line and the column, and the line itself
unfoldable pub place_words : ℕ → ℕ → List ℕ → List ℕ
place_words number column line = codes "line " ++ decimal number ++ codes ", column " ++ decimal column ++ codes ": " ++ line ++ codes ": "

abbrev pub column_of : List ℕ → ℕ
column_of line = length line - length (unindented line) + 1

unfoldable pub row_words : Option (ℕ × List ℕ) → List ℕ
row_words None = []
row_words (Some row) = place_words row.0 (column_of row.1) row.1
