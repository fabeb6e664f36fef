-- Arrays of numbers and of strings, on one line
use Rattle.std.proofs.Common.{◌≡◌, ℕ, suc, ◌≤◌, Bool, true, false, ◌==◌, List, [], ◌∷◌, ◌++◌, length, map, codes, decimal, refl, sym, ap, subst, ◌∙◌, arith}
use Rattle.std.proofs.Common.{append_assoc}
use Rattle.std.proofs.lemmas.Bool.Decides.{nat_tests}
use Rattle.std.specs.Int.{w64}
use Rattle.std.specs.List.{flat_map}
use Rattle.std.specs.Prelude.{All, FitsSigned}
use Rattle.std.specs.Fmt.{signed_decimal}
use Rattle.hex.specs.Hex.{encode_lower}
use Rattle.toml_writer.specs.Text.{string_text}
use Rattle.toml.specs.Data.{string, integer, float, boolean, datetime, array, table, Items, no_items, item, depth, items_depth, items_have_valid_dates}
use Rattle.toml.specs.Data.{items_are_sorted}
use Rattle.toml.specs.Text.{IsValueText, IsItemsText, breaks_lines, is_section, section}
use Rattle.job_text.specs.KeyLines.{value_text, items_text, key_line, items_of, digits_of, next_number, next_digits, array_line, list_line, digits_line}
use Rattle.job_text.specs.Laws.{Fits}

-- 1. The text of an array

others_are : (ns : List ℕ) → items_text false (items_of ns) ≡ flat_map next_number ns ++ codes "]"
others_are [] = refl
others_are (n ∷ ns) =
    ap (λ (t : List ℕ). codes ", " ++ (decimal n ++ t)) (others_are ns)
    ∙ sym (append_assoc (next_number n) (flat_map next_number ns) (codes "]"))

not_empty : (n : ℕ) (ns : List ℕ) → (length (n ∷ ns) == 0) ≡ false
not_empty n ns = grind (arith, nat_tests)

pub list_none : (key : List ℕ) → list_line key [] ≡ []
unfolding list_line
list_none key = refl

pub list_some : (key : List ℕ) (n : ℕ) (ns : List ℕ) → list_line key (n ∷ ns) ≡ key_line key (array (items_of (n ∷ ns)))
unfolding list_line
list_some key n ns = rw (not_empty n ns)

-- An array is written in three parts.
pub list_is : (key : List ℕ) (n : ℕ) (ns : List ℕ) → array_line key n ns ≡ list_line key (n ∷ ns)
unfolding key_line
list_is key n ns =
    let inner : flat_map next_number ns ++ codes "]\n" ≡ items_text false (items_of ns) ++ codes "\n" =
    sym (append_assoc (flat_map next_number ns) (codes "]") (codes "\n")) ∙ ap (λ (t : List ℕ). t ++ codes "\n") (sym (others_are ns)) in
    append_assoc key (codes " = [" ++ decimal n) (flat_map next_number ns ++ codes "]\n")
    ∙ ap (λ (t : List ℕ). key ++ (codes " = [" ++ t))
    (ap (λ (t : List ℕ). decimal n ++ t) inner ∙ sym (append_assoc (decimal n) (items_text false (items_of ns)) (codes "\n")))
    ∙ sym (list_some key n ns)

pub list_written : (key : List ℕ) (n : ℕ) (ns all : List ℕ) → all ≡ n ∷ ns → array_line key n ns ≡ list_line key all
list_written key n ns all is = rw is (list_is key n ns)

-- The same for strings of digits
other_digits_are : (bs : List (List ℕ)) → items_text false (digits_of bs) ≡ flat_map next_digits bs ++ codes "]"
other_digits_are [] = refl
other_digits_are (b ∷ bs) =
    ap (λ (t : List ℕ). codes ", " ++ (string_text (encode_lower b) ++ t)) (other_digits_are bs)
    ∙ sym (append_assoc (next_digits b) (flat_map next_digits bs) (codes "]"))

digits_some : (key b : List ℕ) (bs : List (List ℕ)) → digits_line key b bs ≡ key_line key (array (digits_of (b ∷ bs)))
unfolding key_line
digits_some key b bs =
    let first = string_text (encode_lower b) in
    let inner : flat_map next_digits bs ++ codes "]\n" ≡ items_text false (digits_of bs) ++ codes "\n" =
    sym (append_assoc (flat_map next_digits bs) (codes "]") (codes "\n")) ∙ ap (λ (t : List ℕ). t ++ codes "\n") (sym (other_digits_are bs)) in
    append_assoc key (codes " = [" ++ first) (flat_map next_digits bs ++ codes "]\n")
    ∙ ap (λ (t : List ℕ). key ++ (codes " = [" ++ t))
    (ap (λ (t : List ℕ). first ++ t) inner ∙ sym (append_assoc first (items_text false (digits_of bs)) (codes "\n")))

pub next_parts : {P : Type 0} (bytes_of : P → List ℕ) (parts : List P) →
    flat_map (λ b. next_digits (bytes_of b)) parts ≡ flat_map next_digits (map bytes_of parts)
next_parts bytes_of [] = refl
next_parts bytes_of (b ∷ parts) = ap (λ (t : List ℕ). next_digits (bytes_of b) ++ t) (next_parts bytes_of parts)

pub digits_written : (key b : List ℕ) (bs all : List (List ℕ)) → all ≡ b ∷ bs → digits_line key b bs ≡ key_line key (array (digits_of all))
digits_written key b bs all is = rw is (digits_some key b bs)

pub digits_all : {P : Type 0} (bytes_of : P → List ℕ) (key : List ℕ) (b : P) (bs all : List P) → all ≡ b ∷ bs →
    (key ++ (codes " = [" ++ string_text (encode_lower (bytes_of b)))) ++ (flat_map (λ p. next_digits (bytes_of p)) bs ++ codes "]\n")
    ≡ key_line key (array (digits_of (map bytes_of all)))
digits_all bytes_of key b bs all is =
    ap (λ (t : List ℕ). (key ++ (codes " = [" ++ string_text (encode_lower (bytes_of b)))) ++ (t ++ codes "]\n")) (next_parts bytes_of bs)
    ∙ digits_written key (bytes_of b) (map bytes_of bs) (map bytes_of all) (ap (map bytes_of) is)

-- 2. An array as TOML reads it

-- The items are only numbers and strings.
abbrev pub AreFlat : Items → Type 0
AreFlat no_items = Unit {0}
AreFlat (item (integer z) ds) = FitsSigned w64 z × AreFlat ds
AreFlat (item (string s) ds) = AreFlat ds
AreFlat (item _ ds) = ⊥

one_line : (ds : Items) → breaks_lines false ds ≡ false
one_line no_items = refl
one_line (item d no_items) = refl
one_line (item d (item e ds)) = refl

items_are : (first : Bool) (ds : Items) → AreFlat ds → IsItemsText false false first ds (items_text first ds)
items_are first no_items h = refl
items_are first (item (integer z) ds) h = (signed_decimal z, items_text false ds, refl, (refl, h.0), items_are false ds h.1)
items_are first (item (string s) ds) h = (string_text s, items_text false ds, refl, refl, items_are false ds h)
items_are first (item (float x) ds) h = absurd h
items_are first (item (boolean b) ds) h = absurd h
items_are first (item (datetime x) ds) h = absurd h
items_are first (item (array x) ds) h = absurd h
items_are first (item (table x) ds) h = absurd h

pub array_is_text : (ds : Items) → AreFlat ds → IsValueText false (array ds) (value_text (array ds))
array_is_text ds h =
    (items_text true ds, refl, subst (λ (b : Bool). IsItemsText false b true ds (items_text true ds)) (sym (one_line ds)) (items_are true ds h))

pub array_is_no_section : (ds : Items) → AreFlat ds → is_section (array ds) ≡ false
array_is_no_section no_items h = refl
array_is_no_section (item (integer z) ds) h = refl
array_is_no_section (item (string s) ds) h = refl
array_is_no_section (item (float x) ds) h = absurd h
array_is_no_section (item (boolean b) ds) h = absurd h
array_is_no_section (item (datetime x) ds) h = absurd h
array_is_no_section (item (array x) ds) h = absurd h
array_is_no_section (item (table x) ds) h = absurd h

pub no_array_section : (path : List (List ℕ)) (key : List ℕ) (ds : Items) → AreFlat ds → section (path, key) (array ds) ≡ []
no_array_section path key no_items h = refl
no_array_section path key (item (integer z) ds) h = refl
no_array_section path key (item (string s) ds) h = refl
no_array_section path key (item (float x) ds) h = absurd h
no_array_section path key (item (boolean b) ds) h = absurd h
no_array_section path key (item (datetime x) ds) h = absurd h
no_array_section path key (item (array x) ds) h = absurd h
no_array_section path key (item (table x) ds) h = absurd h

elements_flat : (ds : Items) → AreFlat ds → items_depth ds ≡ 0
elements_flat no_items h = refl
elements_flat (item (integer z) ds) h = rw (elements_flat ds h.1)
elements_flat (item (string s) ds) h = rw (elements_flat ds h)
elements_flat (item (float x) ds) h = absurd h
elements_flat (item (boolean b) ds) h = absurd h
elements_flat (item (datetime x) ds) h = absurd h
elements_flat (item (array x) ds) h = absurd h
elements_flat (item (table x) ds) h = absurd h

pub array_low : (ds : Items) → AreFlat ds → depth (array ds) ≤ 1
array_low ds h = rw (elements_flat ds h) (omega arith)

pub array_dated : (ds : Items) → AreFlat ds → items_have_valid_dates ds ≡ true
array_dated no_items h = refl
array_dated (item (integer z) ds) h = array_dated ds h.1
array_dated (item (string s) ds) h = array_dated ds h
array_dated (item (float x) ds) h = absurd h
array_dated (item (boolean b) ds) h = absurd h
array_dated (item (datetime x) ds) h = absurd h
array_dated (item (array x) ds) h = absurd h
array_dated (item (table x) ds) h = absurd h

pub numbers_sorted : (ns : List ℕ) → items_are_sorted (items_of ns) ≡ true
numbers_sorted [] = refl
numbers_sorted (n ∷ ns) = numbers_sorted ns

-- Numbers of 64 bits form a flat array.
pub numbers_are : (ns : List ℕ) → All Fits ns → AreFlat (items_of ns)
numbers_are [] h = tt
numbers_are (n ∷ ns) h =
    let own : Fits n = h 0 n (omega arith) in
    (omega (arith, own), numbers_are ns (λ k d less. h (suc k) d (omega (arith, less))))

pub digits_are : (bs : List (List ℕ)) → AreFlat (digits_of bs)
digits_are [] = tt
digits_are (b ∷ bs) = digits_are bs

pub digits_sorted : (bs : List (List ℕ)) → items_are_sorted (digits_of bs) ≡ true
digits_sorted [] = refl
digits_sorted (b ∷ bs) = digits_sorted bs
