-- Lines whose values are equal, line by line
use Rattle.std.proofs.Common.{◌≡◌, ◌∙◌, ◌<◌, ◌≤◌, ◌+◌, ℕ, List, [], ◌∷◌, ◌++◌, length, drop, take, get_or, Bool, true, false, Option, Some, None, refl, sym, ap}
use Rattle.std.proofs.Common.{add-one}
use Rattle.std.specs.Prelude.{if◌then◌else◌}
use Rattle.std.specs.Borrow.{Bor}
use Rattle.std.proofs.Math.Seq.{drop-cons}
use Rattle.std.proofs.lemmas.List.{append_assoc, append-nil, drop_all, take_all, take_more}
use Rattle.diagnosis.specs.EqualKeys.{ends_value, equal_rows, first_word, is_value, paired, row_like, row_with, value_on}
use Rattle.diagnosis.specs.declared.equal_keys.EqualKeys.{EqualKeys}
use Rattle.diagnosis.proofs.KeyRows.{shown, shown_from}

-- 1. The word at the front of a line

word_step : (b : ℕ) (bs : List ℕ) (ends : Bool) → ends_value b ≡ ends → first_word (b ∷ bs) ≡ (if ends then [] else b ∷ first_word bs)
unfolding first_word
word_step b bs ends e = ap (λ (x : Bool). if x then [] else b ∷ first_word bs) e

no_word : first_word [] ≡ []
unfolding first_word
no_word = refl

-- The word of a line, if its first i bytes belong to the word
abbrev pub word_from : List ℕ → ℕ → List ℕ
word_from bytes i = take i bytes ++ first_word (drop i bytes)

at_number : (bytes : List ℕ) (i d : ℕ) (ends : Bool) → i < length bytes → ends_value (get_or bytes i d) ≡ ends →
    first_word (drop i bytes) ≡ (if ends then [] else get_or bytes i d ∷ first_word (drop (i + 1) bytes))
at_number bytes i d ends below e =
    ap first_word (drop-cons bytes i d below ∙ ap (λ (n : ℕ). get_or bytes i d ∷ drop n bytes) (sym (add-one i)))
    ∙ word_step (get_or bytes i d) (drop (i + 1) bytes) ends e

pub word_goes_on : (bytes : List ℕ) (i d byte : ℕ) (ends : Bool) → i < length bytes → byte ≡ get_or bytes i d → ends ≡ ends_value byte → ends ≡ false →
    first_word bytes ≡ word_from bytes i → first_word bytes ≡ word_from bytes (i + 1)
word_goes_on bytes i d byte ends below at is not_so so =
    let here : ends_value (get_or bytes i d) ≡ false = sym (ap ends_value at) ∙ sym is ∙ not_so in
    so ∙ ap (λ (bs : List ℕ). take i bytes ++ bs) (at_number bytes i d false below here)
    ∙ sym (append_assoc (take i bytes) (get_or bytes i d ∷ []) (first_word (drop (i + 1) bytes)))
    ∙ ap (λ (bs : List ℕ). bs ++ first_word (drop (i + 1) bytes)) (sym (take_more bytes i d below))

pub word_ends : (bytes : List ℕ) (i d byte : ℕ) (ends : Bool) → i < length bytes → byte ≡ get_or bytes i d → ends ≡ ends_value byte → ends ≡ true →
    first_word bytes ≡ word_from bytes i → take i bytes ≡ first_word bytes
word_ends bytes i d byte ends below at is is_so so =
    let here : ends_value (get_or bytes i d) ≡ true = sym (ap ends_value at) ∙ sym is ∙ is_so in
    sym (so ∙ ap (λ (bs : List ℕ). take i bytes ++ bs) (at_number bytes i d true below here) ∙ append-nil (take i bytes))

pub whole_word : (bytes : List ℕ) (i : ℕ) → length bytes ≤ i → first_word bytes ≡ word_from bytes i → bytes ≡ first_word bytes
whole_word bytes i over so =
    sym (so ∙ ap (λ (bs : List ℕ). take i bytes ++ first_word bs) (drop_all i bytes over) ∙ ap (λ (bs : List ℕ). take i bytes ++ bs) no_word
    ∙ append-nil (take i bytes) ∙ take_all i bytes over)

-- 2. The lines from a number on

with_here : (keys : EqualKeys) (value l : List ℕ) (n : ℕ) (ls : List (List ℕ)) (b : Bool) → is_value value (value_on keys l) ≡ b →
    row_with keys value n (l ∷ ls) ≡ (if b then Some (n, l) else row_with keys value (n + 1) ls)
unfolding row_with
with_here keys value l n ls b e = ap (λ (x : Bool). if x then Some (n, l) else row_with keys value (n + 1) ls) e

none_with : (keys : EqualKeys) (value : List ℕ) (n : ℕ) → row_with keys value n [] ≡ None
unfolding row_with
none_with keys value n = refl

with_step : (keys : EqualKeys) (value line : List ℕ) (b : Bool) (i : ℕ) (lines : List (Bor (List ℕ))) (d : Bor (List ℕ)) (all : Option (ℕ × List ℕ)) →
    i < length lines → line ≡ (get_or lines i d).now → b ≡ is_value value (value_on keys line) → row_with keys value (i + 1) (shown (drop i lines)) ≡ all →
    (if b then Some (i + 1, (get_or lines i d).now) else row_with keys value (i + 1 + 1) (shown (drop (i + 1) lines))) ≡ all
with_step keys value line b i lines d all below at is so =
    sym (ap (λ (ls : List (List ℕ)). row_with keys value (i + 1) ls) (shown_from lines i d below)
    ∙ with_here keys value (get_or lines i d).now (i + 1) (shown (drop (i + 1) lines)) b (sym (is ∙ ap (λ (l : List ℕ). is_value value (value_on keys l)) at)))
    ∙ so

pub with_goes_on : (keys : EqualKeys) (value line : List ℕ) (b : Bool) (i : ℕ) (lines : List (Bor (List ℕ))) (d : Bor (List ℕ)) (all : Option (ℕ × List ℕ)) →
    i < length lines → line ≡ (get_or lines i d).now → b ≡ is_value value (value_on keys line) → b ≡ false →
    row_with keys value (i + 1) (shown (drop i lines)) ≡ all →
    row_with keys value (i + 1 + 1) (shown (drop (i + 1) lines)) ≡ all
with_goes_on keys value line b i lines d all below at is not_so so =
    sym (ap (λ (x : Bool). if x then Some (i + 1, (get_or lines i d).now) else row_with keys value (i + 1 + 1) (shown (drop (i + 1) lines))) not_so)
    ∙ with_step keys value line b i lines d all below at is so

pub with_found : (keys : EqualKeys) (value line : List ℕ) (b : Bool) (i : ℕ) (lines : List (Bor (List ℕ))) (d : Bor (List ℕ)) (all : Option (ℕ × List ℕ)) →
    i < length lines → line ≡ (get_or lines i d).now → b ≡ is_value value (value_on keys line) → b ≡ true →
    row_with keys value (i + 1) (shown (drop i lines)) ≡ all →
    Some (i + 1, line) ≡ all
with_found keys value line b i lines d all below at is is_so so =
    ap (λ (l : List ℕ). Some (i + 1, l)) at
    ∙ sym (ap (λ (x : Bool). if x then Some (i + 1, (get_or lines i d).now) else row_with keys value (i + 1 + 1) (shown (drop (i + 1) lines))) is_so)
    ∙ with_step keys value line b i lines d all below at is so

pub with_none : (keys : EqualKeys) (value : List ℕ) (i : ℕ) (lines : List (Bor (List ℕ))) (all : Option (ℕ × List ℕ)) → length lines ≤ i →
    row_with keys value (i + 1) (shown (drop i lines)) ≡ all → None ≡ all
with_none keys value i lines all over so =
    sym (ap (λ (ls : List (Bor (List ℕ))). row_with keys value (i + 1) (shown ls)) (drop_all i lines over) ∙ none_with keys value (i + 1)) ∙ so

-- 3. All lines

abbrev pub Pair : Type 0
Pair = (ℕ × List ℕ) × (ℕ × List ℕ)

equal_here : (keys : EqualKeys) (l : List ℕ) (n : ℕ) (ls : List (List ℕ)) →
    equal_rows keys n (l ∷ ls) ≡ paired (n, l) (row_like keys (value_on keys l) (n + 1) ls) (equal_rows keys (n + 1) ls)
unfolding equal_rows
equal_here keys l n ls = refl

no_equal : (keys : EqualKeys) (n : ℕ) → equal_rows keys n [] ≡ None
unfolding equal_rows
no_equal keys n = refl

equal_step : (keys : EqualKeys) (line : List ℕ) (other : Option (ℕ × List ℕ)) (i : ℕ) (lines : List (Bor (List ℕ))) (d : Bor (List ℕ)) (all : Option Pair) →
    i < length lines → line ≡ (get_or lines i d).now → other ≡ row_like keys (value_on keys line) (i + 1 + 1) (shown (drop (i + 1) lines)) →
    equal_rows keys (i + 1) (shown (drop i lines)) ≡ all → paired (i + 1, line) other (equal_rows keys (i + 1 + 1) (shown (drop (i + 1) lines))) ≡ all
equal_step keys line other i lines d all below at is so =
    let rest : List (List ℕ) = shown (drop (i + 1) lines) in
    ap (λ (o : Option (ℕ × List ℕ)). paired (i + 1, line) o (equal_rows keys (i + 1 + 1) rest)) is
    ∙ ap (λ (l : List ℕ). paired (i + 1, l) (row_like keys (value_on keys l) (i + 1 + 1) rest) (equal_rows keys (i + 1 + 1) rest)) at
    ∙ sym (ap (λ (ls : List (List ℕ)). equal_rows keys (i + 1) ls) (shown_from lines i d below) ∙ equal_here keys (get_or lines i d).now (i + 1) rest) ∙ so

-- A later line has the same value.
pub equal_found : (keys : EqualKeys) (line : List ℕ) (other : Option (ℕ × List ℕ)) (found : ℕ × List ℕ) (i : ℕ) (lines : List (Bor (List ℕ))) (d : Bor (List ℕ))
    (all : Option Pair) →
    i < length lines → line ≡ (get_or lines i d).now → other ≡ row_like keys (value_on keys line) (i + 1 + 1) (shown (drop (i + 1) lines)) →
    other ≡ Some found →
    equal_rows keys (i + 1) (shown (drop i lines)) ≡ all → Some ((i + 1, line), found) ≡ all
equal_found keys line other found i lines d all below at is e so =
    sym (ap (λ (o : Option (ℕ × List ℕ)). paired (i + 1, line) o (equal_rows keys (i + 1 + 1) (shown (drop (i + 1) lines)))) e)
    ∙ equal_step keys line other i lines d all below at is so

-- No later line has the same value.
pub equal_goes_on : (keys : EqualKeys) (line : List ℕ) (other : Option (ℕ × List ℕ)) (i : ℕ) (lines : List (Bor (List ℕ))) (d : Bor (List ℕ))
    (all : Option Pair) →
    i < length lines → line ≡ (get_or lines i d).now → other ≡ row_like keys (value_on keys line) (i + 1 + 1) (shown (drop (i + 1) lines)) → other ≡ None →
    equal_rows keys (i + 1) (shown (drop i lines)) ≡ all → equal_rows keys (i + 1 + 1) (shown (drop (i + 1) lines)) ≡ all
equal_goes_on keys line other i lines d all below at is e so =
    sym (ap (λ (o : Option (ℕ × List ℕ)). paired (i + 1, line) o (equal_rows keys (i + 1 + 1) (shown (drop (i + 1) lines)))) e)
    ∙ equal_step keys line other i lines d all below at is so

pub equal_none : (keys : EqualKeys) (i : ℕ) (lines : List (Bor (List ℕ))) (all : Option Pair) → length lines ≤ i →
    equal_rows keys (i + 1) (shown (drop i lines)) ≡ all → None ≡ all
equal_none keys i lines all over so =
    sym (ap (λ (ls : List (Bor (List ℕ))). equal_rows keys (i + 1) (shown ls)) (drop_all i lines over) ∙ no_equal keys (i + 1)) ∙ so
