-- Characters, one after another
use Rattle.std.proofs.Common.{◌≡◌, ◌≤◌, ◌<◌, ◌∙◌, ℕ, ◌+◌, Bool, true, false, if◌then◌else◌, List, [], ◌∷◌, ◌++◌, length, drop, slice_index_or, refl, sym, ap}
use Rattle.std.proofs.Common.{add-one, append_assoc}
use Rattle.std.proofs.Math.Seq.{drop-cons}
use Rattle.std.proofs.lemmas.List.{drop_all}
use Rattle.dvb_texts.specs.CharacterTables.{unread, is_pair, marked, is_double, single_character, double_character, in_doubles, next_character}

-- 1. Marks

pub marked_here : (pairs : List ((ℕ × ℕ) × ℕ)) (mark letter i : ℕ) (d : (ℕ × ℕ) × ℕ) → i < length pairs →
    is_pair (slice_index_or pairs i d) mark letter ≡ true →
    marked (drop i pairs) mark letter ≡ (slice_index_or pairs i d).1
unfolding marked
marked_here pairs mark letter i d below same = rw (drop-cons pairs i d below, same) refl

pub marked_later : (pairs : List ((ℕ × ℕ) × ℕ)) (mark letter i : ℕ) (d : (ℕ × ℕ) × ℕ) → i < length pairs →
    is_pair (slice_index_or pairs i d) mark letter ≡ false →
    marked (drop i pairs) mark letter ≡ marked (drop (i + 1) pairs) mark letter
unfolding marked
marked_later pairs mark letter i d below other = rw (drop-cons pairs i d below, add-one i, other) refl

pub marked_end : (pairs : List ((ℕ × ℕ) × ℕ)) (mark letter i : ℕ) → length pairs ≤ i → marked (drop i pairs) mark letter ≡ unread
unfolding marked
marked_end pairs mark letter i over = rw (drop_all i pairs over) refl

-- 2. One byte or two bytes

-- A character before the characters after it
abbrev front : Bool → ℕ × List ℕ → List ℕ
front wide next = next.0 ∷ in_doubles wide next.1

by_both : (wide double : Bool) (b c : ℕ) (rest : List ℕ) →
    (if double then double_character wide b c ∷ in_doubles wide rest else single_character wide b ∷ in_doubles wide (c ∷ rest))
    ≡ front wide (if double then (double_character wide b c, rest) else (single_character wide b, c ∷ rest))
by_both wide true b c rest = refl
by_both wide false b c rest = refl

step : (wide : Bool) (b : ℕ) (rest : List ℕ) → in_doubles wide (b ∷ rest) ≡ front wide (next_character wide b rest)
unfolding in_doubles next_character
step wide b [] = refl
step wide b (c ∷ rest) = by_both wide (is_double wide b) b c rest

pub doubles_more : (wide : Bool) (left rest before after : List ℕ) (b : ℕ) (next : ℕ × List ℕ) → left ≡ b ∷ rest → next ≡ next_character wide b rest →
    after ≡ before ++ next.0 ∷ [] →
    before ++ in_doubles wide left ≡ after ++ in_doubles wide next.1
doubles_more wide left rest before after b next is made pushed =
    let on : in_doubles wide left ≡ front wide next = rw is (step wide b rest ∙ ap (front wide) (sym made)) in
    rw pushed (ap (λ (cs : List ℕ). before ++ cs) on ∙ sym (append_assoc before (next.0 ∷ []) (in_doubles wide next.1)))

pub doubles_end : (wide : Bool) (left : List ℕ) → length left ≡ 0 → in_doubles wide left ≡ []
unfolding in_doubles
doubles_end wide [] none = refl
doubles_end wide (b ∷ rest) none = absurd cc
