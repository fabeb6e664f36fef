-- The suggested word is known and near, and no known word is nearer.
use Rattle.std.proofs.Common.{◌≡◌, ◌≤◌, ◌∙◌, ◌⊎◌, true, false, List, [], ◌∷◌, length, Option, Some, None, inl, inr, refl, arith, ap, sym, ◌/◌}
use Rattle.std.specs.Prelude.{nat_le, nat_lt}
use Rattle.std.specs.List.{list_all}
use Rattle.std.proofs.lemmas.Bool.{cases_Bool, le-leb, leb-false, leb-true, ltb-false, ltb-true}
use Rattle.word_faults.specs.CommandLine.{Text}
use Rattle.word_faults.specs.Hints.{edits_of, is_near, nearer, nearest_from}
use Rattle.word_faults.specs.NearWords.{HintsAreNearest, IsAmong, IsMeant}

first : (word : Text) (others : List Text) (best : Text) → best ≡ word → IsAmong (word ∷ others) best
first word others best e = record { before = []; after = others; is = ap (λ (w : Text). w ∷ others) (sym e) }

after_one : (word : Text) (others : List Text) (best : Text) → IsAmong others best → IsAmong (word ∷ others) best
after_one word others best a = record { before = word ∷ a.before; after = a.after; is = ap (λ (l : List Text). word ∷ l) a.is }

-- The word that is kept, if a word was near before this list
record Holds (others : List Text) (word best x : Text) : Type 0 where
  known : (x ≡ best) ⊎ IsAmong others x
  near : is_near word x ≡ true
  less : edits_of word x ≤ edits_of word best
  least : list_all (λ other. nat_le (edits_of word x) (edits_of word other)) others ≡ true

abbrev Keeps : List Text → Text → Text → Option Text → Type 0
Keeps others word best None = ⊥
Keeps others word best (Some x) = Holds others word best x

-- The kept word is the best word so far, or a word of the list.
known_more : (others : List Text) (other best better x : Text) → (better ≡ best) ⊎ (better ≡ other) → (x ≡ better) ⊎ IsAmong others x →
    (x ≡ best) ⊎ IsAmong (other ∷ others) x
known_more others other best better x (inl e) (inl f) = inl (f ∙ e)
known_more others other best better x (inr e) (inl f) = inr (first other others x (f ∙ e))
known_more others other best better x which (inr a) = inr (after_one other others x a)

one_more : (others : List Text) (word other best better : Text) (kept : Option Text) → (better ≡ best) ⊎ (better ≡ other) →
    edits_of word better ≤ edits_of word best → edits_of word better ≤ edits_of word other → Keeps others word better kept →
    Keeps (other ∷ others) word best kept
one_more others word other best better None which over best_of h = absurd h
one_more others word other best better (Some x) which over best_of h = record {
  known = known_more others other best better x which h.known;
  near = h.near;
  less = omega (arith, h.less, over);
  least = rw (le-leb (edits_of word x) (edits_of word other) (omega (arith, h.less, best_of)), h.least) refl;
}

kept : (others : List Text) (word best : Text) → is_near word best ≡ true → Keeps others word best (nearest_from word (Some best) others)
unfolding nearest_from nearer
kept [] word best near = record { known = inl refl; near = near; less = omega arith; least = refl }
kept (other ∷ others) word best near = elim (cases_Bool (nat_lt (edits_of word other) (edits_of word best))) [
  | inl e ↦
      let fewer = ltb-true (edits_of word other) (edits_of word best) e in
      let few = leb-true (edits_of word best) (length word / 3) near in
      let nearer_one : is_near word other ≡ true = le-leb (edits_of word other) (length word / 3) (omega (arith, fewer, few)) in
      rw e (one_more others word other best other _ (inr refl) (omega (arith, fewer)) (omega arith) (kept others word other nearer_one))
  | inr e ↦
      let no_fewer = ltb-false (edits_of word other) (edits_of word best) e in
      rw e (one_more others word other best best _ (inl refl) (omega arith) (omega (arith, no_fewer)) (kept others word best near))
]

-- The first word that is near
from_first : (others : List Text) (word other : Text) (best : Option Text) → Keeps others word other best → IsMeant (other ∷ others) word best
from_first others word other None h = absurd h
from_first others word other (Some x) h = record {
  known = elim h.known [
    | inl e ↦ first other others x e
    | inr a ↦ after_one other others x a
  ];
  near = h.near;
  least = rw (le-leb (edits_of word x) (edits_of word other) h.less, h.least) refl;
}

-- A word that is not near, before the list
not_first : (others : List Text) (word other : Text) (best : Option Text) → is_near word other ≡ false → IsMeant others word best →
    IsMeant (other ∷ others) word best
not_first others word other None far h = rw (far, h) refl
not_first others word other (Some x) far h =
    let few = leb-true (edits_of word x) (length word / 3) h.near in
    let many = leb-false (edits_of word other) (length word / 3) far in
    record {
      known = after_one other others x h.known;
      near = h.near;
      least = rw (le-leb (edits_of word x) (edits_of word other) (omega (arith, few, many)), h.least) refl;
    }

pub found : (others : List Text) (word : Text) → IsMeant others word (nearest_from word None others)
unfolding nearest_from nearer
found [] word = refl
found (other ∷ others) word = elim (cases_Bool (is_near word other)) [
  | inl e ↦ rw e (from_first others word other _ (kept others word other e))
  | inr e ↦ rw e (not_first others word other _ e (found others word))
]

pub hints : HintsAreNearest
hints others word = found others word
