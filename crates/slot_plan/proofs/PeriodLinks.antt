-- Links of a period, made from its last slot to its first
use Rattle.std.specs.Prelude.{◌==◌}
use Rattle.std.proofs.Common.{◌≡◌, ℕ, suc, ◌+◌, ◌-◌, ◌<◌, ◌≤◌, false, List, [], ◌∷◌, ◌++◌, Some, length, get_or, set, replicate, refl, ap, sym, ◌∙◌, inl, inr, arith}
use Rattle.std.proofs.lemmas.Bool.{cases_eq, cases_lt, ne_eqb}
use Rattle.std.proofs.lemmas.Grind.{get_or-set_at}
use Rattle.std.proofs.lemmas.List.{get_or_append_left, get_or_at, get_or-replicate, get_or-set_other, length-append, length-replicate, length-set}
use Rattle.slot_plan.specs.declared.slot.Slot.{Slot}
use Rattle.slot_plan.specs.Links.{AreLinks, IsAbsent, key_at}

pub moved : (slots : List Slot) (key key' from from' to to' : ℕ) → key' ≡ key → from' ≡ from → to' ≡ to → IsAbsent slots key from to → IsAbsent slots key' from' to'
moved slots key key' from from' to to' k f t h = rw (k, f, t) h

-- The links of the last `back` slots, and the first slot of each kind among them
pub record LinksFrom (slots : List Slot) (links first : List ℕ) (back : ℕ) : Type 0 where
  pub made : length links ≡ back
  pub size : length first ≡ 514
  pub firsts : (k : ℕ) → k < 514 → IsAbsent slots k (length slots - back) (get_or first k 0)
  pub each : (i : ℕ) → i < back → IsAbsent slots (key_at slots (length slots - suc i)) (length slots - i) (get_or links i 0)

end_absent : (slots : List Slot) (k from : ℕ) → from ≡ length slots → IsAbsent slots k from (length slots)
end_absent slots k from e = record {
  after = omega (arith, e);
  within = omega arith;
  others = λ t a b. absurd (omega (arith, a, b, e));
}

pub links_none : (slots : List Slot) (first : List ℕ) → first ≡ replicate 514 (length slots) → LinksFrom slots [] first 0
links_none slots first e = record {
  made = refl;
  size = ap length e ∙ sized 514 (length slots);
  firsts = λ k lt. moved slots k k (length slots) (length slots - 0) (length slots) (get_or first k 0) refl (omega arith)
      (ap (λ (xs : List ℕ). get_or xs k 0) e ∙ get_or-replicate 514 k (length slots) 0 lt) (end_absent slots k (length slots) refl);
  each = λ i lt. absurd (omega (arith, lt));
}
  where
    sized : (n x : ℕ) → length (replicate n x) ≡ n
    sized n x = length-replicate n x

-- One slot before
here_absent : (slots : List Slot) (k from at : ℕ) → at < length slots → from ≡ at → IsAbsent slots k from at
here_absent slots k from at lt e = record {
  after = omega (arith, e);
  within = omega (arith, lt);
  others = λ t a b. absurd (omega (arith, a, b, e));
}

one_before : (slots : List Slot) (k at from from' to : ℕ) → from ≡ suc at → from' ≡ at → (key_at slots at == k) ≡ false → IsAbsent slots k from to →
    IsAbsent slots k from' to
one_before slots k at from from' to e f other h = record {
  after = omega (arith, e, f, h.after);
  within = h.within;
  others = λ t a b. elim (cases_lt at t) [
    | inl lt ↦ h.others t (omega (arith, e, lt)) b
    | inr le ↦ ap (λ (n : ℕ). key_at slots n == k) (same t at (omega (arith, a, f)) le) ∙ other
  ];
}
  where
    same : (t at : ℕ) → at ≤ t → t ≤ at → t ≡ at
    same t at a b = omega (arith, a, b)

pub links_more : (slots : List Slot) (links first : List ℕ) (back at key : ℕ) → back < length slots → at ≡ length slots - 1 - back →
    key ≡ key_at slots at → key < 514 → LinksFrom slots links first back →
    LinksFrom slots (links ++ get_or first key 0 ∷ []) (set first key at) (back + 1)
links_more slots links first back at key within is keyed few h = record {
  made = length-append links (get_or first key 0 ∷ []) ∙ omega (arith, h.made);
  size = length-set first key at ∙ h.size;
  firsts = λ k lt. elim (cases_eq k key) [
    | inl e ↦ moved slots k k at (length slots - (back + 1)) at (get_or (set first key at) k 0) refl (omega (arith, is, within))
        (get_or-set_at first key k at 0 e (omega (arith, h.size, few)))
        (here_absent slots k at at (omega (arith, is, within)) refl)
    | inr d ↦ moved slots k k at (length slots - (back + 1)) (get_or first k 0) (get_or (set first key at) k 0) refl (omega (arith, is, within))
        (get_or-set_other first key k at 0 d)
        (one_before slots k at (length slots - back) at (get_or first k 0) (omega (arith, is, within)) refl
        (ne_eqb (key_at slots at) k (λ e. d (sym e ∙ sym keyed))) (h.firsts k lt))
  ];
  each = λ i lt. elim (cases_lt i back) [
    | inl l ↦ moved slots (key_at slots (length slots - suc i)) (key_at slots (length slots - suc i)) (length slots - i) (length slots - i)
        (get_or links i 0) (get_or (links ++ get_or first key 0 ∷ []) i 0) refl refl
        (get_or_append_left links (get_or first key 0 ∷ []) 0 i (omega (arith, h.made, l))) (h.each i l)
    | inr le ↦ moved slots key (key_at slots (length slots - suc i)) (length slots - back) (length slots - i)
        (get_or first key 0) (get_or (links ++ get_or first key 0 ∷ []) i 0)
        (ap (key_at slots) (there i lt le) ∙ sym keyed) (omega (arith, lt, le))
        (get_or_at links (get_or first key 0) [] 0 i (omega (arith, h.made, lt, le))) (h.firsts key few)
  ];
}
  where
    there : (i : ℕ) → i < back + 1 → back ≤ i → length slots - suc i ≡ at
    there i lt le = omega (arith, is, within, lt, le)

pub links_whole : (slots : List Slot) (links first : List ℕ) (back : ℕ) → length slots ≤ back → back ≤ length slots → LinksFrom slots links first back →
    AreLinks slots (Some links)
links_whole slots links first back all most h = λ s lt.
    moved slots (key_at slots (length slots - suc (length slots - suc s))) (key_at slots s) (length slots - (length slots - suc s)) (suc s)
    (get_or links (length slots - suc s) 0) (get_or links (length slots - suc s) 0)
    (ap (key_at slots) (once s lt)) (twice s lt) refl (h.each (length slots - suc s) (omega (arith, all, lt)))
  where
    once : (s : ℕ) → s < length slots → s ≡ length slots - suc (length slots - suc s)
    once s lt = omega (arith, lt)

    twice : (s : ℕ) → s < length slots → suc s ≡ length slots - (length slots - suc s)
    twice s lt = omega (arith, lt)
