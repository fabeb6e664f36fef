-- The stream that is due next
use Rattle.std.proofs.Common.{◌≡◌, ℕ, ◌+◌, suc, Option, Some, None, List, [], ◌∷◌, All, slice_get, slice_index_or, length, drop, map, ◌<◌, ◌≤◌, refl, sym, ◌∙◌}
use Rattle.std.proofs.Common.{ap, ◌⊎◌, inl, inr, nat_lt, arith}
use Rattle.std.proofs.lemmas.Bool.{cases_Bool}
use Rattle.std.proofs.lemmas.Option.{none-some}
use Rattle.std.proofs.lemmas.List.{at_drop_more, at_drop_all}
use Rattle.std.proofs.lemmas.List.Elements.{All-nil, All-cons}
use Rattle.pes_packet.specs.AccessUnits.{AccessUnit}
use Rattle.es_moments.specs.Merging.{head_dts, earlier, next_of, next_head}

-- If a stream is found, one more step still finds a stream.
pub some_kept : (k : ℕ) (b : ℕ × ℕ) (o : Option ℕ) → (b' : ℕ × ℕ) × (earlier (Some b) k o ≡ Some b')
unfolding earlier
some_kept k b None = (b, λ i. Some b)
some_kept k b (Some dts) = elim (cases_Bool (nat_lt dts b.1)) [ inl y ↦ ((k, dts), rw y (λ i. Some (k, dts))) | inr n ↦ (b, rw n (λ i. Some b)) ]

pub never_none : (k : ℕ) (b : ℕ × ℕ) (streams : List (List AccessUnit)) → next_of k (Some b) streams ≡ None → ⊥
unfolding next_of
never_none k b [] is = absurd cc
never_none k b (us ∷ rest) is =
    let next = some_kept k b (head_dts us) in
    never_none (k + 1) next.0 rest (rw next.1 at is)

some_found : (best : Option (ℕ × ℕ)) (k dts : ℕ) → (b : ℕ × ℕ) × (earlier best k (Some dts) ≡ Some b)
unfolding earlier
some_found None k dts = ((k, dts), λ i. Some (k, dts))
some_found (Some b) k dts = some_kept k b (Some dts)

-- If no stream is found, no stream has a unit left.
pub none_next : (k : ℕ) (best : Option (ℕ × ℕ)) (streams : List (List AccessUnit)) → next_of k best streams ≡ None → All (λ us. us ≡ []) streams
unfolding next_of head_dts
none_next k best [] is = All-nil (λ us. us ≡ [])
none_next k best ([] ∷ rest) is = All-cons (λ us. us ≡ []) [] rest (λ i. []) (none_next (k + 1) (earlier best k None) rest is)
none_next k best ((u ∷ us) ∷ rest) is =
    let found = some_found best k u.dts in
    absurd (never_none (k + 1) found.0 rest (rw found.1 at is))

-- The stream with this number, counted from k, has a unit
pub HasUnit : List (List AccessUnit) → ℕ → ℕ → Type 0
HasUnit streams k at = (i : ℕ) × (u : AccessUnit) × (rest : List AccessUnit) × (at ≡ k + i) × (slice_get streams i ≡ Some (u ∷ rest))

some_earlier : (best : Option (ℕ × ℕ)) (k : ℕ) (us : List AccessUnit) (b : ℕ × ℕ) → earlier best k (head_dts us) ≡ Some b →
    (best ≡ Some b) ⊎ ((u : AccessUnit) × (rest : List AccessUnit) × (us ≡ u ∷ rest) × (b.0 ≡ k))
unfolding earlier head_dts
some_earlier best k [] b is = inl is
some_earlier None k (u ∷ us) b is = inr (u, us, λ i. u ∷ us, cc)
some_earlier (Some b') k (u ∷ us) b is = elim (cases_Bool (nat_lt u.dts b'.1)) [
  | inl y ↦ let e : ◌≡◌ {A = Option (ℕ × ℕ)} (Some (k, u.dts)) (Some b) = rw y at is in inr (u, us, λ i. u ∷ us, cc)
  | inr n ↦ inl (rw n at is)
]

pub some_next : (k : ℕ) (best : Option (ℕ × ℕ)) (streams : List (List AccessUnit)) (b : ℕ × ℕ) → next_of k best streams ≡ Some b →
    (best ≡ Some b) ⊎ HasUnit streams k b.0
unfolding next_of HasUnit
some_next k best [] b is = inl is
some_next k best (us ∷ rest) b is = elim (some_next (k + 1) (earlier best k (head_dts us)) rest b is) [
  | inl e ↦ elim (some_earlier best k us b e) [
    | inl before ↦ inl before
    | inr here ↦ inr (0, here.0, here.1, omega (arith, here.3), ap Some here.2)
  ]
  | inr later ↦ inr (suc later.0, later.1, later.2, omega (arith, later.3), later.4)
]

at_first : (n i : ℕ) → n ≡ 0 + i → n ≡ i
at_first n i is = omega (arith, is)

-- The stream that is found has a unit.
pub first_next : (streams : List (List AccessUnit)) (b : ℕ × ℕ) → next_of 0 None streams ≡ Some b →
    (u : AccessUnit) × (rest : List AccessUnit) × (slice_get streams b.0 ≡ Some (u ∷ rest))
unfolding HasUnit
first_next streams b is = elim (some_next 0 None streams b is) [
  | inl none ↦ absurd (none-some b none)
  | inr has ↦ (has.1, has.2, rw (at_first b.0 has.0 has.3) has.4)
]

-- The search over the next DTS of the streams finds the stream that the search over their units finds.
same_next : {X : Type 0} (f : X → List AccessUnit) (k : ℕ) (best : Option (ℕ × ℕ)) (qs : List X) →
    next_head k best (map (λ q. head_dts (f q)) qs) ≡ next_of k best (map f qs)
unfolding next_head next_of
same_next f k best [] = refl
same_next f k best (q ∷ qs) = same_next f (k + 1) (earlier best k (head_dts (f q))) qs

pub found_by : {X : Type 0} (f : X → List AccessUnit) (qs : List X) (heads read : List (Option ℕ)) (found wanted : Option (ℕ × ℕ)) →
    heads ≡ map (λ q. head_dts (f q)) qs →
    read ≡ heads → found ≡ next_head 0 None read → found ≡ wanted → next_of 0 None (map f qs) ≡ wanted
found_by f qs heads read found wanted are same is wants = sym (same_next f 0 None qs) ∙ ap (next_head 0 None) (sym (same ∙ are)) ∙ sym is ∙ wants

-- One step of the search over the streams, and its end
pub next_step : (heads : List (Option ℕ)) (k : ℕ) (dts : Option ℕ) (best : Option (ℕ × ℕ)) → k < length heads →
    next_head k best (drop k heads) ≡ next_head (k + 1) (earlier best k (slice_index_or heads k dts)) (drop (k + 1) heads)
unfolding next_head
next_step heads k dts best lt = at_drop_more (next_head k best) heads k dts lt

pub next_end : (heads : List (Option ℕ)) (k : ℕ) (best : Option (ℕ × ℕ)) → length heads ≤ k → next_head k best (drop k heads) ≡ best
unfolding next_head
next_end heads k best le = at_drop_all (next_head k best) heads k le
