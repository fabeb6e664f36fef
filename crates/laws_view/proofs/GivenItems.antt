-- Items that give something in a history, and the last item before them that is like them.
use Rattle.std.proofs.Common.{◌≡◌, ◌∙◌, zero, suc, Bool, true, false, cond, List, [], ◌∷◌, ◌++◌, filter, find, Contains, Option, Some, None, refl, sym, ap, arith}
use Rattle.std.specs.List.{cons_option}
use Rattle.laws_view.specs.Histories.{given_by}

pub no_true : false ≡ true → ⊥
no_true e = grind arith

-- 1. Something is given by an item, after the items before it

pub record GivenAt {X Y : Type 0} (give : List X → X → Option Y) (items : List X) (y : Y) : Type 0 where
  pub later : List X
  pub item : X
  pub earlier : List X
  pub parts : items ≡ later ++ item ∷ earlier
  pub gives : give earlier item ≡ Some y

pub given_at : {X Y : Type 0} (give : List X → X → Option Y) (y : Y) (items : List X) → Contains (given_by give items) y → GivenAt give items y
unfolding given_by
given_at give y [] c = absurd (omega (arith, c.1))
given_at {X} {Y} give y (x ∷ items) c = by (λ d. given_at give y items d) (give items x) refl c
  where
    next : GivenAt give items y → GivenAt give (x ∷ items) y
    next r = record { later = x ∷ r.later; item = r.item; earlier = r.earlier; parts = ap (λ (l : List X). x ∷ l) r.parts; gives = r.gives }

    by : (Contains (given_by give items) y → GivenAt give items y) → (o : Option Y) → give items x ≡ o → Contains (cons_option o (given_by give items)) y →
        GivenAt give (x ∷ items) y
    by rest None e d = next (rest d)
    by rest (Some z) e (zero, l, s) = record { later = []; item = x; earlier = items; parts = refl; gives = e ∙ ap (λ (v : Y). Some v) s }
    by rest (Some z) e (suc k, l, s) = next (rest (k, omega (arith, l), s))

one_more : {Y : Type 0} (o : Option Y) (ys : List Y) (y : Y) → Contains ys y → Contains (cons_option o ys) y
one_more None ys y c = c
one_more (Some z) ys y c = let l = c.1 in (suc c.0, omega (arith, l), c.2)

first_one : {Y : Type 0} (o : Option Y) (ys : List Y) (y : Y) → o ≡ Some y → Contains (cons_option o ys) y
first_one None ys y e = absurd cc
first_one (Some z) ys y e = (zero, omega arith, some_is z y e)
  where
    some_is : {Y : Type 0} (a b : Y) → Some a ≡ Some b → a ≡ b
    some_is a b e = cc

pub given_in : {X Y : Type 0} (give : List X → X → Option Y) (y : Y) (later : List X) (x : X) (earlier : List X) → give earlier x ≡ Some y →
    Contains (given_by give (later ++ x ∷ earlier)) y
unfolding given_by
given_in give y [] x earlier e = first_one (give earlier x) (given_by give earlier) y e
given_in give y (z ∷ later) x earlier e =
    one_more (give (later ++ x ∷ earlier) z) (given_by give (later ++ x ∷ earlier)) y (given_in give y later x earlier e)

-- 2. The last item that passes a test, and none after it

pub record FoundAt {X : Type 0} (test : X → Bool) (items : List X) (x : X) : Type 0 where
  pub between : List X
  pub earlier : List X
  pub parts : items ≡ between ++ x ∷ earlier
  pub passes : test x ≡ true
  pub none_between : filter test between ≡ []

pub found_at : {X : Type 0} (test : X → Bool) (x : X) (items : List X) → find test items ≡ Some x → FoundAt test items x
found_at test x [] e = absurd cc
found_at {X} test x (y ∷ items) e = by (λ h. found_at test x items h) (test y) refl e
  where
    by : (find test items ≡ Some x → FoundAt test items x) → (t : Bool) → test y ≡ t → cond t (Some y) (find test items) ≡ Some x →
        FoundAt test (y ∷ items) x
    by rest true s h =
        let same : y ≡ x = cc in
        record { between = []; earlier = items; parts = ap (λ (v : X). v ∷ items) same; passes = ap test (sym same) ∙ s; none_between = refl }
    by rest false s h =
        let r = rest h in
        record {
          between = y ∷ r.between;
          earlier = r.earlier;
          parts = ap (λ (l : List X). y ∷ l) r.parts;
          passes = r.passes;
          none_between = ap (λ (t : Bool). cond t (y ∷ filter test r.between) (filter test r.between)) s ∙ r.none_between;
        }

pub finds : {X : Type 0} (test : X → Bool) (x : X) (between earlier : List X) → test x ≡ true → filter test between ≡ [] →
    find test (between ++ x ∷ earlier) ≡ Some x
finds {X} test x [] earlier p n = ap (λ (t : Bool). cond t (Some x) (find test earlier)) p
finds {X} test x (y ∷ between) earlier p n = by (λ h. finds test x between earlier p h) (test y) refl n
  where
    by : (filter test between ≡ [] → find test (between ++ x ∷ earlier) ≡ Some x) → (t : Bool) → test y ≡ t →
        cond t (y ∷ filter test between) (filter test between) ≡ [] → cond t (Some y) (find test (between ++ x ∷ earlier)) ≡ Some x
    by rest true s h = absurd cc
    by rest false s h = rest h
