-- Loops of entries: the bytes of a loop, and the entries that its reader returns.
use Rattle.std.proofs.Common.{◌≡◌, ℕ, zero, suc, ◌+◌, ◌<◌, ◌≤◌, nat_lt, Bool, true, false, cond, refl, sym, ap, ◌∙◌, subst, arith, List, [], ◌∷◌, ◌++◌, length}
use Rattle.std.proofs.Common.{take, drop, Option, None, Some, option_map, option_and_then, is_some, append_assoc, length-append}
use Rattle.std.specs.Prelude.{unwrap_or}
use Rattle.std.proofs.lemmas.Bool.{ltb-false, le-ltb}
use Rattle.std.proofs.lemmas.List.{length-take-le, take-append-drop}
use Rattle.std.proofs.Math.Seq.{take-append_seam, drop-append_seam}
use Rattle.psi_tables.specs.Loops.{EntryView, descriptors_length, IsEntry, entry_bytes, AreEntries, entry_after, entry_at, loop_from, loop_at, entries_in}

-- If a value passes a test that may refuse it, the test was false.
some_is : {A : Type 0} (b : Bool) (o : Option A) (x : A) → cond b None o ≡ Some x → (b ≡ false) × (o ≡ Some x)
some_is true o x e = absurd cc
some_is false o x e = (refl, e)

-- Bytes that begin with an entry, and the rest after it
pub record HasEntry (k : ℕ) (bytes : List ℕ) (e : EntryView) (rest : List ℕ) : Type 0 where
  pub is : bytes ≡ entry_bytes e ++ rest
  pub entry : IsEntry k e

after_is : (k : ℕ) (head rest : List ℕ) (p : EntryView × List ℕ) → length head ≡ k → entry_after head rest ≡ Some p → HasEntry k (head ++ rest) p.0 p.1
unfolding entry_after entry_bytes
after_is k head rest p h e =
    let n : ℕ = descriptors_length head in
    let q = some_is (nat_lt (length rest) n) _ p e in
    let fits : n ≤ length rest = ltb-false (length rest) n q.0 in
    let whole : ◌≡◌ {A = EntryView × List ℕ} (record { head = head; descriptors = take n rest }, drop n rest) p = cc in
    subst (λ (p : EntryView × List ℕ). HasEntry k (head ++ rest) p.0 p.1) whole (record {
      is = ap (λ (t : List ℕ). head ++ t) (sym (take-append-drop n rest)) ∙ sym (append_assoc head (take n rest) (drop n rest));
      entry = record { head_length = h; named = sym (length-take-le n rest fits) };
    })

-- If the reader returns an entry, the bytes begin with this entry.
pub entry_at-is : (k : ℕ) (bytes : List ℕ) (p : EntryView × List ℕ) → entry_at k bytes ≡ Some p → HasEntry k bytes p.0 p.1
unfolding entry_at
entry_at-is k bytes p e =
    let q = some_is (nat_lt (length bytes) k) (entry_after (take k bytes) (drop k bytes)) p e in
    let fits : k ≤ length bytes = ltb-false (length bytes) k q.0 in
    subst (λ (bs : List ℕ). HasEntry k bs p.0 p.1) (take-append-drop k bytes) (after_is k (take k bytes) (drop k bytes) p (length-take-le k bytes fits) q.1)

after_read : (e : EntryView) (rest : List ℕ) → descriptors_length e.head ≡ length e.descriptors → entry_after e.head (e.descriptors ++ rest) ≡ Some (e, rest)
unfolding entry_after
after_read e rest h =
    let fits : nat_lt (length (e.descriptors ++ rest)) (length e.descriptors) ≡ false = le-ltb _ _ (omega (arith, length-append e.descriptors rest)) in
    rw (h, fits, take-append_seam e.descriptors rest, drop-append_seam e.descriptors rest) refl

-- If bytes begin with an entry, the reader returns this entry.
pub entry_at-read : (k : ℕ) (e : EntryView) (rest : List ℕ) → IsEntry k e → entry_at k (entry_bytes e ++ rest) ≡ Some (e, rest)
unfolding entry_at entry_bytes
entry_at-read k e rest h =
    let l : length e.head ≡ k = h.head_length in
    let fits : nat_lt (length (e.head ++ (e.descriptors ++ rest))) (length e.head) ≡ false =
    le-ltb _ _ (omega (arith, length-append e.head (e.descriptors ++ rest))) in
    rw (append_assoc e.head e.descriptors rest, ← l, fits, take-append_seam e.head (e.descriptors ++ rest), drop-append_seam e.head (e.descriptors ++ rest))
    (after_read e rest h.named)

pub HasEntry-shorter : (k : ℕ) (bytes : List ℕ) (e : EntryView) (rest : List ℕ) → HasEntry k bytes e rest → length rest + k ≤ length bytes
unfolding entry_bytes
HasEntry-shorter k bytes e rest h =
    omega (arith, ap (length {A = ℕ}) h.is, length-append (e.head ++ e.descriptors) rest, length-append e.head e.descriptors, h.entry.head_length)

same_then : {A B : Type 0} (o : Option A) (f g : A → Option B) → ((x : A) → o ≡ Some x → f x ≡ g x) → option_and_then f o ≡ option_and_then g o
same_then None f g h = refl
same_then (Some x) f g h = h x refl

-- A greater bound on the number of entries makes no difference.
pub loop_from-more : (k : ℕ) (bytes : List ℕ) (n m : ℕ) → 0 < k → length bytes ≤ n → length bytes ≤ m → loop_from k bytes n ≡ loop_from k bytes m
unfolding loop_from
loop_from-more k [] n m some hn hm = refl
loop_from-more k (b ∷ bytes) zero m some hn hm = absurd (omega arith)
loop_from-more k (b ∷ bytes) (suc n) zero some hn hm = absurd (omega arith)
loop_from-more k (b ∷ bytes) (suc n) (suc m) some hn hm =
    same_then (entry_at k (b ∷ bytes)) (λ p. option_map (λ es. p.0 ∷ es) (loop_from k p.1 n)) (λ p. option_map (λ es. p.0 ∷ es) (loop_from k p.1 m))
    (λ p e.
    let shorter : length p.1 + k ≤ length (b ∷ bytes) = HasEntry-shorter k (b ∷ bytes) p.0 p.1 (entry_at-is k (b ∷ bytes) p e) in
    ap (λ (o : Option (List EntryView)). option_map (λ es. p.0 ∷ es) o) (loop_from-more k p.1 n m some (omega arith) (omega arith)))

-- A loop is its first entry and the loop after it.
pub loop_at-step : (k : ℕ) (bytes : List ℕ) (p : EntryView × List ℕ) → 0 < k → entry_at k bytes ≡ Some p →
    loop_at k bytes ≡ option_map (λ es. p.0 ∷ es) (loop_at k p.1)
unfolding loop_at loop_from
loop_at-step k [] p some e =
    let shorter : length p.1 + k ≤ 0 = HasEntry-shorter k [] p.0 p.1 (entry_at-is k [] p e) in
    absurd (omega arith)
loop_at-step k (b ∷ bytes) p some e =
    let shorter : length p.1 + k ≤ length (b ∷ bytes) = HasEntry-shorter k (b ∷ bytes) p.0 p.1 (entry_at-is k (b ∷ bytes) p e) in
    let fuel : loop_from k p.1 (length bytes) ≡ loop_from k p.1 (length p.1) =
    loop_from-more k p.1 (length bytes) (length p.1) some (omega arith) (omega arith) in
    ap (λ (o : Option (EntryView × List ℕ)). option_and_then (λ p. option_map (λ es. p.0 ∷ es) (loop_from k p.1 (length bytes))) o) e
    ∙ ap (λ (o : Option (List EntryView)). option_map (λ es. p.0 ∷ es) o) fuel

-- If no entry fits, the loop is not whole.
pub loop_at-stop : (k : ℕ) (bytes : List ℕ) → 0 < length bytes → entry_at k bytes ≡ None → loop_at k bytes ≡ None
unfolding loop_at loop_from
loop_at-stop k [] some e = absurd (omega arith)
loop_at-stop k (b ∷ bytes) some e =
    ap (λ (o : Option (EntryView × List ℕ)). option_and_then (λ p. option_map (λ es. p.0 ∷ es) (loop_from k p.1 (length bytes))) o) e

pub loop_at-end : (k : ℕ) → loop_at k [] ≡ Some []
unfolding loop_at loop_from
loop_at-end k = refl

-- If bytes consist of entries, the reader returns these entries.
pub loop_at-read : (k : ℕ) (bytes : List ℕ) (es : List EntryView) → 0 < k → AreEntries k bytes es → loop_at k bytes ≡ Some es
loop_at-read k bytes [] some h = ap (λ (bs : List ℕ). loop_at k bs) h ∙ loop_at-end k
loop_at-read k bytes (e ∷ es) some h =
    let read : entry_at k bytes ≡ Some (e, h.0) = ap (λ (bs : List ℕ). entry_at k bs) h.1 ∙ entry_at-read k e h.0 h.2 in
    loop_at-step k bytes (e, h.0) some read ∙ ap (λ (o : Option (List EntryView)). option_map (λ es. e ∷ es) o) (loop_at-read k h.0 es some h.3)

and_then_is : {A B : Type 0} (f : A → Option B) (o : Option A) (y : B) → option_and_then f o ≡ Some y → (x : A) × (o ≡ Some x) × (f x ≡ Some y)
and_then_is f None y e = absurd cc
and_then_is f (Some x) y e = (x, refl, e)

map_is : {A B : Type 0} (f : A → B) (o : Option A) (y : B) → option_map f o ≡ Some y → (x : A) × (o ≡ Some x) × (f x ≡ y)
map_is f None y e = absurd cc
map_is f (Some x) y e = (x, refl, cc)

-- If the reader returns entries, the bytes consist of these entries.
pub loop_from-is : (k : ℕ) (bytes : List ℕ) (n : ℕ) (es : List EntryView) → loop_from k bytes n ≡ Some es → AreEntries k bytes es
unfolding loop_from
loop_from-is k [] n es e = let is : [] ≡ es = cc in subst (λ (es : List EntryView). AreEntries k [] es) is refl
loop_from-is k (b ∷ bytes) zero es e = absurd cc
loop_from-is k (b ∷ bytes) (suc n) es e =
    let p = and_then_is _ (entry_at k (b ∷ bytes)) es e in
    let q = map_is _ (loop_from k p.0.1 n) es p.2 in
    let first : HasEntry k (b ∷ bytes) p.0.0 p.0.1 = entry_at-is k (b ∷ bytes) p.0 p.1 in
    subst (λ (es : List EntryView). AreEntries k (b ∷ bytes) es) q.2 (p.0.1, first.is, first.entry, loop_from-is k p.0.1 n q.0 q.1)

pub loop_at-is : (k : ℕ) (bytes : List ℕ) (es : List EntryView) → loop_at k bytes ≡ Some es → AreEntries k bytes es
unfolding loop_at
loop_at-is k bytes es e = loop_from-is k bytes (length bytes) es e

-- Two loops of entries joined are a loop of all their entries.
pub AreEntries-append : (k : ℕ) (a b : List ℕ) (es fs : List EntryView) → AreEntries k a es → AreEntries k b fs → AreEntries k (a ++ b) (es ++ fs)
AreEntries-append k a b [] fs h g = subst (λ (x : List ℕ). AreEntries k (x ++ b) fs) (sym h) g
AreEntries-append k a b (e ∷ es) fs h g =
    (h.0 ++ b, ap (λ (x : List ℕ). x ++ b) h.1 ∙ append_assoc (entry_bytes e) h.0 b, h.2, AreEntries-append k h.0 b es fs h.3 g)

-- A whole loop has entries.
pub whole_is : (k : ℕ) (bytes : List ℕ) → is_some (loop_at k bytes) ≡ true → loop_at k bytes ≡ Some (entries_in k bytes)
whole_is k bytes h = elim (loop_at k bytes) as (λ o. is_some o ≡ true → o ≡ Some (unwrap_or o [])) [ None ↦ λ e. absurd cc | Some es ↦ λ _. refl ] h

-- After the first entry, the loop is whole if and only if the rest is whole, and its entries are the first entry and the rest's.
pub whole-step : (k : ℕ) (bytes : List ℕ) (p : EntryView × List ℕ) → 0 < k → entry_at k bytes ≡ Some p → is_some (loop_at k bytes) ≡ is_some (loop_at k p.1)
whole-step k bytes p some e = ap (λ (o : Option (List EntryView)). is_some o) (loop_at-step k bytes p some e) ∙ is_some-map (loop_at k p.1) where
  is_some-map : (o : Option (List EntryView)) → is_some (option_map (λ es. p.0 ∷ es) o) ≡ is_some o
  is_some-map None = refl
  is_some-map (Some es) = refl

entries_of_step : (e : EntryView) (a o : Option (List EntryView)) → a ≡ option_map (λ es. e ∷ es) o → is_some a ≡ true → unwrap_or a [] ≡ e ∷ unwrap_or o []
entries_of_step e a None s h = absurd (cc (ap (λ (o : Option (List EntryView)). is_some o) s))
entries_of_step e a (Some es) s h = ap (λ (o : Option (List EntryView)). unwrap_or o []) s

pub entries-step : (k : ℕ) (bytes : List ℕ) (p : EntryView × List ℕ) → 0 < k → entry_at k bytes ≡ Some p → is_some (loop_at k bytes) ≡ true →
    entries_in k bytes ≡ p.0 ∷ entries_in k p.1
entries-step k bytes p some e h = entries_of_step p.0 (loop_at k bytes) (loop_at k p.1) (loop_at-step k bytes p some e) h

-- A loop of no bytes is whole.
pub whole_none : (k : ℕ) (bytes : List ℕ) → length bytes ≡ 0 → is_some (loop_at k bytes) ≡ true
whole_none k [] h = ap (λ (o : Option (List EntryView)). is_some o) (loop_at-end k)
whole_none k (b ∷ bytes) h = absurd (omega arith)

-- If no entry fits at the front, a whole loop has no entries.
pub entries-end : (k : ℕ) (bytes : List ℕ) → entry_at k bytes ≡ None → is_some (loop_at k bytes) ≡ true → entries_in k bytes ≡ []
entries-end k [] e h = ap (λ (o : Option (List EntryView)). unwrap_or o []) (loop_at-end k)
entries-end k (b ∷ bytes) e h = absurd (cc (ap (λ (o : Option (List EntryView)). is_some o) (loop_at-stop k (b ∷ bytes) (omega arith) e)))
