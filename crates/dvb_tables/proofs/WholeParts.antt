-- The bytes after the bytes that a descriptor counts
use Rattle.std.proofs.Common.{◌≡◌, ℕ, zero, suc, ◌<◌, ◌≤◌, Bool, true, false, cond, nat_lt, Option, None, Some, refl, List, [], ◌∷◌, ◌++◌, length, drop, sym}
use Rattle.std.proofs.Common.{ap, ◌∙◌, subst, arith}
use Rattle.std.proofs.lemmas.List.{length-drop}
use Rattle.dvb_tables.specs.Descriptors.{descriptor}
use Rattle.std.specs.Borrow.{Bor}
use Rattle.descriptor_loops.specs.Descriptors.{DescriptorView, descriptor_view, first_descriptor}
use Rattle.descriptor_loops.specs.declared.descriptors.Descriptor.{Descriptor}
use Rattle.dvb_tables.specs.DescriptorLoops.{AreDescriptors, ends_whole, are_whole_descriptors}
use Rattle.dvb_tables.specs.Laws.{WholeDescriptors}
use Rattle.std.proofs.lemmas.Bool.{ltb-false, ltb-true}

-- If the counted bytes are all there, the test depends only on the bytes after them.
pub ends_after : (n : ℕ) (bytes : List ℕ) → n ≤ length bytes → ends_whole n bytes ≡ ends_whole 0 (drop n bytes)
unfolding ends_whole
ends_after zero bytes h = refl
ends_after (suc n) [] h = absurd (omega arith)
ends_after (suc n) (b ∷ bytes) h = ends_after n bytes (omega arith)

-- A descriptor that ends too soon is not whole.
pub ends_short : (n : ℕ) (bytes : List ℕ) → length bytes < n → ends_whole n bytes ≡ false
unfolding ends_whole
ends_short zero bytes h = absurd (omega arith)
ends_short (suc n) [] h = refl
ends_short (suc n) (b ∷ bytes) h = ends_short n bytes (omega arith)

-- The counted bytes, and the descriptors after them
record Ends (n : ℕ) (bytes : List ℕ) : Type 0 where
  body : List ℕ
  rest : List ℕ
  ds : List (ℕ × List ℕ)
  is : bytes ≡ body ++ rest
  len : length body ≡ n
  there : AreDescriptors rest ds

-- A refusing test that let a value pass
guard_some : {A : Type 0} (b : Bool) (r : Option A) (y : A) → cond b None r ≡ Some y → (b ≡ false) × (r ≡ Some y)
guard_some true r y e = absurd cc
guard_some false r y e = (refl, e)

some_is : {A : Type 0} (x y : A) → ◌≡◌ {A = Option A} (Some x) (Some y) → x ≡ y
some_is x y e = cc

-- A refusing test that refused
guard_none : {A : Type 0} (b : Bool) (y : A) → cond b None (Some y) ≡ None → b ≡ true
guard_none true y e = refl
guard_none false y e = absurd cc

descriptor_is : (tag n : ℕ) (bytes body rest : List ℕ) → length body ≡ n → bytes ≡ body ++ rest → tag ∷ n ∷ bytes ≡ descriptor tag body ++ rest
descriptor_is tag n bytes body rest counted is = cc

ends_there : (n : ℕ) (bytes : List ℕ) → ends_whole n bytes ≡ true → Ends n bytes
unfolding ends_whole
ends_there zero [] h = record { body = []; rest = []; ds = []; is = refl; len = refl; there = refl }
ends_there (suc n) [] h = absurd cc
ends_there zero (tag ∷ []) h = absurd cc
ends_there zero (tag ∷ n ∷ bytes) h =
    let e = ends_there n bytes h in
    let is : tag ∷ n ∷ bytes ≡ descriptor tag e.body ++ e.rest = descriptor_is tag n bytes e.body e.rest e.len e.is in
    record { body = []; rest = tag ∷ n ∷ bytes; ds = (tag, e.body) ∷ e.ds; is = refl; len = refl; there = (e.rest, is, e.there) }
ends_there (suc n) (b ∷ bytes) h =
    let e = ends_there n bytes h in
    record { body = b ∷ e.body; rest = e.rest; ds = e.ds; is = ap (λ (t : List ℕ). b ∷ t) e.is; len = ap suc e.len; there = e.there }

-- Descriptors one after another are accepted.
whole_there : (bytes : List ℕ) (ds : List (ℕ × List ℕ)) → AreDescriptors bytes ds → ends_whole 0 bytes ≡ true
unfolding ends_whole
whole_there bytes [] h = rw h refl
whole_there bytes (d ∷ ds) h =
    let rest = whole_there h.0 ds h.2 in
    let after : ends_whole (length d.1) (d.1 ++ h.0) ≡ ends_whole 0 h.0 = ends_body d.1 h.0 in
    rw h.1 (after ∙ rest)
  where
    ends_body : (body rest : List ℕ) → ends_whole (length body) (body ++ rest) ≡ ends_whole 0 rest
    ends_body [] rest = refl
    ends_body (b ∷ body) rest = ends_body body rest

front_is : (bytes : List ℕ) (p : DescriptorView × List ℕ) → first_descriptor bytes ≡ Some p
    → (length p.1 < length bytes) × (are_whole_descriptors bytes ≡ are_whole_descriptors p.1)
unfolding first_descriptor are_whole_descriptors ends_whole
front_is [] p e = absurd cc
front_is (tag ∷ []) p e = absurd cc
front_is (tag ∷ n ∷ bytes) p e =
    let g = guard_some (nat_lt (length bytes) n) _ p e in
    let room : n ≤ length bytes = ltb-false (length bytes) n g.0 in
    let is : drop n bytes ≡ p.1 = ap (λ (q : DescriptorView × List ℕ). q.1) (some_is _ _ g.1) in
    let size : length (drop n bytes) ≡ length p.1 = ap (length {A = ℕ}) is in
    (omega (arith, length-drop n bytes), ends_after n bytes room ∙ ap (ends_whole 0) is)

-- If a descriptor is at the front, the test depends only on the bytes after it, which are fewer.
pub front_shorter : (bytes : List ℕ) (d : Descriptor) (rest : Bor (List ℕ)) → first_descriptor bytes ≡ Some (descriptor_view d, rest.now) →
    length rest.now < length bytes
front_shorter bytes d rest e = (front_is bytes (descriptor_view d, rest.now) e).0

pub front_some : (bytes : List ℕ) (d : Descriptor) (rest : Bor (List ℕ)) → first_descriptor bytes ≡ Some (descriptor_view d, rest.now) →
    are_whole_descriptors bytes ≡ are_whole_descriptors rest.now
front_some bytes d rest e = (front_is bytes (descriptor_view d, rest.now) e).1

-- Bytes without a whole descriptor at the front are refused.
pub front_none : (bytes : List ℕ) → first_descriptor bytes ≡ None → 0 < length bytes → are_whole_descriptors bytes ≡ false
unfolding first_descriptor are_whole_descriptors ends_whole
front_none [] e some = absurd (omega arith)
front_none (tag ∷ []) e some = refl
front_none (tag ∷ n ∷ bytes) e some = ends_short n bytes (ltb-true (length bytes) n (guard_none (nat_lt (length bytes) n) _ e))

-- An empty list of bytes is accepted.
pub front_nil : (bytes : List ℕ) → length bytes ≡ 0 → are_whole_descriptors bytes ≡ true
unfolding are_whole_descriptors ends_whole
front_nil [] e = refl
front_nil (x ∷ bytes) e = absurd (omega arith)

nothing : (body rest : List ℕ) → length body ≡ 0 → body ++ rest ≡ rest
nothing [] rest e = refl
nothing (x ∷ body) rest e = absurd (omega arith)

-- The test accepts exactly descriptors one after another.
pub whole_descriptors : WholeDescriptors
unfolding are_whole_descriptors
whole_descriptors bytes = (
  (λ h. let e = ends_there 0 bytes h in (e.ds, subst (λ (t : List ℕ). AreDescriptors t e.ds) (sym (e.is ∙ nothing e.body e.rest e.len)) e.there)),
  (λ h. whole_there bytes h.0 h.1),
)
