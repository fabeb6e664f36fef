-- The descriptor at the front of a loop, and the later descriptors.
use Rattle.std.proofs.Common.{◌≡◌, ◌≤◌, ℕ, zero, suc, ◌+◌, nat_lt, Bool, true, false, cond, refl, ap, arith, List, [], ◌∷◌, length, drop, Option, None, Some}
use Rattle.std.specs.Option.{option_map_or}
use Rattle.std.proofs.lemmas.List.{length-drop}
use Rattle.std.specs.Borrow.{Bor}
use Rattle.descriptor_loops.specs.Descriptors.{DescriptorView, descriptor_view, first_descriptor, descriptors_from, descriptors_in}
use Rattle.descriptor_loops.specs.declared.descriptors.Descriptor.{Descriptor}

some_is : {A : Type 0} (b : Bool) (o : Option A) (x : A) → cond b None o ≡ Some x → o ≡ Some x
some_is true o x e = absurd cc
some_is false o x e = e

-- The bytes after a descriptor are fewer than all bytes.
shorter : (bytes : List ℕ) (p : DescriptorView × List ℕ) → first_descriptor bytes ≡ Some p → length p.1 + 2 ≤ length bytes
unfolding first_descriptor
shorter [] p e = absurd cc
shorter (tag ∷ []) p e = absurd cc
shorter (tag ∷ size ∷ rest) p e =
    let some = some_is (nat_lt (length rest) size) _ p e in
    let after : drop size rest ≡ p.1 = cc in
    omega (arith, ap (length {A = ℕ}) after, length-drop size rest)

same_after : (o : Option (DescriptorView × List ℕ)) (f g : List ℕ → List DescriptorView) → ((p : DescriptorView × List ℕ) → o ≡ Some p → f p.1 ≡ g p.1) →
    option_map_or (λ p. p.0 ∷ f p.1) o [] ≡ option_map_or (λ p. p.0 ∷ g p.1) o []
same_after None f g same = refl
same_after (Some p) f g same = ap (λ (ds : List DescriptorView). p.0 ∷ ds) (same p refl)

-- A greater limit than the number of bytes makes no difference.
enough : (n m : ℕ) (bytes : List ℕ) → length bytes ≤ n → length bytes ≤ m → descriptors_from n bytes ≡ descriptors_from m bytes
unfolding descriptors_from first_descriptor
enough zero zero bytes one two = refl
enough zero (suc m) [] one two = refl
enough zero (suc m) (b ∷ bytes) one two = absurd (let no : ⊥ = omega (arith, one) in no)
enough (suc n) zero [] one two = refl
enough (suc n) zero (b ∷ bytes) one two = absurd (let no : ⊥ = omega (arith, two) in no)
enough (suc n) (suc m) bytes one two =
    same_after (first_descriptor bytes) (descriptors_from n) (descriptors_from m) (λ p e.
    enough n m p.1 (omega (arith, shorter bytes p e, one)) (omega (arith, shorter bytes p e, two)))

first_in : (bytes : List ℕ) (p : DescriptorView × List ℕ) → first_descriptor bytes ≡ Some p → descriptors_in bytes ≡ p.0 ∷ descriptors_in p.1
unfolding descriptors_in descriptors_from first_descriptor
first_in [] p e = absurd cc
first_in (b ∷ bytes) p e =
    rw e (ap (λ (ds : List DescriptorView). p.0 ∷ ds)
    (enough (length bytes) (length p.1) p.1 (let short = shorter (b ∷ bytes) p e in omega (arith, short)) (omega arith)))

pub next_descriptor : (bytes : List ℕ) (d : Descriptor) (rest : Bor (List ℕ)) → first_descriptor bytes ≡ Some (descriptor_view d, rest.now) →
    descriptors_in bytes ≡ descriptor_view d ∷ descriptors_in rest.now
next_descriptor bytes d rest e = first_in bytes (descriptor_view d, rest.now) e

pub no_descriptor : (bytes : List ℕ) → first_descriptor bytes ≡ None → descriptors_in bytes ≡ []
unfolding descriptors_in descriptors_from first_descriptor
no_descriptor [] e = refl
no_descriptor (b ∷ bytes) e = rw e refl
