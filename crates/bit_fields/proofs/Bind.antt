-- The parts of a bind and of a test, from its result.
use Rattle.std.proofs.Common.{◌≡◌, Bool, true, false, cond, Result, Ok, Err, refl, ◌⊎◌, inl, inr}
use Rattle.bit_fields.specs.Reading.{◌>>=◌}

-- If a chain of readers gives a value, its first reader gives a value, and the later readers make the result from it.
pub bind_ok : {A B E : Type 0} (r : Result A E) (f : A → Result B E) (y : B) → (r >>= f) ≡ Ok y → (x : A) × (r ≡ Ok x) × (f x ≡ Ok y)
bind_ok (Ok x) f y e = (x, refl, e)
bind_ok (Err d) f y e = absurd cc

-- A chain of readers continues after its first reader gives a value.
pub bind_at : {A B E : Type 0} (r : Result A E) (f : A → Result B E) (x : A) → r ≡ Ok x → (r >>= f) ≡ f x
bind_at r f x e = rw e refl

-- A test that refuses let a value pass.
pub guard_ok : {A E : Type 0} (b : Bool) (d : E) (r : Result A E) (y : A) → cond b (Err d) r ≡ Ok y → (b ≡ false) × (r ≡ Ok y)
guard_ok true d r y e = absurd cc
guard_ok false d r y e = (refl, e)

-- A test that refuses lets a result pass if its condition is false.
pub guarded : {A E : Type 0} (b : Bool) (d : E) (r : Result A E) → b ≡ false → cond b (Err d) r ≡ r
guarded b d r e = rw e refl

-- The branch that a test took
pub chosen : {A : Type 0} (b : Bool) (x y z : A) → cond b x y ≡ z → ((b ≡ true) × (x ≡ z)) ⊎ ((b ≡ false) × (y ≡ z))
chosen true x y z e = inl (refl, e)
chosen false x y z e = inr (refl, e)

-- Equal answers have equal values.
pub ok_is : {A E : Type 0} (x y : A) → ◌≡◌ {A = Result A E} (Ok x) (Ok y) → x ≡ y
ok_is x y e = cc

-- A value is no refusal.
pub ok_not_err : {A E : Type 0} {B : Type 0} (x : A) (d : E) → ◌≡◌ {A = Result A E} (Ok x) (Err d) → B
ok_not_err x d e = absurd cc
