-- The fields of a line, one after another
use Rattle.std.proofs.Common.{◌≡◌, [], ◌∷◌, refl}
use Rattle.event_lines.specs.FieldViews.{FieldView}

pub one : (a z : FieldView) → a ≡ z → a ∷ [] ≡ z ∷ []
one a z p = rw p refl

pub two : (a b y z : FieldView) → a ≡ y → b ≡ z → a ∷ b ∷ [] ≡ y ∷ z ∷ []
two a b y z p q = rw (p, q) refl

pub three : (a b c x y z : FieldView) → a ≡ x → b ≡ y → c ≡ z →
    a ∷ b ∷ c ∷ [] ≡ x ∷ y ∷ z ∷ []
three a b c x y z p q r = rw (p, q, r) refl

pub four : (a b c d w x y z : FieldView) → a ≡ w → b ≡ x → c ≡ y → d ≡ z →
    a ∷ b ∷ c ∷ d ∷ [] ≡ w ∷ x ∷ y ∷ z ∷ []
four a b c d w x y z p q r s = rw (p, q, r, s) refl

pub five : (a b c d e v w x y z : FieldView) → a ≡ v → b ≡ w → c ≡ x → d ≡ y → e ≡ z →
    a ∷ b ∷ c ∷ d ∷ e ∷ [] ≡ v ∷ w ∷ x ∷ y ∷ z ∷ []
five a b c d e v w x y z p q r s i = rw (p, q, r, s, i) refl

pub six : (a b c d e f u v w x y z : FieldView) → a ≡ u → b ≡ v → c ≡ w → d ≡ x → e ≡ y → f ≡ z →
    a ∷ b ∷ c ∷ d ∷ e ∷ f ∷ [] ≡ u ∷ v ∷ w ∷ x ∷ y ∷ z ∷ []
six a b c d e f u v w x y z p q r s i j = rw (p, q, r, s, i, j) refl

pub seven : (a b c d e f g t u v w x y z : FieldView) → a ≡ t → b ≡ u → c ≡ v → d ≡ w → e ≡ x → f ≡ y → g ≡ z →
    a ∷ b ∷ c ∷ d ∷ e ∷ f ∷ g ∷ [] ≡ t ∷ u ∷ v ∷ w ∷ x ∷ y ∷ z ∷ []
seven a b c d e f g t u v w x y z p q r s i j k = rw (p, q, r, s, i, j, k) refl
