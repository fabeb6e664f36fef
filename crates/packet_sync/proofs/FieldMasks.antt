-- Masks by PID: before the first field, and with a field more.
use Rattle.std.proofs.Common.{◌≡◌, ◌<◌, inl, inr, ℕ, ◌==◌, ◌&&◌, ◌||◌, Bool, true, false, List, [], ◌∷◌, ◌++◌, length, refl, sym, ap, ap₂, subst, ◌∙◌, arith}
use Rattle.std.specs.Prelude.{slice_set, slice_index}
use Rattle.std.specs.Int.{bit_at}
use Rattle.std.proofs.lemmas.Bool.{eq-eqb, ne_eqb, cases_eq}
use Rattle.std.proofs.lemmas.List.{length-set, get_or-set_same, get_or-set_other, get_or_past}
use Rattle.std.proofs.lemmas.List.Folds.{list_any-append}
use Rattle.std.proofs.lemmas.Nat.Bits.{bit_at-zero}
use Rattle.packet_sync.specs.Fields.{number_of}
use Rattle.packet_sync.specs.FieldsLeftOut.{has_field}
use Rattle.packet_sync.specs.FieldMasks.{AreMasks, SetsBit}
use Rattle.packet_sync.specs.declared.left_out.FieldLeftOut.{FieldLeftOut}

-- 1. Before the first field

no_bit : (mask number : ℕ) → mask ≡ 0 → (bit_at mask number == 1) ≡ false
no_bit mask number is = ap (λ (n : ℕ). n == 1) (ap (λ (m : ℕ). bit_at m number) is ∙ bit_at-zero number)

none_at : (pid : ℕ) → slice_index [] pid ≡ 0
none_at pid = get_or_past {X = ℕ} [] pid 0 (omega arith)

pub no_masks : AreMasks [] []
no_masks = record { size = inl refl; each = λ pid number below. no_bit (slice_index [] pid) number (none_at pid) }

-- 2. A field more

or_false : (b : Bool) → (b || false) ≡ b
or_false true = refl
or_false false = refl

or_true : (b : Bool) → (b || true) ≡ true
or_true true = refl
or_true false = refl

one_more : (found : List FieldLeftOut) (f : FieldLeftOut) (pid number : ℕ) →
    has_field (found ++ f ∷ []) pid number ≡ (has_field found pid number || ((f.pid == pid && number_of f.field == number) || false))
one_more found f pid number = list_any-append (λ (x : FieldLeftOut). x.pid == pid && number_of x.field == number) found (f ∷ [])

-- another field of this PID, or a field of another PID
apart : (found : List FieldLeftOut) (f : FieldLeftOut) (pid number : ℕ) → (f.pid == pid && number_of f.field == number) ≡ false →
    has_field found pid number ≡ has_field (found ++ f ∷ []) pid number
apart found f pid number e =
    sym (one_more found f pid number ∙ ap (λ (b : Bool). has_field found pid number || (b || false)) e ∙ or_false (has_field found pid number))

here : (found : List FieldLeftOut) (f : FieldLeftOut) (pid number : ℕ) → (f.pid == pid && number_of f.field == number) ≡ true →
    true ≡ has_field (found ++ f ∷ []) pid number
here found f pid number e =
    sym (one_more found f pid number ∙ ap (λ (b : Bool). has_field found pid number || (b || false)) e ∙ or_true (has_field found pid number))

-- the field's PID and number are these, or not
both : (a b c d : ℕ) → a ≡ b → c ≡ d → (a == b && c == d) ≡ true
both a b c d e f = ap₂ (λ (x y : Bool). x && y) (eq-eqb a b e) (eq-eqb c d f)

pub with_field_more : (masks : List ℕ) (found : List FieldLeftOut) (f : FieldLeftOut) (mask : ℕ) → length masks ≡ 8192 → f.pid < 8192 →
    SetsBit (slice_index masks f.pid) (number_of f.field) mask → AreMasks masks found → AreMasks (slice_set masks f.pid mask) (found ++ f ∷ [])
with_field_more masks found f mask size fits sets m = record {
  size = inr (length-set masks _ _ ∙ size);
  each = λ pid number below. elim (cases_eq f.pid pid) [
    | inl e ↦
        let there : slice_index (slice_set masks f.pid mask) pid ≡ mask =
        ap (slice_index (slice_set masks f.pid mask)) (sym e) ∙ get_or-set_same masks f.pid mask 0 (omega (arith, size, fits)) in
        elim (cases_eq (number_of f.field) number) [
          | inl n ↦
              let set : bit_at mask number ≡ 1 = ap (bit_at mask) (sym n) ∙ sets.0 in
              ap (λ (x : ℕ). bit_at x number == 1) there ∙ ap (λ (x : ℕ). x == 1) set
              ∙ here found f pid number (both f.pid pid (number_of f.field) number e n)
          | inr n ↦
              let kept : bit_at mask number ≡ bit_at (slice_index masks f.pid) number = sets.1 number (λ q. n (sym q)) in
              ap (λ (x : ℕ). bit_at x number == 1) there ∙ ap (λ (x : ℕ). x == 1) kept
              ∙ ap (λ (p : ℕ). bit_at (slice_index masks p) number == 1) e
              ∙ m.each pid number below
              ∙ apart found f pid number (ap₂ (λ (x y : Bool). x && y) (eq-eqb f.pid pid e) (ne_eqb (number_of f.field) number n))
        ]
    | inr ne ↦
        let there : slice_index (slice_set masks f.pid mask) pid ≡ slice_index masks pid = get_or-set_other masks f.pid pid mask 0 (λ q. ne (sym q)) in
        ap (λ (x : ℕ). bit_at x number == 1) there ∙ m.each pid number below
        ∙ apart found f pid number (ap (λ (x : Bool). x && (number_of f.field == number)) (ne_eqb f.pid pid ne))
  ];
}

-- The same by equal numbers.
pub bit_is_set : (masks : List ℕ) (found : List FieldLeftOut) (f : FieldLeftOut) (pid number mask : ℕ) → length masks ≡ 8192 → pid < 8192 → f.pid ≡ pid →
    number_of f.field ≡ number →
    SetsBit (slice_index masks pid) number mask → AreMasks masks found → AreMasks (slice_set masks pid mask) (found ++ f ∷ [])
bit_is_set masks found f pid number mask size fits p n sets m =
    subst (λ (q : ℕ). AreMasks (slice_set masks q mask) (found ++ f ∷ [])) p
    (with_field_more masks found f mask size (subst (λ (q : ℕ). q < 8192) (sym p) fits)
    (subst (λ (k : ℕ). SetsBit (slice_index masks f.pid) k mask) (sym n) (subst (λ (q : ℕ). SetsBit (slice_index masks q) number mask) (sym p) sets)) m)

pub masks_of_none : (masks : List ℕ) (found : List FieldLeftOut) → masks ≡ [] → found ≡ [] → AreMasks masks found
masks_of_none masks found e f = subst (λ (ms : List ℕ). AreMasks ms found) (sym e) (subst (λ (fs : List FieldLeftOut). AreMasks [] fs) (sym f) no_masks)
