-- The findings that are noted, and the findings that remain.
use Rattle.std.proofs.Common.{◌≡◌, Bool, cond, true, false, List, [], ◌∷◌, ◌++◌, map, Option, None, refl, sym, ap, ◌∙◌, append_assoc}
use Rattle.pid_findings.specs.Roles.{Role, role_divides}
use Rattle.pid_findings.specs.OpenUnits.{OpenUnit}
use Rattle.pid_findings.specs.Shown.{GivenView, kept_by}
use Rattle.std.proofs.lemmas.List.{append-nil, map-append}
use Rattle.pid_findings.specs.Views.{Found}

-- No finding remains.
pub left_none : (t : Found → GivenView) (noted all : List GivenView) (left : List Found) → left ≡ [] → noted ++ map t left ≡ all → noted ≡ all
left_none t noted all left e h = sym (append-nil noted) ∙ ap (λ (xs : List Found). noted ++ map t xs) (sym e) ∙ h

-- One more finding is noted.
pub left_more : (t : Found → GivenView) (noted more all : List GivenView) (x : Found) (left rest : List Found) →
    left ≡ x ∷ rest → more ≡ noted ++ map t (x ∷ []) → noted ++ map t left ≡ all → more ++ map t rest ≡ all
left_more t noted more all x left rest e m h =
    ap (λ (ys : List GivenView). ys ++ map t rest) m ∙ append_assoc noted (map t (x ∷ [])) (map t rest)
    ∙ ap (λ (xs : List Found). noted ++ map t xs) (sym e) ∙ h

-- Three lists of notes, appended to earlier notes
pub three_noted : {X : Type 0} (f : X → GivenView) (t : Found → GivenView) (out new n0 n1 n2 n3 : List X) (a : Found) (cut rest : List Found) →
    n0 ≡ [] → map f n1 ≡ map f n0 ++ map t (a ∷ []) → map f n2 ≡ map f n1 ++ map t cut → map f n3 ≡ map f n2 ++ map t rest → new ≡ out ++ n3 →
    map f new ≡ map f out ++ map t ((a ∷ cut) ++ rest)
three_noted {X} f t out new n0 n1 n2 n3 a cut rest z one two three app =
    let first : map f n1 ≡ t a ∷ [] = one ∙ ap (λ (xs : List X). map f xs ++ (t a ∷ [])) z in
    let all : map f n3 ≡ map t ((a ∷ cut) ++ rest) =
    three ∙ ap (λ (ys : List GivenView). ys ++ map t rest) (two ∙ ap (λ (ys : List GivenView). ys ++ map t cut) first)
    ∙ sym (map-append t (a ∷ cut) rest) in
    ap (map f) app ∙ map-append f out n3 ∙ ap (λ (ys : List GivenView). map f out ++ ys) all

-- Without an open unit, nothing is kept.
none_either : (b : Bool) → (P : Bool → Type 0) → P true → P false → P b
none_either true P t f = t
none_either false P t f = f

pub kept_none : (role : Role) → kept_by role None ≡ None
kept_none role = none_either (role_divides role) (λ b. ◌≡◌ {A = Option OpenUnit} (cond b None None) None) refl refl
