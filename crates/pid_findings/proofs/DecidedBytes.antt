-- A decision stays the same with more bytes.
use Rattle.std.proofs.Common.{◌≡◌, ◌≢◌, ℕ, zero, suc, ◌+◌, ◌-◌, ◌==◌, subst, Bool, true, false, cond, List, [], ◌∷◌, ◌++◌, length, Option, Some, None, Result}
use Rattle.std.proofs.Common.{Ok, Err, refl, arith, length-append}
use Rattle.std.specs.Prelude.{nat_lt}
use Rattle.std.proofs.lemmas.Bool.Decides.{nat_tests}
use Rattle.pes_packet.specs.Reading.{header_at}
use Rattle.pes_packet.specs.declared.reading.PesHeader.{PesHeader}
use Rattle.pes_packet.specs.declared.refusal.PesError.{PesError}
use Rattle.pes_packet.specs.declared.refusal.PesError.TheVariants as pes_errors
use Rattle.pes_packet.proofs.LongerRead.{longer_is_read}
use Rattle.psi_tables.proofs.SectionForms.{section_longer}
use Rattle.psi_tables.specs.Reading.{section_at}
use Rattle.psi_tables.specs.Views.{SectionView}
use Rattle.psi_tables.specs.declared.error.SectionError.{SectionError}
use Rattle.psi_tables.specs.declared.error.SectionError.TheVariants as section_errors
use Rattle.pid_findings.specs.Views.{WhatView}
use Rattle.pid_findings.specs.OpenUnits.{UnitKind, decided, of_header, of_pes, of_section, max_unbounded_pes, taken_by, last_in}
use Rattle.pid_findings.specs.declared.open_unit.UnitKind.TheVariants as unit_kinds

value_is : (x y : List ℕ) → ◌≡◌ {A = Option (List ℕ)} (Some x) (Some y) → x ≡ y
value_is x y e = cc

some_not_none : (x : WhatView) → ◌≡◌ {A = Option WhatView} (Some x) None → ⊥
some_not_none x e = absurd cc

shorter : (n : ℕ) (bytes more : List ℕ) → nat_lt n (length (bytes ++ more)) ≡ false → nat_lt n (length bytes) ≡ false
shorter n bytes more e = let h : length (bytes ++ more) ≡ length bytes + length more = length-append bytes more in grind (arith, nat_tests)

short : (n : ℕ) (bytes more : List ℕ) → nat_lt (length (bytes ++ more)) n ≡ true → nat_lt (length bytes) n ≡ true
short n bytes more e = let h : length (bytes ++ more) ≡ length bytes + length more = length-append bytes more in grind (arith, nat_tests)

unbounded : (b : Bool) (x : WhatView) → cond b (Some x) None ≡ None → b ≡ false
unbounded true x e = absurd cc
unbounded false x e = refl

bounded : (b : Bool) (x : WhatView) → cond b None (Some x) ≡ None → b ≡ true
bounded true x e = refl
bounded false x e = absurd cc

header_before : (z : Bool) (bytes more : List ℕ) (n : ℕ) (u v x y : WhatView) →
    cond z (cond (nat_lt max_unbounded_pes (length (bytes ++ more))) (Some u) None) (cond (nat_lt (length (bytes ++ more)) n) None (Some v)) ≡ None →
    cond z (cond (nat_lt max_unbounded_pes (length bytes)) (Some x) None) (cond (nat_lt (length bytes) n) None (Some y)) ≡ None
header_before true bytes more n u v x y e =
    let f : nat_lt max_unbounded_pes (length bytes) ≡ false =
    shorter max_unbounded_pes bytes more (unbounded (nat_lt max_unbounded_pes (length (bytes ++ more))) u e) in rw f refl
header_before false bytes more n u v x y e =
    let f : nat_lt (length bytes) n ≡ true = short n bytes more (bounded (nat_lt (length (bytes ++ more)) n) v e) in rw f refl

of_header_before : (bytes more : List ℕ) (h : PesHeader × ℕ) → of_header (bytes ++ more) h ≡ None → of_header bytes h ≡ None
unfolding of_header
of_header_before bytes more h e = header_before (h.0.len == 0) bytes more (6 + h.0.len) _ _ _ _ e

of_pes_before : (bytes more : List ℕ) (r s : Result (PesHeader × ℕ) PesError) → (r ≢ Err pes_errors.Short → s ≡ r) → of_pes (bytes ++ more) s ≡ None →
    of_pes bytes r ≡ None
unfolding of_pes
of_pes_before bytes more (Ok h) s k e =
    let q : s ≡ Ok h = k (λ x. absurd cc) in
    of_header_before bytes more h (subst (λ (t : Result (PesHeader × ℕ) PesError). of_pes (bytes ++ more) t ≡ None) q e)
of_pes_before bytes more (Err pes_errors.Short) s k e = refl
of_pes_before bytes more (Err x) s k e =
    let q : s ≡ Err x = k (λ y. absurd cc) in subst (λ (t : Result (PesHeader × ℕ) PesError). of_pes (bytes ++ more) t ≡ None) q e

of_section_before : (bytes more : List ℕ) (r s : Result (SectionView × ℕ) SectionError) → (r ≢ Err section_errors.Short → s ≡ r) →
    of_section (bytes ++ more) s ≡ None → of_section bytes r ≡ None
unfolding of_section
of_section_before bytes more (Ok h) s k e =
    let q : s ≡ Ok h = k (λ x. absurd cc) in
    absurd (some_not_none _ (subst (λ (t : Result (SectionView × ℕ) SectionError). of_section (bytes ++ more) t ≡ None) q e))
of_section_before bytes more (Err section_errors.Short) s k e = refl
of_section_before bytes more (Err x) s k e =
    let q : s ≡ Err x = k (λ y. absurd cc) in subst (λ (t : Result (SectionView × ℕ) SectionError). of_section (bytes ++ more) t ≡ None) q e

-- Bytes are undecided if they are undecided with more bytes after them.
pub undecided_before : (kind : UnitKind) (bytes more : List ℕ) → decided kind (bytes ++ more) ≡ None → decided kind bytes ≡ None
unfolding decided
undecided_before unit_kinds.Pes bytes more e = of_pes_before bytes more (header_at bytes) (header_at (bytes ++ more)) (longer_is_read bytes more) e
undecided_before unit_kinds.Section bytes more e = of_section_before bytes more (section_at bytes) (section_at (bytes ++ more)) (section_longer bytes more) e

last_by : (b : ℕ) (bytes rest : List ℕ) (t : Bool) (d : Option WhatView) → decided unit_kinds.Section (b ∷ bytes) ≡ d →
    ((k : ℕ) → last_in k bytes ≡ Some rest → decided unit_kinds.Section rest ≡ None) →
    cond t None (elim d as (λ x. Option (List ℕ)) [ None ↦ Some (b ∷ bytes) | Some what ↦ last_in (taken_by (b ∷ bytes) what - 1) bytes ]) ≡ Some rest →
    decided unit_kinds.Section rest ≡ None
last_by b bytes rest true d f ih e = absurd cc
last_by b bytes rest false None f ih e = subst (λ (x : List ℕ). decided unit_kinds.Section x ≡ None) (value_is (b ∷ bytes) rest e) f
last_by b bytes rest false (Some what) f ih e = ih (taken_by (b ∷ bytes) what - 1) e

-- A section at the end of a payload is undecided.
pub last_undecided : (k : ℕ) (bytes rest : List ℕ) → last_in k bytes ≡ Some rest → decided unit_kinds.Section rest ≡ None
unfolding last_in
last_undecided k [] rest e = absurd cc
last_undecided (suc k) (b ∷ bytes) rest e = last_undecided k bytes rest e
last_undecided zero (b ∷ bytes) rest e = last_by b bytes rest (b == 0xFF) (decided unit_kinds.Section (b ∷ bytes)) refl (λ k. last_undecided k bytes rest) e
