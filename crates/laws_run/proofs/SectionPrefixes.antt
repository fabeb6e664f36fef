-- A section after its pointer_field, filled up with 0xFF: what each beginning of it decides.
use Rattle.std.proofs.Common.{◌≡◌, ℕ, ◌+◌, ◌-◌, ◌*◌, ◌%◌, ◌<◌, ◌≤◌, nat_lt, Bool, true, false, cond, List, [], ◌∷◌, ◌++◌, length, take, drop, replicate}
use Rattle.std.proofs.Common.{slice_index, Some, None, Result, Ok, Err, refl, sym, ap, ◌∙◌, arith, take-append-drop, length-take, length-append, ltb-false}
use Rattle.std.proofs.Common.{zero, suc}
use Rattle.std.proofs.Math.Seq.{take-append-add, take-append_seam, drop-append_seam}
use Rattle.std.proofs.lemmas.List.{take-append-le}
use Rattle.bit_fields.specs.Reading.{◌>>=◌}
use Rattle.psi_tables.specs.Views.{SectionView}
use Rattle.psi_tables.specs.Reading.{section_at, section_start_at, sized_at}
use Rattle.psi_tables.specs.declared.error.SectionError.{SectionError}
use Rattle.psi_tables.specs.declared.error.SectionError.TheVariants as section_errors
use Rattle.psi_tables.proofs.SectionForms.{section_longer}
use Rattle.pid_findings.specs.declared.finding.Kind.TheVariants.{Table}
use Rattle.pid_findings.specs.declared.open_unit.UnitKind.TheVariants as unit_kinds
use Rattle.pid_findings.specs.Views.{IsSection}
use Rattle.pid_findings.specs.Roles.{may_begin_pes}
use Rattle.pid_findings.specs.OpenUnits.{decided, of_section, is_stuffing, begun_kind, declared_size, taken_by}
use Rattle.laws_run.specs.Sections.{IsRecognized}

-- A section has the size that it states, and its beginnings are too short

-- What a readable section states of its size, and that its bytes are there
pub record ReadFits (bytes : List ℕ) (size : ℕ) : Type 0 where
  pub some : 3 ≤ length bytes
  pub said : size ≡ declared_size bytes
  pub fits : size ≤ length bytes

abbrev Read : Type 0
Read = Result (SectionView × ℕ) SectionError

same_size : (s : SectionView) (n : ℕ) (p : SectionView × ℕ) → ◌≡◌ {A = Read} (Ok (s, n)) (Ok p) → p.1 ≡ n
same_size s n p e = let q : (s, n) ≡ p = cc in sym (ap (λ (x : SectionView × ℕ). x.1) q)

sized_by : (bad less : Bool) (r : Result SectionView SectionError) (n : ℕ) (p : SectionView × ℕ) →
    cond bad (Err section_errors.Length) (cond less (Err section_errors.Short) (r >>= λ section. Ok (section, n))) ≡ Ok p → (less ≡ false) × (p.1 ≡ n)
sized_by true less r n p e = absurd cc
sized_by false true r n p e = absurd cc
sized_by false false (Err x) n p e = absurd cc
sized_by false false (Ok s) n p e = (refl, same_size s n p e)

pub read_fits : (bytes : List ℕ) (p : SectionView × ℕ) → section_at bytes ≡ Ok p → ReadFits bytes p.1
unfolding section_at section_start_at sized_at
read_fits [] p e = absurd cc
read_fits (a ∷ []) p e = absurd cc
read_fits (a ∷ b ∷ []) p e = absurd cc
read_fits (a ∷ b ∷ c ∷ bytes) p e =
    let n : ℕ = 3 + (b % 16 * 256 + c) in
    let k = sized_by _ (nat_lt (length (a ∷ b ∷ c ∷ bytes)) n) _ n p e in
    let enough : n ≤ length (a ∷ b ∷ c ∷ bytes) = ltb-false (length (a ∷ b ∷ c ∷ bytes)) n k.0 in
    record { some = omega arith; said = k.1; fits = omega (arith, k.1, enough) }

ok_no_err : (p : SectionView × ℕ) (x : SectionError) → ◌≡◌ {A = Read} (Ok p) (Err x) → ⊥
ok_no_err p x e = cc

same_read : (p q : SectionView × ℕ) → ◌≡◌ {A = Read} (Ok p) (Ok q) → p.1 ≡ q.1
same_read p q e = let h : p ≡ q = cc in ap (λ (x : SectionView × ℕ). x.1) h

-- A beginning of a whole section is `Short`.
opens : (text : List ℕ) (n : ℕ) (view : SectionView) → section_at text ≡ Ok (view, length text) → n < length text →
    section_at (take n text) ≡ Err section_errors.Short
opens text n view read less = by (section_at (take n text)) refl
  where
    keep : (r : Read) → (r ≡ Err section_errors.Short → ⊥) → section_at (take n text) ≡ r → section_at text ≡ r
    keep r some e =
        sym (ap section_at (take-append-drop n text)) ∙ section_longer (take n text) (drop n text) (λ s. some (sym e ∙ s)) ∙ e

    by : (r : Read) → section_at (take n text) ≡ r → section_at (take n text) ≡ Err section_errors.Short
    by (Ok q) e =
        let f : section_at text ≡ Ok q = keep (Ok q) (λ y. absurd cc) e in
        let size : length text ≡ q.1 = same_read (view, length text) q (sym read ∙ f) in
        let k = read_fits (take n text) q e in
        absurd (omega (arith, size, k.fits, length-take n text))
    by (Err section_errors.Short) e = e
    by (Err x) e = absurd (ok_no_err (view, length text) x (sym read ∙ keep (Err x) (λ y. absurd cc) e))

-- The section and its filling

-- The first m bytes of the filled section
abbrev pub filled_to : ℕ → List ℕ → List ℕ
filled_to m text = take m (text ++ replicate 184 0xFF)

pub filled_less : (m : ℕ) (text : List ℕ) → m ≤ length text → filled_to m text ≡ take m text
filled_less m text h = take-append-le m text (replicate 184 0xFF) h

filled_more : (m : ℕ) (text : List ℕ) → length text ≤ m → filled_to m text ≡ text ++ take (m - length text) (replicate 184 0xFF)
filled_more m text h =
    let k : m ≡ length text + (m - length text) = omega arith in
    ap (λ (i : ℕ). take i (text ++ replicate 184 0xFF)) k ∙ take-append-add text (replicate 184 0xFF) (m - length text)

pub given_size : (text : List ℕ) → IsRecognized text → 3 ≤ length text
given_size text g = (read_fits text (g.view, length text) g.read).some

pub open_before : (text : List ℕ) (m : ℕ) → IsRecognized text → m < length text → decided unit_kinds.Section (filled_to m text) ≡ None
unfolding decided of_section
open_before text m g less =
    let e : section_at (filled_to m text) ≡ Err section_errors.Short =
    ap section_at (filled_less m text (omega arith)) ∙ opens text m g.view g.read less in
    rw e refl

pub whole_at : (text : List ℕ) (m : ℕ) → IsRecognized text → length text ≤ m → decided unit_kinds.Section (filled_to m text) ≡ Some (IsSection text)
unfolding decided of_section
whole_at text m g le =
    let more : List ℕ = take (m - length text) (replicate 184 0xFF) in
    let some : section_at text ≡ Err section_errors.Short → ⊥ = λ s. ok_no_err (g.view, length text) section_errors.Short (sym g.read ∙ s) in
    let e : section_at (text ++ more) ≡ Ok (g.view, length text) = section_longer text more some ∙ g.read in
    let same : take (length text) (text ++ more) ≡ text = take-append_seam text more in
    ap (decided unit_kinds.Section) (filled_more m text le) ∙ rw (e, same) refl

slice_front : (text more : List ℕ) → 0 < length text → slice_index (text ++ more) 0 ≡ slice_index text 0
slice_front [] more h = absurd (omega arith)
slice_front (a ∷ text) more h = refl

slice_take : (m : ℕ) (text : List ℕ) → 0 < m → slice_index (take m text) 0 ≡ slice_index text 0
slice_take zero text h = absurd (omega arith)
slice_take (suc m) [] h = refl
slice_take (suc m) (a ∷ text) h = refl

pub kind_at : (text : List ℕ) (m : ℕ) → 0 < length text → 0 < m → begun_kind unit_kinds.Section false (filled_to m text) ≡ Table (slice_index text 0)
unfolding begun_kind
kind_at text m some h = ap Table (slice_take m (text ++ replicate 184 0xFF) h ∙ slice_front text (replicate 184 0xFF) some)

fill_front : (text more : List ℕ) → 0 < length text → is_stuffing (text ++ more) ≡ is_stuffing text
fill_front [] more h = absurd (omega arith)
fill_front (a ∷ text) more h = refl

fill_take : (m : ℕ) (text : List ℕ) → 0 < m → 0 < length text → is_stuffing (take m text) ≡ is_stuffing text
fill_take zero text h k = absurd (omega arith)
fill_take (suc m) [] h k = absurd (omega arith)
fill_take (suc m) (a ∷ text) h k = refl

pub fill_same : (text : List ℕ) (m : ℕ) → 0 < length text → 0 < m → is_stuffing (filled_to m text) ≡ is_stuffing text
fill_same text m some h =
    let more : 0 < length (text ++ replicate 184 0xFF) = omega (arith, some, length-append text (replicate 184 0xFF)) in
    fill_take m (text ++ replicate 184 0xFF) h more ∙ fill_front text (replicate 184 0xFF) some

pub no_fill_at : (text : List ℕ) (m : ℕ) → IsRecognized text → 0 < m → is_stuffing (filled_to m text) ≡ false
no_fill_at text m g h = fill_same text m (omega (arith, given_size text g)) h ∙ g.no_fill

points_by : (text more : List ℕ) → 3 ≤ length text → may_begin_pes (0 ∷ take 183 (text ++ more)) ≡ may_begin_pes (0 ∷ text)
points_by [] more h = absurd (omega arith)
points_by (a ∷ []) more h = absurd (omega arith)
points_by (a ∷ b ∷ text) more h = refl

pub pes_same : (text : List ℕ) → 3 ≤ length text → may_begin_pes (0 ∷ filled_to 183 text) ≡ may_begin_pes (0 ∷ text)
pes_same text h = points_by text (replicate 184 0xFF) h

pub no_pes_at : (text : List ℕ) → IsRecognized text → may_begin_pes (0 ∷ filled_to 183 text) ≡ false
no_pes_at text g = pes_same text (given_size text g) ∙ g.no_pes

said_front : (text more : List ℕ) → 3 ≤ length text → declared_size (text ++ more) ≡ declared_size text
said_front [] more h = absurd (omega arith)
said_front (a ∷ []) more h = absurd (omega arith)
said_front (a ∷ b ∷ []) more h = absurd (omega arith)
said_front (a ∷ b ∷ c ∷ text) more h = refl

only_fill : (k n : ℕ) → is_stuffing (take k (replicate n 0xFF)) ≡ true
only_fill zero n = refl
only_fill (suc k) zero = refl
only_fill (suc k) (suc n) = refl

-- Only stuffing follows a whole section.
pub fill_after : (text : List ℕ) (m : ℕ) → IsRecognized text → length text ≤ m →
    is_stuffing (drop (taken_by (filled_to m text) (IsSection text)) (filled_to m text)) ≡ true
unfolding taken_by
fill_after text m g le =
    let more : List ℕ = take (m - length text) (replicate 184 0xFF) in
    let k = read_fits text (g.view, length text) g.read in
    let said : declared_size (text ++ more) ≡ length text = said_front text more k.some ∙ sym k.said in
    ap (λ (t : List ℕ). is_stuffing (drop (declared_size t) t)) (filled_more m text le)
    ∙ ap (λ (i : ℕ). is_stuffing (drop i (text ++ more))) said
    ∙ ap is_stuffing (drop-append_seam text more) ∙ only_fill (m - length text) 184
