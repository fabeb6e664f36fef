-- The header of a table of the long form.
use Rattle.std.proofs.Common.{◌≡◌, ℕ, ◌+◌, ◌≤◌, ◌==◌, nat_lt, Bool, true, false, cond, refl, ap, ◌∙◌, length, Option, None, Some, Result, Ok, Err, eq-eqb}
use Rattle.std.proofs.Common.{eqb-true}
use Rattle.std.proofs.lemmas.Bool.{ltb-false, le-ltb}
use Rattle.bit_fields.proofs.Bind.{ok_is}
use Rattle.psi_tables.specs.Views.{SectionView}
use Rattle.psi_tables.specs.Tables.{form_at, table_header_at}
use Rattle.psi_tables.specs.declared.error.SectionError.{SectionError}
use Rattle.psi_tables.specs.declared.error.SectionError.TheVariants.{Length, Syntax}
use Rattle.psi_tables.specs.declared.section.LongHeader.{LongHeader}

-- A section with the table's id and form, and a length that the table allows
pub record HasHeader (id greatest : ℕ) (s : SectionView) (h : LongHeader) : Type 0 where
  pub table_id : s.header.table_id ≡ id
  pub long : s.header.long ≡ Some h
  pub section_length : 9 + length s.body ≤ greatest

test_is : {A : Type 0} (t : Bool) (x : Result A SectionError) (d : SectionError) (y : A) → cond t x (Err d) ≡ Ok y → (t ≡ true) × (x ≡ Ok y)
test_is true x d y e = (refl, e)
test_is false x d y e = absurd cc

refused_is : {A : Type 0} (t : Bool) (x : Result A SectionError) (d : SectionError) (y : A) → cond t (Err d) x ≡ Ok y → (t ≡ false) × (x ≡ Ok y)
refused_is true x d y e = absurd cc
refused_is false x d y e = (refl, e)

form_is : (greatest : ℕ) (long : Option LongHeader) (n : ℕ) (h : LongHeader) → form_at greatest long n ≡ Ok h → (long ≡ Some h) × (9 + n ≤ greatest)
unfolding form_at
form_is greatest None n h e = absurd cc
form_is greatest (Some l) n h e =
    let q = refused_is (nat_lt greatest (9 + n)) (Ok l) Length h e in
    (ap (λ (x : LongHeader). Some x) (ok_is l h q.1), ltb-false greatest (9 + n) q.0)

-- If the reader returns a header, the section has this header.
pub table_header_at-is : (table_id greatest : ℕ) (s : SectionView) (h : LongHeader) → table_header_at table_id greatest s ≡ Ok h →
    HasHeader table_id greatest s h
unfolding table_header_at
table_header_at-is table_id greatest s h e =
    let q = test_is (s.header.table_id == table_id) (form_at greatest s.header.long (length s.body)) Syntax h e in
    let f = form_is greatest s.header.long (length s.body) h q.1 in
    record { table_id = eqb-true s.header.table_id table_id q.0; long = f.0; section_length = f.1 }

form_read : (greatest n : ℕ) (h : LongHeader) → 9 + n ≤ greatest → form_at greatest (Some h) n ≡ Ok h
unfolding form_at
form_read greatest n h fits = rw (le-ltb greatest (9 + n) fits) refl

-- If a section has a header, the reader returns this header.
pub table_header_at-read : (table_id greatest : ℕ) (s : SectionView) (h : LongHeader) → HasHeader table_id greatest s h →
    table_header_at table_id greatest s ≡ Ok h
unfolding table_header_at
table_header_at-read table_id greatest s h k =
    let test : (s.header.table_id == table_id) ≡ true = eq-eqb s.header.table_id table_id k.table_id in
    ap (λ (t : Bool). cond t (form_at greatest s.header.long (length s.body)) (Err Syntax)) test
    ∙ ap (λ (o : Option LongHeader). form_at greatest o (length s.body)) k.long
    ∙ form_read greatest (length s.body) h k.section_length
