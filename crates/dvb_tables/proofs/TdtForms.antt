-- The time and date table: reading finds exactly the bytes' fields
use Rattle.std.proofs.Common.{◌≡◌, ℕ, ◌==◌, true, refl, ap, List, length, Option, None, Some, Ok, Err, inl, inr, eq-eqb, eqb-true}
use Rattle.bit_fields.proofs.Bind.{chosen}
use Rattle.psi_tables.specs.Views.{SectionView}
use Rattle.psi_tables.specs.declared.error.SectionError.TheVariants.{Syntax, Body}
use Rattle.psi_tables.specs.declared.section.LongHeader.{LongHeader}
use Rattle.dvb_tables.specs.TimeAndDate.{IsTdt, tdt_at, tdt_of_form}
use Rattle.dvb_tables.specs.declared.time_and_date.Tdt.{Tdt}
use Rattle.dvb_tables.proofs.Seams.{accepted}

record Form (long : Option LongHeader) (body : List ℕ) (t : Tdt) : Type 0 where
  short : long ≡ None
  len : length body ≡ 5
  is : body ≡ t.utc_time

form_is : (long : Option LongHeader) (body : List ℕ) (t : Tdt) → tdt_of_form long body ≡ Ok t → Form long body t
unfolding tdt_of_form
form_is None body t e =
    let a = accepted {A = Tdt} (length body == 5) (record { utc_time = body }) Body t e in
    record { short = refl; len = eqb-true (length body) 5 a.0; is = ap (λ (t : Tdt). t.utc_time) a.1 }
form_is (Some h) body t e = absurd cc

-- A table that is read from the bytes is a time and date table.
pub tdt_is : (s : SectionView) (t : Tdt) → tdt_at s ≡ Ok t → IsTdt s t
unfolding tdt_at
tdt_is s t e =
    elim (chosen (s.header.table_id == 0x70) (tdt_of_form s.header.long s.body) (Err Syntax) (Ok t) e) [
      | inl p ↦ let f = form_is s.header.long s.body t p.1 in
          record { table_id = eqb-true s.header.table_id 0x70 p.0; short = f.short; utc_time = f.is; section_length = f.len }
      | inr p ↦ absurd (cc p.1)
    ]

form_read : (body : List ℕ) (t : Tdt) → length body ≡ 5 → body ≡ t.utc_time → tdt_of_form None body ≡ Ok t
unfolding tdt_of_form
form_read body t len is =
    let five : (length body == 5) ≡ true = eq-eqb (length body) 5 len in
    let whole : ◌≡◌ {A = Tdt} (record { utc_time = body }) t = ap (λ (b : List ℕ). record { utc_time = b }) is in
    rw five (ap (λ (t : Tdt). Ok t) whole)

-- A time and date table is read back.
pub tdt_again : (s : SectionView) (t : Tdt) → IsTdt s t → tdt_at s ≡ Ok t
unfolding tdt_at
tdt_again s t h =
    let id : (s.header.table_id == 0x70) ≡ true = eq-eqb s.header.table_id 0x70 h.table_id in
    rw (id, h.short) (form_read s.body t h.section_length h.utc_time)
