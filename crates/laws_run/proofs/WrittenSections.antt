-- Written sections are taken for sections.
use Rattle.std.proofs.Common.{◌≡◌, ℕ, ◌+◌, ◌*◌, ◌/◌, ◌==◌, ◌&&◌, Bool, true, false, List, [], ◌∷◌, ◌++◌, length, Option, Some, None, refl, sym, ap, ◌∙◌, arith}
use Rattle.std.proofs.Common.{ne_eqb, append-nil}
use Rattle.bit_fields.specs.Fields.{bit}
use Rattle.psi_tables.specs.Reading.{section_at}
use Rattle.psi_tables.specs.Encoding.{start_bytes, front_bytes, header_bytes, with_crc, section_bytes}
use Rattle.psi_tables.specs.declared.section.LongHeader.{LongHeader}
use Rattle.psi_tables.proofs.SectionWritten.{written}
use Rattle.pid_findings.specs.OpenUnits.{is_stuffing}
use Rattle.pid_findings.specs.Roles.{may_begin_pes}
use Rattle.laws_run.specs.Sections.{WrittenAreRecognized}

no_both : (a b : Bool) → b ≡ false → (a && (b && true)) ≡ false
no_both true b e = rw e refl
no_both false b e = refl

-- The second byte has reserved bits 11, and so is not 01.
second_byte : (long private high : ℕ) → (1 == long * 128 + (private * 64 + (0x30 + high))) ≡ false
second_byte long private high = ne_eqb 1 (long * 128 + (private * 64 + (0x30 + high))) (λ e. omega (arith, e))

no_pes_by : (l : Option LongHeader) (tid : ℕ) (p : Bool) (body : List ℕ) → may_begin_pes (0 ∷ with_crc l (front_bytes tid p l (length body) ++ body)) ≡ false
unfolding front_bytes start_bytes with_crc
no_pes_by None tid p body = no_both (0 == tid) _ (second_byte (bit false) (bit p) (length body / 256))
no_pes_by (Some h) tid p body = no_both (0 == tid) _ (second_byte (bit true) (bit p) ((9 + length body) / 256))

no_fill_by : (l : Option LongHeader) (tid : ℕ) (p : Bool) (body : List ℕ) → (tid == 0xFF) ≡ false →
    is_stuffing (with_crc l (front_bytes tid p l (length body) ++ body)) ≡ false
unfolding front_bytes start_bytes with_crc
no_fill_by None tid p body e = e
no_fill_by (Some h) tid p body e = e

pub written_are_given : WrittenAreRecognized
unfolding section_bytes header_bytes
written_are_given s w e = record {
  view = s;
  read = ap section_at (sym (append-nil (section_bytes s))) ∙ (written s w).read [];
  no_fill = no_fill_by s.header.long s.header.table_id s.header.private_indicator s.body e;
  no_pes = no_pes_by s.header.long s.header.table_id s.header.private_indicator s.body;
}
