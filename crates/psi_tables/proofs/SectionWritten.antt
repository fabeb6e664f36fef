-- Written bytes are a section, and the section reads back as the same section.
use Rattle.std.proofs.Common.{◌≡◌, ℕ, ◌+◌, ◌*◌, ◌/◌, ◌%◌, ◌^◌, ◌<◌, ◌≤◌, Bool, true, false, refl, arith, List, [], ◌∷◌, ◌++◌, length, Option, None, Some, Ok}
use Rattle.std.proofs.Common.{lit<}
use Rattle.bit_fields.specs.Fields.{number, fields, bit}
use Rattle.psi_tables.specs.CheckWord.{check_word}
use Rattle.psi_tables.specs.Views.{SectionView}
use Rattle.psi_tables.specs.Syntax.{IsSection}
use Rattle.psi_tables.specs.Reading.{section_at}
use Rattle.psi_tables.specs.Encoding.{check_word_bytes, start_bytes, long_header_bytes, section_length, front_bytes, header_bytes, with_crc, section_bytes}
use Rattle.psi_tables.specs.declared.section.LongHeader.{LongHeader}
use Rattle.psi_tables.specs.Encoding.{LongFits, NumbersFit, IsWritable}
use Rattle.psi_tables.proofs.Linear.{check_word-own}
use Rattle.psi_tables.proofs.SectionForms.{bit-bound, short_again, long_again}

-- The written bytes of a writable section are this section, and read back as it, for each form.
pub record Again (bytes : List ℕ) (s : SectionView) : Type 0 where
  pub section : IsSection bytes s
  pub read : (rest : List ℕ) → section_at (bytes ++ rest) ≡ Ok (s, length bytes)

written_short : (tid : ℕ) (p : Bool) (body : List ℕ) → tid < 2 ^ 8 → length body ≤ 4093
    → Again (start_bytes tid false p (length body) ++ body) (record { header = record { table_id = tid; private_indicator = p; long = None }; body = body })
unfolding start_bytes
written_short tid p body htid len =
    let s : SectionView = record { header = record { table_id = tid; private_indicator = p; long = None }; body = body } in
    let one : bit p < 2 = bit-bound p in
    let b : ℕ = bit false * 128 + (bit p * 64 + (0x30 + length body / 256)) in
    let spelled : number (tid ∷ b ∷ (length body % 256) ∷ []) ≡ fields ((8, tid) ∷ (1, 0) ∷ (1, bit p) ∷ (2, 3) ∷ (12, length body) ∷ []) = omega arith in
    record {
      section = record {
        front = tid ∷ b ∷ (length body % 256) ∷ [];
        is = refl;
        reserved = 3;
        front_length = refl;
        spelled = spelled;
        table_id =
            htid;
        two_bits = lit< tt;
        section_length = len;
      };
      read = λ rest. short_again tid b (length body % 256) s 3 rest htid (omega arith) (omega arith) refl spelled htid (lit< tt) len;
    }

written_long : (tid : ℕ) (p : Bool) (h : LongHeader) (body : List ℕ) → tid < 2 ^ 8 → LongFits h → 9 + length body ≤ 4093
    → Again (with_crc (Some h) ((start_bytes tid true p (9 + length body) ++ long_header_bytes h) ++ body))
    (record { header = record { table_id = tid; private_indicator = p; long = Some h }; body = body })
unfolding start_bytes long_header_bytes with_crc check_word_bytes
written_long tid p h body htid fits len =
    let s : SectionView = record { header = record { table_id = tid; private_indicator = p; long = Some h }; body = body } in
    let one : bit p < 2 = bit-bound p in
    let one' : bit h.current_next < 2 = bit-bound h.current_next in
    let n : ℕ = 9 + length body in
    let b : ℕ = bit true * 128 + (bit p * 64 + (0x30 + n / 256)) in
    let c : ℕ = n % 256 in
    let d : ℕ = h.table_id_extension / 256 in
    let e : ℕ = h.table_id_extension % 256 in
    let f : ℕ = 0xC0 + (h.version_number * 2 + bit h.current_next) in
    let covered : List ℕ = tid ∷ b ∷ c ∷ d ∷ e ∷ f ∷ h.section_number ∷ h.last_section_number ∷ body in
    let word : ℕ = check_word covered in
    let crc : List ℕ = (word / 2 ^ 24) ∷ (word / 2 ^ 16 % 256) ∷ (word / 2 ^ 8 % 256) ∷ (word % 256) ∷ [] in
    let checked : check_word (tid ∷ b ∷ c ∷ d ∷ e ∷ f ∷ h.section_number ∷ h.last_section_number ∷ (body ++ crc)) ≡ 0 = check_word-own covered in
    let spelled : number (tid ∷ b ∷ c ∷ d ∷ e ∷ f ∷ h.section_number ∷ h.last_section_number ∷ []) ≡ fields
    ((8, tid) ∷ (1, 1) ∷ (1, bit p) ∷ (2, 3) ∷ (12, 9 + length body)
    ∷ (16, h.table_id_extension) ∷ (2, 3) ∷ (5, h.version_number) ∷ (1, bit h.current_next) ∷ (8, h.section_number) ∷ (8, h.last_section_number) ∷ []) =
    omega (arith, fits.table_id_extension) in
    record {
      section = record {
        front = tid ∷ b ∷ c ∷ d ∷ e ∷ f ∷ h.section_number ∷ h.last_section_number ∷ [];
        crc = crc;
        is = refl;
        reserved = 3;
        reserved_after = 3;
        front_length = refl;
        crc_length = refl;
        spelled = spelled;
        checked = checked;
        table_id = htid;
        two_bits = lit< tt;
        section_length = len;
        table_id_extension = fits.table_id_extension;
        two_bits_after = lit< tt;
        version_number = fits.version_number;
        section_number = fits.section_number;
        last_section_number = fits.last_section_number;
      };
      read = λ rest. long_again tid b c d e f h.section_number h.last_section_number s h crc 3 3 rest htid (omega arith) (omega arith)
          (omega (arith, fits.table_id_extension)) (omega arith)
          (omega (arith, fits.version_number)) fits.section_number fits.last_section_number refl refl spelled checked htid (lit< tt) len fits.table_id_extension
          (lit< tt) fits.version_number fits.section_number fits.last_section_number;
    }

written_by : (l : Option LongHeader) (tid : ℕ) (p : Bool) (body : List ℕ) → tid < 2 ^ 8 → NumbersFit l → section_length l (length body) ≤ 4093
    → Again (with_crc l (front_bytes tid p l (length body) ++ body))
    (record { header = record { table_id = tid; private_indicator = p; long = l }; body = body })
unfolding front_bytes with_crc
written_by None tid p body htid fits len = written_short tid p body htid len
written_by (Some h) tid p body htid fits len = written_long tid p h body htid fits len

-- If a section can be written, its bytes are this section and read back as it.
pub written : (s : SectionView) → IsWritable s → Again (section_bytes s) s
unfolding section_bytes header_bytes
written s w = written_by s.header.long s.header.table_id s.header.private_indicator s.body w.table_id w.numbers w.room
