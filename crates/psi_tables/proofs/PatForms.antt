-- The program association table: what the reader returns is in the bytes, and a written table reads back as the same table.
use Rattle.std.proofs.Common.{◌≡◌, ℕ, suc, ◌+◌, ◌*◌, ◌/◌, ◌%◌, ◌^◌, ◌<◌, ◌≤◌, ◌==◌, Bool, true, false, cond, refl, sym, ap, ap₂, ◌∙◌, subst, arith, List, []}
use Rattle.std.proofs.Common.{◌∷◌, ◌++◌, length, Result, Ok, Err, flat_map, eq-eqb, eqb-true, lit<}
use Rattle.bit_fields.specs.Fields.{number, fields, IsBytes}
use Rattle.bit_fields.specs.Reading.{◌>>=◌}
use Rattle.bit_fields.proofs.Bind.{bind_ok, ok_is}
use Rattle.psi_tables.specs.Views.{SectionView}
use Rattle.psi_tables.specs.Encoding.{IsWritable}
use Rattle.psi_tables.specs.Tables.{table_header_at}
use Rattle.psi_tables.specs.ProgramAssociation.{PatView, IsProgram, ArePrograms, IsPat, program_of, programs_in, pat_at, program_bytes, programs_bytes}
use Rattle.psi_tables.specs.ProgramAssociation.{pat_header, pat_section, ProgramFits, ProgramsFit, PatFits}
use Rattle.psi_tables.specs.declared.error.SectionError.{SectionError}
use Rattle.psi_tables.specs.declared.error.SectionError.TheVariants.{Body}
use Rattle.psi_tables.specs.declared.section.LongHeader.{LongHeader}
use Rattle.psi_tables.specs.declared.pat.programs.Program.{Program}
use Rattle.psi_tables.proofs.TableForms.{HasHeader, table_header_at-is, table_header_at-read}

program_found : (a b c d : ℕ) → a < 256 → b < 256 → c < 256 → d < 256 → IsProgram (a ∷ b ∷ c ∷ d ∷ []) (program_of a b c d)
unfolding program_of
program_found a b c d ha hb hc hd =
    record { len = refl; reserved = c / 32; spelled = omega arith; program_number = omega arith; three_bits = omega arith; pid = omega arith }

programs_found : (bytes : List ℕ) → IsBytes bytes → length bytes % 4 ≡ 0 → ArePrograms bytes (programs_in bytes)
unfolding programs_in
programs_found [] h e = refl
programs_found (a ∷ []) h e = absurd (cc e)
programs_found (a ∷ b ∷ []) h e = absurd (cc e)
programs_found (a ∷ b ∷ c ∷ []) h e = absurd (cc e)
programs_found (a ∷ b ∷ c ∷ d ∷ rest) h e =
    let less : length rest % 4 ≡ 0 = omega arith in
    (a ∷ b ∷ c ∷ d ∷ [], rest, refl, program_found a b c d (h 0) (h 1) (h 2) (h 3), programs_found rest (λ i. h (suc (suc (suc (suc i))))) less)

four : (xs : List ℕ) → length xs ≡ 4 → (a : ℕ) × (b : ℕ) × (c : ℕ) × (d : ℕ) × (xs ≡ a ∷ b ∷ c ∷ d ∷ [])
four [] h = absurd (omega arith)
four (a ∷ []) h = absurd (omega arith)
four (a ∷ b ∷ []) h = absurd (omega arith)
four (a ∷ b ∷ c ∷ []) h = absurd (omega arith)
four (a ∷ b ∷ c ∷ d ∷ []) h = (a, b, c, d, refl)
four (a ∷ b ∷ c ∷ d ∷ e ∷ xs) h = absurd (omega arith)

program_again : (a b c d : ℕ) (p : Program) (reserved : ℕ) → a < 256 → b < 256 → c < 256 → d < 256
    → number (a ∷ b ∷ c ∷ d ∷ []) ≡ fields ((16, p.program_number) ∷ (3, reserved) ∷ (13, p.pid) ∷ []) → p.program_number < 2 ^ 16 → reserved < 2 ^ 3 →
    p.pid < 2 ^ 13
    → program_of a b c d ≡ p
unfolding program_of
program_again a b c d p reserved ha hb hc hd e hn hr hp =
    let number_is : a * 256 + b ≡ p.program_number = omega arith in
    let pid_is : c % 32 * 256 + d ≡ p.pid = omega arith in
    let whole : program_of a b c d ≡ record { program_number = p.program_number; pid = p.pid } = cc in
    whole

pub record ProgramsRead (bytes : List ℕ) (ps : List Program) : Type 0 where
  pub whole : length bytes % 4 ≡ 0
  pub programs : programs_in bytes ≡ ps

read_more : (a b c d : ℕ) (rest : List ℕ) (p : Program) (ps : List Program) → program_of a b c d ≡ p → ProgramsRead rest ps →
    ProgramsRead (a ∷ b ∷ c ∷ d ∷ rest) (p ∷ ps)
unfolding programs_in
read_more a b c d rest p ps e h =
    let less : length rest % 4 ≡ 0 = h.whole in
    record { whole = omega arith; programs = ap₂ (λ (x : Program) (xs : List Program). x ∷ xs) e h.programs }

programs_again : (ps : List Program) (loop : List ℕ) → IsBytes loop → ArePrograms loop ps → ProgramsRead loop ps
unfolding programs_in
programs_again [] loop h e = subst (λ (t : List ℕ). ProgramsRead t []) (sym e) (record { whole = refl; programs = refl })
programs_again (p ∷ ps) loop h e =
    let one : List ℕ = e.0 in
    let rest : List ℕ = e.1 in
    let v = four one e.3.len in
    let is : loop ≡ v.0 ∷ v.1 ∷ v.2 ∷ v.3 ∷ rest = e.2 ∙ ap (λ (x : List ℕ). x ++ rest) v.4 in
    let bytes : IsBytes (v.0 ∷ v.1 ∷ v.2 ∷ v.3 ∷ rest) = subst IsBytes is h in
    let spelled = subst (λ (x : List ℕ). number x ≡ fields ((16, p.program_number) ∷ (3, e.3.reserved) ∷ (13, p.pid) ∷ [])) v.4 e.3.spelled in
    let first : program_of v.0 v.1 v.2 v.3 ≡ p =
    program_again v.0 v.1 v.2 v.3 p e.3.reserved (bytes 0) (bytes 1) (bytes 2) (bytes 3) spelled e.3.program_number e.3.three_bits e.3.pid in
    subst (λ (t : List ℕ). ProgramsRead t (p ∷ ps)) (sym is)
    (read_more v.0 v.1 v.2 v.3 rest p ps first (programs_again ps rest (λ i. bytes (suc (suc (suc (suc i))))) e.4))

body_is : (header : LongHeader) (body : List ℕ) (p : PatView)
    → cond (length body % 4 == 0) (Ok (record { header = header; programs = programs_in body })) (Err Body) ≡ Ok p
    → (length body % 4 ≡ 0) × (◌≡◌ {A = PatView} (record { header = header; programs = programs_in body }) p)
body_is header body p e = let q = test_of (length body % 4 == 0) _ p e in (eqb-true _ 0 q.0, q.1) where
  test_of : (t : Bool) (x y : PatView) → cond t (Ok x) (Err Body) ≡ Ok y → (t ≡ true) × (x ≡ y)
  test_of true x y e = (refl, ok_is x y e)
  test_of false x y e = absurd cc

-- If the reader returns a PAT, the section is this PAT.
pub pat_is : (s : SectionView) (p : PatView) → IsBytes s.body → pat_at s ≡ Ok p → IsPat s p
unfolding pat_at
pat_is s p h e =
    let q = bind_ok (table_header_at 0x00 1021 s) _ p e in
    let header : HasHeader 0x00 1021 s q.0 = table_header_at-is 0x00 1021 s q.0 q.1 in
    let b = body_is q.0 s.body p q.2 in
    subst (λ (v : PatView). IsPat s v) b.1
    (record { table_id = header.table_id; long = header.long; section_length = header.section_length; programs = programs_found s.body h b.0 })

read_by : (s : SectionView) (p : PatView) → HasHeader 0x00 1021 s p.header → ProgramsRead s.body p.programs → pat_at s ≡ Ok p
unfolding pat_at
read_by s p header programs =
    let test : (length s.body % 4 == 0) ≡ true = eq-eqb (length s.body % 4) 0 programs.whole in
    let whole : ◌≡◌ {A = PatView} (record { header = p.header; programs = programs_in s.body }) (record { header = p.header; programs = p.programs }) =
    ap (λ (ps : List Program). record { header = p.header; programs = ps }) programs.programs in
    ap (λ (r : Result LongHeader SectionError). r >>= λ header. cond (length s.body % 4 == 0) (Ok (record { header = header; programs = programs_in s.body }))
    (Err Body))
    (table_header_at-read 0x00 1021 s p.header header)
    ∙ ap (λ (t : Bool). cond t (ok (record { header = p.header; programs = programs_in s.body })) (Err Body)) test
    ∙ ap ok whole where
      ok : PatView → Result PatView SectionError
      ok v = Ok v

-- If a section is a PAT, the reader returns this PAT.
pub pat_again : (s : SectionView) (p : PatView) → IsBytes s.body → IsPat s p → pat_at s ≡ Ok p
pat_again s p h k =
    read_by s p (record { table_id = k.table_id; long = k.long; section_length = k.section_length }) (programs_again p.programs s.body h k.programs)

program_written : (p : Program) → ProgramFits p → IsProgram (program_bytes p) p
unfolding program_bytes
program_written p h =
    record { len = refl; reserved = 7; spelled = omega (arith, h.pid, h.program_number); program_number = h.program_number; three_bits = lit< tt; pid = h.pid }

programs_written : (ps : List Program) → ProgramsFit ps → ArePrograms (programs_bytes ps) ps
unfolding programs_bytes
programs_written [] h = refl
programs_written (p ∷ ps) h = (program_bytes p, flat_map program_bytes ps, refl, program_written p h.0, programs_written ps h.1)

written_read : (ps : List Program) → ProgramsFit ps → ProgramsRead (programs_bytes ps) ps
unfolding programs_bytes program_bytes programs_in
written_read [] h = record { whole = refl; programs = refl }
written_read (p ∷ ps) h =
    read_more (p.program_number / 256) (p.program_number % 256) (0xE0 + p.pid / 256 % 32) (p.pid % 256) (flat_map program_bytes ps) p ps (program_same p h.0)
    (written_read ps h.1) where
      program_same : (p : Program) → ProgramFits p → program_of (p.program_number / 256) (p.program_number % 256) (0xE0 + p.pid / 256 % 32) (p.pid % 256) ≡ p
      program_same p h =
          program_again _ _ _ _ p 7 (omega (arith, h.program_number)) (omega arith) (omega arith) (omega arith) (omega (arith, h.pid, h.program_number))
          h.program_number (lit< tt) h.pid

pub length_programs_bytes : (ps : List Program) → length (programs_bytes ps) ≡ 4 * length ps
unfolding programs_bytes program_bytes
length_programs_bytes [] = refl
length_programs_bytes (p ∷ ps) = let more : length (flat_map program_bytes ps) ≡ 4 * length ps = length_programs_bytes ps in omega arith

-- A written PAT is a section that has the same PAT, can be written, and reads back as this PAT.
pub record Again (p : PatView) : Type 0 where
  pub table : IsPat (pat_section p) p
  pub writable : IsWritable (pat_section p)
  pub read : pat_at (pat_section p) ≡ Ok p

pub written : (p : PatView) → PatFits p → Again p
unfolding pat_section pat_header
written p h =
    let room : 9 + length (programs_bytes p.programs) ≤ 1021 = omega (arith, length_programs_bytes p.programs, h.room) in
    record {
      table = record { table_id = refl; long = refl; section_length = room; programs = programs_written p.programs h.programs };
      writable = record { table_id = lit< tt; numbers = h.header; room = omega arith };
      read = read_by (pat_section p) p (record { table_id = refl; long = refl; section_length = room }) (written_read p.programs h.programs);
    }
