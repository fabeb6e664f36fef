-- Loops of entries of four bytes.
use Rattle.std.proofs.Common.{◌≡◌, ℕ, ◌+◌, ◌*◌, ◌/◌, ◌%◌, ◌^◌, ◌<◌, refl, ap, arith, List, [], ◌∷◌, ◌++◌, length}
use Rattle.psi_tables.specs.ProgramAssociation.{program_of, programs_in, program_bytes}
use Rattle.psi_tables.specs.declared.pat.programs.Program.{Program}

pub length-programs_in : (bytes : List ℕ) → length (programs_in bytes) ≡ length bytes / 4
unfolding programs_in
length-programs_in [] = refl
length-programs_in (a ∷ []) = refl
length-programs_in (a ∷ b ∷ []) = refl
length-programs_in (a ∷ b ∷ c ∷ []) = refl
length-programs_in (a ∷ b ∷ c ∷ d ∷ rest) = let more : length (programs_in rest) ≡ length rest / 4 = length-programs_in rest in omega arith

-- One entry after whole entries adds one program.
pub programs_in-push : (bytes : List ℕ) (p : Program) → length bytes % 4 ≡ 0 → p.program_number < 2 ^ 16 → p.pid < 2 ^ 13 →
    programs_in (bytes ++ program_bytes p) ≡ programs_in bytes ++ p ∷ []
unfolding programs_in program_bytes program_of
programs_in-push [] p h hn hp =
    let number_is : p.program_number / 256 * 256 + p.program_number % 256 ≡ p.program_number = omega arith in
    let pid_is : (0xE0 + p.pid / 256 % 32) % 32 * 256 + p.pid % 256 ≡ p.pid = omega arith in
    let whole : ◌≡◌ {A = Program}
    (record { program_number = p.program_number / 256 * 256 + p.program_number % 256; pid = (0xE0 + p.pid / 256 % 32) % 32 * 256 + p.pid % 256 })
    (record { program_number = p.program_number; pid = p.pid }) = cc in
    ap (λ (x : Program). x ∷ []) whole
programs_in-push (a ∷ []) p h hn hp = absurd (cc h)
programs_in-push (a ∷ b ∷ []) p h hn hp = absurd (cc h)
programs_in-push (a ∷ b ∷ c ∷ []) p h hn hp = absurd (cc h)
programs_in-push (a ∷ b ∷ c ∷ d ∷ rest) p h hn hp =
    let less : length rest % 4 ≡ 0 = omega arith in
    ap (λ (ps : List Program). program_of a b c d ∷ ps) (programs_in-push rest p less hn hp)

pub length_program_bytes : (p : Program) → length (program_bytes p) ≡ 4
unfolding program_bytes
length_program_bytes p = refl
