-- Later bytes only add findings, and a map that is found remains.
use Rattle.std.proofs.Common.{◌≡◌, ◌∙◌, sym, ℕ, ◌==◌, Bool, true, false, List, [], ◌∷◌, ◌++◌, length, Option, Some, None, refl, ap, append_assoc, append-nil}
use Rattle.std.specs.Option.{option_or}
use Rattle.psi_tables.specs.ProgramMap.{PmtView}
use Rattle.psi_tables.specs.declared.pat.programs.Program.{Program}
use Rattle.pid_findings.specs.Views.{FindingView}
use Rattle.demux.specs.Stream.{StreamState, pushed, completed, found_in}
use Rattle.program_tables.specs.ProgramMaps.{pmt_found, program_map}

-- 1. Findings with more bytes

completed_grows : (s : StreamState) (held : List ℕ) → (more : List FindingView) × ((completed s held).found ≡ s.found ++ more)
unfolding completed
completed_grows s held = by (length held == 188) refl
  where
    by : (t : Bool) → (length held == 188) ≡ t → (more : List FindingView) × ((completed s held).found ≡ s.found ++ more)
    by true e = (found_in s held, rw e refl)
    by false e = ([], rw e (sym (append-nil s.found)))

pub grows : (s : StreamState) (bytes : List ℕ) → (more : List FindingView) × ((pushed s bytes).found ≡ s.found ++ more)
grows s [] = ([], sym (append-nil s.found))
grows s (byte ∷ bytes) =
    let one = completed_grows s (s.held ++ byte ∷ []) in
    let rest = grows (completed s (s.held ++ byte ∷ [])) bytes in
    (one.0 ++ rest.0, rest.1 ∙ ap (λ (l : List FindingView). l ++ rest.0) one.1 ∙ append_assoc s.found one.0 rest.0)

-- 2. Maps

or_assoc : {X : Type 0} (a b c : Option X) → option_or (option_or a b) c ≡ option_or a (option_or b c)
or_assoc None b c = refl
or_assoc (Some x) b c = refl

pub map_both : (p : Program) (xs ys : List FindingView) → program_map p (xs ++ ys) ≡ option_or (program_map p ys) (program_map p xs)
unfolding program_map
map_both p [] ys = sym (or_none (program_map p ys))
  where
    or_none : {X : Type 0} (o : Option X) → option_or o None ≡ o
    or_none None = refl
    or_none (Some x) = refl
map_both p (x ∷ xs) ys =
    ap (λ (o : Option PmtView). option_or o (pmt_found p x)) (map_both p xs ys) ∙ or_assoc (program_map p ys) (program_map p xs) (pmt_found p x)
