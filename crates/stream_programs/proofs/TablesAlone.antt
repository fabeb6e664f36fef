-- A table depends only on findings on its own PID.
use Rattle.std.proofs.Common.{◌≡◌, ℕ, false, List, [], ◌∷◌, ◌++◌, Option, Some, None, option_map, refl, sym, ap, ◌∙◌, inl, inr}
use Rattle.std.specs.Option.{option_or}
use Rattle.std.proofs.lemmas.Bool.{cases_Bool}
use Rattle.psi_tables.specs.declared.pat.programs.Program.{Program}
use Rattle.pid_findings.specs.Views.{FindingView}
use Rattle.demux.specs.Laws.{has_pid, found_of}
use Rattle.program_tables.specs.Sections.{section_on}
use Rattle.program_tables.specs.Association as a
use Rattle.program_tables.specs.ProgramMaps.{pmt_found, program_map}
use Rattle.stream_programs.specs.Programs.{FoundProgramsView, nothing, with_program_by, with_programs, programs_of}
use Rattle.stream_programs.specs.Laws.{FindingsOfPidZero, FindingsOfTheMap, SameOnMaps, MapsDecide}

-- 1. The program association table

no_section : (pid : ℕ) (f : FindingView) → has_pid pid f.pid ≡ false → section_on pid f ≡ None
unfolding section_on
no_section pid f other = rw other refl

no_pat : (f : FindingView) → has_pid 0 f.pid ≡ false → a.pat_found f ≡ None
unfolding a.pat_found
no_pat f other = rw (no_section 0 f other) refl

same_first : (fs : List FindingView) → a.first_pat (found_of 0 fs) ≡ a.first_pat fs
unfolding a.first_pat
same_first [] = refl
same_first (f ∷ fs) = elim (cases_Bool (has_pid 0 f.pid)) [
  | inl own ↦ rw (own, same_first fs) refl
  | inr other ↦ rw (other, no_pat f other, same_first fs) refl
]

same_entries : (version : ℕ) (fs : List FindingView) → a.entries version (found_of 0 fs) ≡ a.entries version fs
unfolding a.entries a.entries_of
same_entries version [] = refl
same_entries version (f ∷ fs) = elim (cases_Bool (has_pid 0 f.pid)) [
  | inl own ↦ rw own (ap (λ (ps : List Program). a.entries_of version (a.pat_found f) ++ ps) (same_entries version fs))
  | inr other ↦ rw (other, no_pat f other) (same_entries version fs)
]

same_map : {X Y : Type 0} (o : Option X) (f g : X → Y) → ((x : X) → f x ≡ g x) → option_map f o ≡ option_map g o
same_map None f g same = refl
same_map {Y = Y} (Some x) f g same = ap (λ (y : Y). Some y) (same x)

pub pid_zero : FindingsOfPidZero
unfolding a.association
pid_zero fs = rw (same_first fs) (same_map (a.first_pat fs) _ _ (λ first. ap (λ (ps : List Program). record {
  transport_stream_id = first.header.table_id_extension;
  version_number = first.header.version_number;
  programs = a.with_programs [] ps;
}) (same_entries first.header.version_number fs)))

-- 2. The program map table of a program

no_pmt : (p : Program) (f : FindingView) → has_pid p.pid f.pid ≡ false → pmt_found p f ≡ None
unfolding pmt_found
no_pmt p f other = rw (no_section p.pid f other) refl

or_none : {X : Type 0} (o : Option X) → option_or o None ≡ o
or_none None = refl
or_none (Some x) = refl

pub of_the_map : FindingsOfTheMap
unfolding program_map
of_the_map p [] = refl
of_the_map p (f ∷ fs) = elim (cases_Bool (has_pid p.pid f.pid)) [
  | inl own ↦ rw (own, of_the_map p fs) refl
  | inr other ↦ rw (other, no_pmt p f other) (of_the_map p fs ∙ sym (or_none (program_map p fs)))
]

-- 3. All programs

same_maps : (named : List Program) (found : FoundProgramsView) (one other : List FindingView) → SameOnMaps named one other →
    with_programs found named one ≡ with_programs found named other
unfolding with_programs
same_maps [] found one other same = refl
same_maps (p ∷ ps) found one other same =
    let map : program_map p one ≡ program_map p other =
    sym (of_the_map p one) ∙ ap (program_map p) same.0 ∙ of_the_map p other in
    rw map (same_maps ps (with_program_by found p (program_map p other)) one other same.1)

pub maps_are_all : MapsDecide
unfolding programs_of
maps_are_all named one other same = same_maps named nothing one other same
