-- The table of a program among the tables of all programs
use Rattle.std.proofs.Common.{◌≡◌, ℕ, ◌==◌, ◌&&◌, cond, Bool, true, false, List, Option, Some, None, refl, inl, inr}
use Rattle.std.specs.Prelude.{option_and_then, Result, Ok, Err}
use Rattle.std.proofs.lemmas.Bool.{cases_Bool}
use Rattle.psi_tables.specs.ProgramMap.{PmtView, pmt_at}
use Rattle.psi_tables.specs.Views.{SectionView}
use Rattle.psi_tables.specs.Reading.{section_at}
use Rattle.psi_tables.specs.declared.error.SectionError.{SectionError}
use Rattle.psi_tables.specs.declared.pat.programs.Program.{Program}
use Rattle.pid_findings.specs.Views.{FindingView}
use Rattle.demux.specs.Laws.{has_pid}
use Rattle.program_tables.specs.Sections.{section_bytes, section_on}
use Rattle.program_tables.specs.ProgramMaps.{any_map, in_force, map_in, map_of_section, now_in_force, numbered, pmt_found, pmt_in, pmt_of_section}

-- 1. One number

force : (n : ℕ) (r : Result PmtView SectionError) → in_force n r ≡ numbered n (now_in_force r)
unfolding in_force now_in_force numbered
force n (Err error) = refl
force n (Ok pmt) = by pmt.header.current_next
  where
    by : (now : Bool) → cond (now && (pmt.header.table_id_extension == n)) (Some pmt) None ≡ numbered n (cond now (Some pmt) None)
    by true = refl
    by false = refl

of_section : (n : ℕ) (r : Result (SectionView × ℕ) SectionError) → pmt_of_section n r ≡ numbered n (map_of_section r)
unfolding pmt_of_section map_of_section numbered
of_section n (Err error) = refl
of_section n (Ok section) = force n (pmt_at section.0)

pub by_number : (n : ℕ) (bytes : List ℕ) → pmt_in n bytes ≡ numbered n (map_in bytes)
unfolding pmt_in map_in
by_number n bytes = of_section n (section_at bytes)

-- 2. One PID and number

in_section : (n : ℕ) (o : Option (List ℕ)) → option_and_then (pmt_in n) o ≡ numbered n (option_and_then map_in o)
unfolding numbered
in_section n None = refl
in_section n (Some bytes) = by_number n bytes

pub of_pid : (p : Program) (f : FindingView) → pmt_found p f ≡ cond (has_pid p.pid f.pid) (numbered p.program_number (any_map f)) None
unfolding pmt_found section_on any_map
of_pid p f = elim (cases_Bool (has_pid p.pid f.pid)) [
  | inl own ↦ rw own (in_section p.program_number (section_bytes f.what))
  | inr other ↦ rw other refl
]
