-- Tables of one program, finding by finding
use Rattle.std.proofs.Common.{◌≡◌, ◌≤◌, ◌<◌, ℕ, ◌+◌, List, length, map, drop, get_or, Option, Some, None, option_map, refl, sym}
use Rattle.std.specs.Option.{option_or}
use Rattle.psi_tables.specs.ProgramMap.{PmtView}
use Rattle.psi_tables.specs.declared.pat.programs.Program.{Program}
use Rattle.pid_findings.specs.Views.{FindingView}
use Rattle.program_tables.specs.Sections.{section_on}
use Rattle.program_tables.specs.ProgramMaps.{pmt_found, program_map}
use Rattle.program_tables.proofs.Slices.{more, done}

-- 1. The last table

pub or_both : {Y Z : Type 0} (shown : Y → Z) (o : Option Z) (found last : Option Y) →
    option_or (option_or o (option_map shown found)) (option_map shown last) ≡ option_or o (option_map shown (option_or found last))
or_both shown None None last = refl
or_both shown None (Some y) last = refl
or_both shown (Some z) found last = refl

pub last_more : {X Y : Type 0} (view : X → FindingView) (shown : Y → PmtView) (p : Program) (i : ℕ) (fs : List X) (f : X) (found last next : Option Y) →
    i < length fs → f ≡ get_or fs i f → option_map shown found ≡ pmt_found p (view f) → next ≡ option_or found last →
    option_or (program_map p (map view (drop i fs))) (option_map shown last) ≡ option_or (program_map p (map view (drop (i + 1) fs))) (option_map shown next)
unfolding program_map
last_more view shown p i fs f found last next below at is made =
    rw (more view i fs f below at, made, sym is) (or_both shown (program_map p (map view (drop (i + 1) fs))) found last)

pub last_end : {X Y : Type 0} (view : X → FindingView) (shown : Y → PmtView) (p : Program) (i : ℕ) (fs : List X) (last : Option Y) → length fs ≤ i →
    option_or (program_map p (map view (drop i fs))) (option_map shown last) ≡ option_map shown last
unfolding program_map
last_end view shown p i fs last over = rw (done view i fs over) refl

pub or_none : {Z : Type 0} (o : Option Z) → o ≡ option_or o None
or_none None = refl
or_none (Some z) = refl

-- A finding without a section on the program's PID has no table of the program.
pub not_found : (p : Program) (f : FindingView) → section_on p.pid f ≡ None → pmt_found p f ≡ None
unfolding pmt_found
not_found p f none = rw none refl
