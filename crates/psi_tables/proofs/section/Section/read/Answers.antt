use Rattle.std.proofs.Common.{◌≡◌, ℕ, ◌≤◌, ◌++◌, List, take, length, Result, Ok, Err, IfOk, subst, arith}
use Rattle.bit_fields.specs.Fields.{IsBytes}
use Rattle.bit_fields.specs.Reading.{Gives}
use Rattle.bit_fields.proofs.ByteLists.{IsBytes-append_left}
use Rattle.psi_tables.specs.Views.{SectionView, section_view, sized_view}
use Rattle.psi_tables.specs.Syntax.{IsSection}
use Rattle.psi_tables.specs.Reading.{section_at}
use Rattle.psi_tables.specs.Encoding.{HeaderFits}
use Rattle.psi_tables.specs.declared.error.SectionError.{SectionError}
use Rattle.psi_tables.specs.declared.section.Section.{Section}
use Rattle.psi_tables.proofs.SectionFound.{section_is, section_again, section_fits}
use Rattle.psi_tables.proofs.section.Section.read.Goals as goal

found_of : (bytes : List ℕ) (r : Result (Section × ℕ) SectionError) → IsBytes bytes → Gives sized_view r (section_at bytes)
    → IfOk r (λ p. IsSection (take p.1 bytes) (section_view p.0))
found_of bytes (Ok p) h e = (section_is bytes (sized_view p) h e).section
found_of bytes (Err d) h e = tt

size_of : (bytes : List ℕ) (r : Result (Section × ℕ) SectionError) → IsBytes bytes → Gives sized_view r (section_at bytes) → IfOk r (λ p. p.1 ≤ length bytes)
size_of bytes (Ok p) h e = (section_is bytes (sized_view p) h e).fits
size_of bytes (Err d) h e = tt

fits_of : (bytes : List ℕ) (r : Result (Section × ℕ) SectionError) → IsBytes bytes → Gives sized_view r (section_at bytes) → IfOk r (λ p. HeaderFits p.0.header)
fits_of bytes (Ok p) h e = section_fits (take p.1 bytes) (section_view p.0) (section_is bytes (sized_view p) h e).section
fits_of bytes (Err d) h e = tt

only_of : (bytes : List ℕ) (r : Result (Section × ℕ) SectionError) → IsBytes bytes → Gives sized_view r (section_at bytes)
    → (section rest : List ℕ) (s : SectionView) → bytes ≡ section ++ rest → IsSection section s → Gives sized_view r (Ok (s, length section))
only_of bytes r h e section rest s is here =
    let fit : IsBytes section = IsBytes-append_left section rest (subst IsBytes is h) in
    subst (λ (x : Result (SectionView × ℕ) SectionError). Gives sized_view r x) (section_again section rest s fit here)
    (subst (λ (x : List ℕ). Gives sized_view r (section_at x)) is e)

pub returns-clause-found : goal.returns-clause-found
returns-clause-found c = found_of c.args.bytes.now c.section_at.result (λ i. omega (arith, c.type_inv.bytes i)) c.section_at.ensures

pub returns-clause-size : goal.returns-clause-size
returns-clause-size c = size_of c.args.bytes.now c.section_at.result (λ i. omega (arith, c.type_inv.bytes i)) c.section_at.ensures

pub returns-clause-fits : goal.returns-clause-fits
returns-clause-fits c = fits_of c.args.bytes.now c.section_at.result (λ i. omega (arith, c.type_inv.bytes i)) c.section_at.ensures

pub returns-clause-only : goal.returns-clause-only
returns-clause-only c = only_of c.args.bytes.now c.section_at.result (λ i. omega (arith, c.type_inv.bytes i)) c.section_at.ensures
