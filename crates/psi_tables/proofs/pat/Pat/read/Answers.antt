use Rattle.std.proofs.Common.{Result, Ok, Err, IfOk, subst}
use Rattle.bit_fields.specs.Fields.{IsBytes}
use Rattle.bit_fields.specs.Reading.{Gives}
use Rattle.psi_tables.specs.Views.{SectionView, section_view}
use Rattle.psi_tables.specs.ProgramAssociation.{PatView, IsPat, pat_at, pat_view}
use Rattle.psi_tables.specs.declared.error.SectionError.{SectionError}
use Rattle.psi_tables.specs.declared.pat.Pat.{Pat}
use Rattle.psi_tables.proofs.PatForms.{pat_is, pat_again}
use Rattle.psi_tables.proofs.pat.Pat.read.Goals as goal

found_of : (s : SectionView) (r : Result Pat SectionError) → IsBytes s.body → Gives pat_view r (pat_at s) → IfOk r (λ p. IsPat s (pat_view p))
found_of s (Ok p) h e = pat_is s (pat_view p) h e
found_of s (Err d) h e = tt

only_of : (s : SectionView) (r : Result Pat SectionError) → IsBytes s.body → Gives pat_view r (pat_at s) → (p : PatView) → IsPat s p → Gives pat_view r (Ok p)
only_of s r h e p k = subst (λ (x : Result PatView SectionError). Gives pat_view r x) (pat_again s p h k) e

pub returns-clause-found : goal.returns-clause-found
returns-clause-found c = found_of (section_view c.args.section.now) c.of_parts.result c.of_parts.ensures.bytes c.of_parts.ensures.exact

pub returns-clause-only : goal.returns-clause-only
returns-clause-only c = only_of (section_view c.args.section.now) c.of_parts.result c.of_parts.ensures.bytes c.of_parts.ensures.exact
