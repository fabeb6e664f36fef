use Rattle.std.proofs.Common.{Result, Ok, Err, IfOk, subst}
use Rattle.bit_fields.specs.Fields.{IsBytes}
use Rattle.bit_fields.specs.Reading.{Gives}
use Rattle.psi_tables.specs.Views.{SectionView, section_view}
use Rattle.psi_tables.specs.ProgramMap.{PmtView, IsPmt, pmt_at, pmt_view}
use Rattle.psi_tables.specs.declared.error.SectionError.{SectionError}
use Rattle.psi_tables.specs.declared.pmt.Pmt.{Pmt}
use Rattle.psi_tables.proofs.PmtForms.{pmt_is, pmt_again}
use Rattle.psi_tables.proofs.pmt.Pmt.read.Goals as goal

found_of : (s : SectionView) (r : Result Pmt SectionError) → IsBytes s.body → Gives pmt_view r (pmt_at s) → IfOk r (λ p. IsPmt s (pmt_view p))
found_of s (Ok p) h e = pmt_is s (pmt_view p) h e
found_of s (Err d) h e = tt

only_of : (s : SectionView) (r : Result Pmt SectionError) → IsBytes s.body → Gives pmt_view r (pmt_at s) → (p : PmtView) → IsPmt s p → Gives pmt_view r (Ok p)
only_of s r h e p k = subst (λ (x : Result PmtView SectionError). Gives pmt_view r x) (pmt_again s p h k) e

pub returns-clause-found : goal.returns-clause-found
returns-clause-found c = found_of (section_view c.args.section.now) c.of_parts.result c.of_parts.ensures.bytes c.of_parts.ensures.exact

pub returns-clause-only : goal.returns-clause-only
returns-clause-only c = only_of (section_view c.args.section.now) c.of_parts.result c.of_parts.ensures.bytes c.of_parts.ensures.exact
