use Rattle.std.proofs.Common.{Result, Ok, Err, IfOk, subst}
use Rattle.bit_fields.specs.Fields.{IsBytes}
use Rattle.bit_fields.specs.Reading.{Gives}
use Rattle.psi_tables.specs.Views.{SectionView, section_view}
use Rattle.psi_tables.specs.declared.error.SectionError.{SectionError}
use Rattle.dvb_tables.specs.ServiceDescription.{SdtView, IsSdt, sdt_at, sdt_view}
use Rattle.dvb_tables.specs.declared.service_description.Sdt.{Sdt}
use Rattle.dvb_tables.proofs.SdtForms.{sdt_is, sdt_again}
use Rattle.dvb_tables.proofs.service_description.Sdt.read.Goals as goal

found_of : (s : SectionView) (r : Result Sdt SectionError) → IsBytes s.body → Gives sdt_view r (sdt_at s) → IfOk r (λ t. IsSdt s (sdt_view t))
found_of s (Ok t) fits e = sdt_is s (sdt_view t) fits e
found_of s (Err d) fits e = tt

only_of : (s : SectionView) (r : Result Sdt SectionError) → IsBytes s.body → Gives sdt_view r (sdt_at s) → (t : SdtView) → IsSdt s t → Gives sdt_view r (Ok t)
only_of s r fits e t h = subst (λ (x : Result SdtView SectionError). Gives sdt_view r x) (sdt_again s t fits h) e

pub returns-clause-found : goal.returns-clause-found
returns-clause-found c = found_of (section_view c.args.section.now) c.of_parts.result c.of_parts.ensures.bytes c.of_parts.ensures.exact

pub returns-clause-only : goal.returns-clause-only
returns-clause-only c = only_of (section_view c.args.section.now) c.of_parts.result c.of_parts.ensures.bytes c.of_parts.ensures.exact
