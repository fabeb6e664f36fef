use Rattle.std.proofs.Common.{Result, Ok, Err, IfOk, subst}
use Rattle.bit_fields.specs.Fields.{IsBytes}
use Rattle.bit_fields.specs.Reading.{Gives}
use Rattle.psi_tables.specs.Views.{SectionView, section_view}
use Rattle.psi_tables.specs.declared.error.SectionError.{SectionError}
use Rattle.dvb_tables.specs.EventInformation.{EitView, IsEit, eit_at, eit_view}
use Rattle.dvb_tables.specs.declared.event_information.EitPf.{EitPf}
use Rattle.dvb_tables.proofs.EitForms.{eit_is, eit_again}
use Rattle.dvb_tables.proofs.event_information.EitPf.read.Goals as goal

found_of : (s : SectionView) (r : Result EitPf SectionError) → IsBytes s.body → Gives eit_view r (eit_at s) → IfOk r (λ t. IsEit s (eit_view t))
found_of s (Ok t) fits e = eit_is s (eit_view t) fits e
found_of s (Err d) fits e = tt

only_of : (s : SectionView) (r : Result EitPf SectionError) → IsBytes s.body → Gives eit_view r (eit_at s) → (t : EitView) → IsEit s t → Gives eit_view r (Ok t)
only_of s r fits e t h = subst (λ (x : Result EitView SectionError). Gives eit_view r x) (eit_again s t fits h) e

pub returns-clause-found : goal.returns-clause-found
returns-clause-found c = found_of (section_view c.args.section.now) c.of_parts.result c.of_parts.ensures.bytes c.of_parts.ensures.exact

pub returns-clause-only : goal.returns-clause-only
returns-clause-only c = only_of (section_view c.args.section.now) c.of_parts.result c.of_parts.ensures.bytes c.of_parts.ensures.exact
