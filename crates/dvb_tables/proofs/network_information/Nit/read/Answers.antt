use Rattle.std.proofs.Common.{Result, Ok, Err, IfOk, subst}
use Rattle.bit_fields.specs.Fields.{IsBytes}
use Rattle.bit_fields.specs.Reading.{Gives}
use Rattle.psi_tables.specs.Views.{SectionView, section_view}
use Rattle.psi_tables.specs.declared.error.SectionError.{SectionError}
use Rattle.dvb_tables.specs.NetworkInformation.{NitView, IsNit, nit_at, nit_view}
use Rattle.dvb_tables.specs.declared.network_information.Nit.{Nit}
use Rattle.dvb_tables.proofs.NitForms.{nit_is, nit_again}
use Rattle.dvb_tables.proofs.network_information.Nit.read.Goals as goal

found_of : (s : SectionView) (r : Result Nit SectionError) → IsBytes s.body → Gives nit_view r (nit_at s) → IfOk r (λ t. IsNit s (nit_view t))
found_of s (Ok t) fits e = nit_is s (nit_view t) fits e
found_of s (Err d) fits e = tt

only_of : (s : SectionView) (r : Result Nit SectionError) → IsBytes s.body → Gives nit_view r (nit_at s) → (t : NitView) → IsNit s t → Gives nit_view r (Ok t)
only_of s r fits e t h = subst (λ (x : Result NitView SectionError). Gives nit_view r x) (nit_again s t fits h) e

pub returns-clause-found : goal.returns-clause-found
returns-clause-found c = found_of (section_view c.args.section.now) c.of_parts.result c.of_parts.ensures.bytes c.of_parts.ensures.exact

pub returns-clause-only : goal.returns-clause-only
returns-clause-only c = only_of (section_view c.args.section.now) c.of_parts.result c.of_parts.ensures.bytes c.of_parts.ensures.exact
