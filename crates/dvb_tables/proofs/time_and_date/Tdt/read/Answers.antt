use Rattle.std.proofs.Common.{◌≡◌, ◌∙◌, sym, Result, Ok, Err, IfOk}
use Rattle.psi_tables.specs.Views.{SectionView, section_view}
use Rattle.psi_tables.specs.declared.error.SectionError.{SectionError}
use Rattle.dvb_tables.specs.TimeAndDate.{IsTdt, tdt_at}
use Rattle.dvb_tables.specs.declared.time_and_date.Tdt.{Tdt}
use Rattle.dvb_tables.proofs.TdtForms.{tdt_is, tdt_again}
use Rattle.dvb_tables.proofs.time_and_date.Tdt.read.Goals as goal

found_of : (s : SectionView) (r : Result Tdt SectionError) → r ≡ tdt_at s → IfOk r (λ t. IsTdt s t)
found_of s (Ok t) e = tdt_is s t (sym e)
found_of s (Err d) e = tt

pub returns-clause-found : goal.returns-clause-found
returns-clause-found c = found_of (section_view c.args.section.now) c.of_section.result c.of_section.ensures

pub returns-clause-only : goal.returns-clause-only
returns-clause-only c t h = c.of_section.ensures ∙ tdt_again (section_view c.args.section.now) t h
