use Rattle.mux_core.proofs.EventVersions.{event_version_law}
use Rattle.mux_core.proofs.SentVersions.{version_law}
use Rattle.mux_core.proofs.TextLaws.{others_untouched, same_table, whole_sections}
use Rattle.mux_core.proofs.laws.texts.Goals as goal

pub returns-clause-others : goal.returns-clause-others
returns-clause-others c = others_untouched

pub returns-clause-same : goal.returns-clause-same
returns-clause-same c = same_table

pub returns-clause-whole : goal.returns-clause-whole
returns-clause-whole c = whole_sections

pub returns-clause-versions : goal.returns-clause-versions
returns-clause-versions c = version_law

pub returns-clause-events : goal.returns-clause-events
returns-clause-events c = event_version_law
