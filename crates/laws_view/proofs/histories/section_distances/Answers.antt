use Rattle.laws_view.proofs.SectionHistories.{each_law, near_law, only_law}
use Rattle.laws_view.proofs.histories.section_distances.Goals as goal

pub returns-clause-only : goal.returns-clause-only
returns-clause-only c = only_law

pub returns-clause-each : goal.returns-clause-each
returns-clause-each c = each_law

pub returns-clause-near : goal.returns-clause-near
returns-clause-near c = near_law
