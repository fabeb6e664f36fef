use Rattle.laws_view.proofs.References.{reference_law, references_in_order}
use Rattle.laws_view.proofs.SharedRules.{pcr_law}
use Rattle.laws_view.proofs.monitor_laws.clock_references.Goals as goal

pub returns-clause-late : goal.returns-clause-late
returns-clause-late c = reference_law

pub returns-clause-order : goal.returns-clause-order
returns-clause-order c = references_in_order

pub returns-clause-shared : goal.returns-clause-shared
returns-clause-shared c = pcr_law
