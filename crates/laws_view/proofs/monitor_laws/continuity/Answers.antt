use Rattle.laws_view.proofs.Continuity.{counter_law}
use Rattle.laws_view.proofs.CounterFaults.{counter_fault_law}
use Rattle.laws_view.proofs.EachCounter.{each_counter_law}
use Rattle.laws_view.proofs.SharedRules.{counter_shared}
use Rattle.laws_view.proofs.monitor_laws.continuity.Goals as goal

pub returns-clause-errors : goal.returns-clause-errors
returns-clause-errors c = counter_law

pub returns-clause-each : goal.returns-clause-each
returns-clause-each c = each_counter_law

pub returns-clause-shared : goal.returns-clause-shared
returns-clause-shared c = counter_shared

pub returns-clause-breaks : goal.returns-clause-breaks
returns-clause-breaks c = counter_fault_law
