use Rattle.on_air.proofs.EndlessRuns.{endless_input, endless_records}
use Rattle.on_air.proofs.laws.endless.Goals as goal

pub returns-clause-records : goal.returns-clause-records
returns-clause-records c = endless_records

pub returns-clause-input : goal.returns-clause-input
returns-clause-input c = endless_input
