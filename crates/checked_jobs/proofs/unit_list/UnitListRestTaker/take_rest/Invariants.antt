use Rattle.std.proofs.Common.{List, ℕ, ◌++◌, length}
use Rattle.checked_jobs.specs.UnitList.{IsReadUpTo, TakesRecords}
use Rattle.checked_jobs.proofs.unit_list.UnitListRestTaker.take_rest.Given as goal

abbrev pub invariant-records : goal.invariant-records
invariant-records l = record {
  state_is : (before more : List ℕ) → TakesRecords before l.fn.self.units.items l.fn.self.record l.fn.self.fault →
      IsReadUpTo (before ++ (l.fn.bytes ++ more)) (l.rest ++ more) l.self.units.items l.self.record l.self.fault;
}

abbrev pub decreases-records : goal.decreases-records
decreases-records l = length l.rest
