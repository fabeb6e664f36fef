use Rattle.std.proofs.Common.{List, ℕ, ◌++◌, subst, ap, ◌∙◌, Ok}
use Rattle.std.proofs.lemmas.List.{take_rest}
use Rattle.checked_jobs.specs.UnitList.{NamesFault, IsReadUpTo, units_in}
use Rattle.checked_jobs.proofs.UnitLists.{come_together, fault_stays, no_fault, record_ends, record_goes_on, record_is_none}
use Rattle.checked_jobs.proofs.unit_list.UnitListRestTaker.take_rest.Goals as goal

pub returns-in-Ok-None-clause-taken : goal.returns-in-Ok-None-clause-taken
returns-in-Ok-None-clause-taken c before t more =
    subst (λ (xs : List ℕ). IsReadUpTo xs more c.records.self.units.items c.take.new.self c.records.self.fault) (come_together before c.args.bytes.now more)
    (record_goes_on (before ++ (c.args.bytes.now ++ more)) c.records.rest.now more c.records.self.units.items c.records.self.record c.take.new.self
    c.records.self.fault
    (no_fault c.records.self.fault c.is_none.result c.is_none.ensures c.records-test.true) (c.records.invariant.state_is before more t)
    (rw c.in-Ok-None.field-0-is at c.in-Ok-None.ensures.taken))

pub records-preserved : goal.records-preserved
records-preserved c = record {
  state_is = λ before more t.
      rw (take_rest c.records.rest.now c.in-Ok-Some.n, c.in-Ok.ensures.items)
      (record_ends (before ++ (c.args.bytes.now ++ more)) c.records.rest.now more c.records.self.units.items c.records.self.record c.take.new.self
      c.in-Ok-Some.n c.in-Ok-Some.entry
      c.records.self.fault (no_fault c.records.self.fault c.is_none.result c.is_none.ensures c.records-test.true) (c.records.invariant.state_is before more t)
      (rw (c.in-Ok-Some.field-0-is, c.in-Ok-Some.n-is, c.in-Ok-Some.entry-is) at c.in-Ok-Some.ensures.taken));
}

pub returns-in-Err-clause-taken : goal.returns-in-Err-clause-taken
returns-in-Err-clause-taken c before t more =
    record_is_none (before ++ (c.args.bytes.now ++ more)) c.records.rest.now more c.records.self.units.items c.records.self.record c.take.new.self
    c.in-Err.refusal c.records.self.fault
    c.in_ok-fault-in-Err.fault (no_fault c.records.self.fault c.is_none.result c.is_none.ensures c.records-test.true)
    (c.records.invariant.state_is before more t)
    c.in-Err.ensures.taken
    (subst (λ (n : ℕ). NamesFault n c.in-Err.refusal (Ok c.in_ok-fault-in-Err.fault)) (c.len.ensures ∙ c.records.self.units.ok.0) c.in_ok-fault-in-Err.ensures)
    ∙ ap units_in (come_together before c.args.bytes.now more)

pub returns-clause-taken : goal.returns-clause-taken
returns-clause-taken c before t more =
    subst (λ (xs : List ℕ). IsReadUpTo xs more c.records.self.units.items c.records.self.record c.records.self.fault)
    (come_together before c.args.bytes.now more)
    (fault_stays (before ++ (c.args.bytes.now ++ more)) (c.records.rest.now ++ more) more c.records.self.units.items c.records.self.record c.records.self.fault
    c.is_none.result c.is_none.ensures c.records-test.false (c.records.invariant.state_is before more t))
