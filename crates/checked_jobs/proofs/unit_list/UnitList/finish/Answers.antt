use Rattle.std.proofs.Common.{◌∙◌}
use Rattle.checked_jobs.proofs.UnitLists.{all_came, cut_came, fault_came}
use Rattle.checked_jobs.proofs.unit_list.UnitList.finish.Goals as goal

pub returns-in-Some : goal.returns-in-Some
returns-in-Some c bytes t = fault_came bytes c.args.self.units.items c.args.self.record c.in-Some.fault (rw c.in-Some.is at t)

pub returns-then-is_begun : goal.returns-then-is_begun
returns-then-is_begun c bytes t =
    rw (c.len.ensures ∙ c.args.self.units.ok.0)
    (cut_came bytes c.args.self.units.items c.args.self.record (rw c.in_default.is at t) (λ o. c.is_begun.ensures.cut o c.if-is_begun.true))

pub returns : goal.returns
returns c bytes t = all_came bytes c.args.self.units.items c.args.self.record (rw c.in_default.is at t) (λ o. c.is_begun.ensures.none o c.if-is_begun.false)
