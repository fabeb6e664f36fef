use Rattle.std.specs.Prelude.{slice_get, map, take, drop}
use Rattle.std.proofs.Common.{◌≡◌, ◌∙◌, ◌++◌, ◌<◌, List, ap, arith, length, rules}
use Rattle.std.proofs.lemmas.Bool.Decides.{nat_tests}
use Rattle.slot_plan.specs.Entries.{Entry}
use Rattle.slot_plan.specs.Conditions.{entries}
use Rattle.plan_checker.specs.Failing.{failing}
use Rattle.plan_checker.specs.Refusals.{entry_of}
use Rattle.plan_checker.proofs.FailingSearch.{first_is}
use Rattle.plan_checker.proofs.FailingLists.{all_found, fewer_left, more_found}
use Rattle.plan_checker.proofs.checking.failing.Goals as goal

pub returns-then-not-is_full-clause-each : goal.returns-then-not-is_full-clause-each
returns-then-not-is_full-clause-each g c =
    let all : List Entry = failing c.args.description.now c.args.plan.now in
    let counted : c.len.result ≡ length c.windows.found.items = search rules in
    let pushed : c.extend_from_slice.new.self.items ≡ c.windows.found.items ++ c.failing_from-more.result.items = search rules in
    let short : length c.failing_from-more.result.items < 1024 = search rules in
    rw pushed (all_found all c.windows.found.items c.failing_from-more.result.items c.windows.invariant 1024 (rw counted at c.failing_from-more.ensures) short)

pub returns-then-not-is_full-clause-first : goal.returns-then-not-is_full-clause-first
returns-then-not-is_full-clause-first g c =
    ap (λ (es : List Entry). slice_get es 0) (returns-then-not-is_full-clause-each g c) ∙ first_is (entries c.args.description.now c.args.plan.now)

pub windows-smaller : goal.windows-smaller
windows-smaller g c =
    let all : List Entry = failing c.args.description.now c.args.plan.now in
    let counted : c.len.result ≡ length c.windows.found.items = search rules in
    let pushed : c.extend_from_slice.new.self.items ≡ c.windows.found.items ++ c.failing_from-more.result.items = search rules in
    let full : length c.failing_from-more.result.items ≡ 1024 = search rules in
    rw pushed
    (fewer_left all c.windows.found.items c.failing_from-more.result.items c.windows.invariant 1024 (rw counted at c.failing_from-more.ensures) full
    (omega arith))

pub windows-preserved : goal.windows-preserved
windows-preserved g c =
    let all : List Entry = failing c.args.description.now c.args.plan.now in
    let counted : c.len.result ≡ length c.windows.found.items = search rules in
    let pushed : c.extend_from_slice.new.self.items ≡ c.windows.found.items ++ c.failing_from-more.result.items = search rules in
    rw pushed (more_found all c.windows.found.items c.failing_from-more.result.items c.windows.invariant 1024 (rw counted at c.failing_from-more.ensures))
