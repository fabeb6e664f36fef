use Rattle.std.proofs.Common.{◌++◌, List}
use Rattle.slot_plan.specs.Entries.{Entry}
use Rattle.slot_plan.specs.Conditions.{length_entries, name_entries, stream_owner_entries, program_owner_entries, table_owner_entries, claim_entries}
use Rattle.plan_checker.proofs.FailingSearch.{then_next}
use Rattle.plan_checker.proofs.shape.shape.Goals as goal

pub returns : goal.returns
returns g c =
    let d = c.args.description.now in
    let p = c.args.plan.now in
    let from_tables : List Entry = table_owner_entries d p ++ claim_entries d p in
    let from_programs : List Entry = program_owner_entries d p ++ from_tables in
    let from_streams : List Entry = stream_owner_entries d p ++ from_programs in
    let from_names : List Entry = name_entries d p ++ from_streams in
    then_next _ _ _ (length_entries p) from_names c.period.ensures
    (then_next _ _ _ (name_entries d p) from_streams c.check_each.ensures
    (then_next _ _ _ (stream_owner_entries d p) from_programs c.check_each-2.ensures
    (then_next _ _ _ (program_owner_entries d p) from_tables c.check_each-3.ensures
    (then_next _ _ _ (table_owner_entries d p) (claim_entries d p) c.check_each-4.ensures c.claims.ensures))))
