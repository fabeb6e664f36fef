use Rattle.std.proofs.Common.{◌≡◌, ◌∙◌, Some, sym}
use Rattle.description_parts.specs.Tables.{table_kind}
use Rattle.description.specs.SubTables.{sub_table_of}
use Rattle.description.proofs.Versions.{sub_table_below}
use Rattle.description.proofs.description.Description.sub_table.Goals as goal

pub returns-in-Some-clause-numbered : goal.returns-in-Some-clause-numbered
returns-in-Some-clause-numbered c =
    let is : table_kind c.args.self.now c.args.table ≡ Some c.in-Some.kind = sym c.kind.ensures ∙ c.in-Some.is in
    let value : sub_table_of c.args.self.now c.args.table c.args.section ≡ c.sub_table_in.result = rw is (sym c.sub_table_in.ensures) in
    sub_table_below c.args.self.now c.args.table c.args.section c.sub_table_in.result c.keeps_ranges.ensures c.requires value
