use Rattle.std.proofs.Common.{◌≡◌, ◌∙◌, Some, length, sym, refl, rules, arith}
use Rattle.description_parts.specs.Tables.{kind_lengths, section_count, table_kind}
use Rattle.description.specs.SectionBytes.{table_bytes}
use Rattle.description.proofs.SectionBounds.{table_bytes_fit}
use Rattle.description.proofs.SectionCounts.{sections_law}
use Rattle.description.proofs.description.Description.text.Goals as goal

pub write_kind-requires-clause-section : goal.write_kind-requires-clause-section
write_kind-requires-clause-section c =
    let is : table_kind c.args.self.now c.args.table ≡ Some c.in-Some.kind = sym c.kind.ensures ∙ c.in-Some.is in
    let all : section_count c.args.self.now c.args.table ≡ length (kind_lengths c.args.self.now c.in-Some.kind) = rw is refl in
    omega (arith, all, c.requires.section)

pub write_kind-requires-clause-few : goal.write_kind-requires-clause-few
write_kind-requires-clause-few c =
    let is : table_kind c.args.self.now c.args.table ≡ Some c.in-Some.kind = sym c.kind.ensures ∙ c.in-Some.is in
    let all : section_count c.args.self.now c.args.table ≡ length (kind_lengths c.args.self.now c.in-Some.kind) = rw is refl in
    omega (arith, all, (sections_law c.args.self.now c.args.table c.keeps_ranges.ensures c.requires.table).1)

pub returns-in-Some-clause-fits : goal.returns-in-Some-clause-fits
returns-in-Some-clause-fits c =
    let items : c.write_kind.new.out.items ≡ table_bytes c.args.self.now c.args.table c.args.section c.args.moment = search rules in
    rw items (table_bytes_fit c.args.self.now c.args.table c.args.section c.args.moment c.keeps_ranges.ensures c.requires.section)
