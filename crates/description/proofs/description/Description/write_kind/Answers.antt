use Rattle.std.proofs.Common.{◌≡◌, ◌∙◌, ℕ, Some, ap₂, sym}
use Rattle.description.specs.SubTables.{section_of, sub_table_in}
use Rattle.description.proofs.Versions.{kind_numbered}
use Rattle.description.proofs.description.Description.write_kind.Goals as goal

pub returns-in-Some : goal.returns-in-Some
returns-in-Some c =
    let is : sub_table_in c.args.self.now c.args.kind c.args.section ≡ Some c.in-Some.sub_table = sym c.sub_table_in.ensures ∙ c.in-Some.is in
    c.write_section.ensures
    ∙ ap₂ (λ (v n : ℕ). section_of c.args.self.now c.in-Some.sub_table v n c.args.moment) c.version-version.ensures.value c.number_in-number.ensures
    ∙ sym (kind_numbered c.args.self.now c.args.kind c.args.section c.args.moment c.in-Some.sub_table is)
