use Rattle.std.proofs.Common.{rules, ◌≡◌, ◌++◌, nat_eq, string_bytes}
use Rattle.std.specs.Prelude.{codes}
use Rattle.std.specs.Map.{lookup}
use Rattle.page_curves.specs.PidLabels.{service_text}
use Rattle.page_charts.specs.StripTables as spec
use Rattle.page_curves.proofs.Texts.{pushed, three}
use Rattle.page_charts.proofs.strip_table.write_program.Goals as goal

pub returns : goal.returns
unfolding spec.program_row
returns c =
    let name = service_text (lookup (nat_eq c.args.program) c.args.labels.now.services) in
    let service : string_bytes c.write_service.new.text ≡ string_bytes c.write_program_head.new.text ++ name = search rules in
    three c.push_str.result (string_bytes c.args.text.now) (string_bytes c.write_program_head.new.text) (string_bytes c.write_service.new.text)
    (string_bytes c.push_str.new.self)
    (spec.program_head c.args.program) name (codes "\n")
    c.in_ok-write_program_head.ensures service
    (pushed c.push_str.result (string_bytes c.write_service.new.text) (string_bytes c.push_str.new.self) (codes "\n") c.push_str.ensures.bytes)
