use Rattle.std.proofs.Common.{string_bytes}
use Rattle.std.specs.Prelude.{codes}
use Rattle.page_charts.specs.Stacks as spec
use Rattle.page_charts.specs.ValueTables as values
use Rattle.page_curves.proofs.Texts.{three}
use Rattle.page_charts.proofs.stack.write_stack.Goals as goal

pub returns : goal.returns
unfolding spec.stack
returns c = three c.write_value_table.result (string_bytes c.args.text.now) (string_bytes c.write_keys.new.text) (string_bytes c.write_picture.new.text)
    (string_bytes c.write_value_table.new.text)
    (spec.keys c.args.labels.now c.args.rates.now) (spec.picture c.args.name.now c.args.frame.now c.args.sums.now)
    (values.table (codes "program") c.args.frame.now c.args.rates.now)
    c.in_ok-write_keys.ensures c.in_ok-write_picture.ensures c.write_value_table.ensures
