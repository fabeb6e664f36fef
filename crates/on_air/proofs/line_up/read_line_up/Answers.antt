use Rattle.std.proofs.Common.{rules, sym, ◌∙◌}
use Rattle.on_air.proofs.LineUpsRead.{first_refused, no_parts, plan_none, whole_read}
use Rattle.on_air.proofs.line_up.read_line_up.Goals as goal

pub returns-in_default : goal.returns-in_default
returns-in_default c = no_parts c.args.bytes.now (search rules)

pub returns-in-Err : goal.returns-in-Err
returns-in-Err c =
    first_refused c.args.bytes.now c.in-Some.description.now c.in-Some.text.now c.in-Err.error (sym c.in-Some.ensures) c.in-Err.ensures

pub returns-in-Err-planned : goal.returns-in-Err-planned
returns-in-Err-planned c =
    plan_none c.args.bytes.now c.in-Some.description.now c.in-Some.text.now c.in-Ok.first c.in-Err-planned.error (sym c.in-Some.ensures) c.in-Ok.ensures
    c.in-Err-planned.ensures

pub returns-in-Ok-planned : goal.returns-in-Ok-planned
returns-in-Ok-planned c =
    whole_read c.args.bytes.now c.in-Some.description.now c.in-Some.text.now c.in-Ok.first c.in-Ok-planned.plan c.with_texts.result
    (sym c.in-Some.ensures) c.in-Ok.ensures c.in-Ok-planned.ensures c.with_texts.ensures
