use Rattle.std.proofs.Common.{sym, ◌∙◌}
use Rattle.on_air.proofs.LineUpsRead.{line_bad, plan_read, plan_refused}
use Rattle.on_air.proofs.line_up.planned.Goals as goal

pub returns-in-Err-Line : goal.returns-in-Err-Line
returns-in-Err-Line c = line_bad c.args.description c.args.text.now c.in-Err-Line.line (rw c.in-Err-Line.field-0-is at c.in-Err-Line.ensures.refused)

pub returns-in-Ok-check_plan : goal.returns-in-Ok-check_plan
returns-in-Ok-check_plan c = (
  plan_read c.args.description c.args.text.now c.in-Ok.field-0-1.now c.in-Ok.plan c.in-Ok-check_plan.served c.in-Ok.ensures.read
      (sym c.in-Ok-check_plan.ensures.fault) c.in-Ok-check_plan.ensures.description c.in-Ok-check_plan.ensures.plan,
  c.in-Ok-check_plan.ensures.description,
)

pub returns-in-Err : goal.returns-in-Err
returns-in-Err c =
    plan_refused c.args.description c.args.text.now c.in-Ok.field-0-1.now c.in-Ok.plan c.in-Err.refusal c.in-Ok.ensures.read (sym c.in-Err.ensures.fault)
