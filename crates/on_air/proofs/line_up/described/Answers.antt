use Rattle.on_air.proofs.LineUpsRead.{description_is, description_refused}
use Rattle.on_air.proofs.line_up.described.Goals as goal

pub returns-in-Ok : goal.returns-in-Ok
returns-in-Ok c = description_is c.args.bytes.now c.in-Ok.description _ c.in-Ok.is c.read_description.ensures

pub returns-in-Err-Refused : goal.returns-in-Err-Refused
returns-in-Err-Refused c = λ text. description_refused c.args.bytes.now text c.in-Err-Refused.fault _ (rw c.in-Err-Refused.field-0-is at c.in-Err-Refused.is) c.read_description.ensures
