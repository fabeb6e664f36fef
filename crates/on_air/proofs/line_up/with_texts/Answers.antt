use Rattle.on_air.proofs.LineUpsRead.{copies_none}
use Rattle.on_air.proofs.line_up.with_texts.Goals as goal

pub returns-in-Err : goal.returns-in-Err
returns-in-Err c = copies_none c.args.bytes.now c.args.plan c.in-Err.error c.in-Err.ensures
