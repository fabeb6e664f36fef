use Rattle.slot_plan.specs.Text.{program_line}
use Rattle.slot_plan.proofs.NumberedLists.{written_more}
use Rattle.slot_plan.proofs.text.write_programs.Goals as goal

pub loop-number-preserved : goal.loop-number-preserved
loop-number-preserved g c =
    written_more (program_line) c.args.entries.now c.loop-number.number _ _ _ _ c.loop-number-test.true c.in_ok-write_program.ensures c.loop-number.invariant
