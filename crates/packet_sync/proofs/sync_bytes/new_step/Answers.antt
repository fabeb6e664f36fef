use Rattle.std.proofs.Common.{◌∙◌, ◌*◌, sym, arith}
use Rattle.packet_sync.proofs.SlipSteps.{found_here, found_later, found_nowhere}
use Rattle.packet_sync.proofs.sync_bytes.new_step.Goals as goal

pub returns-then-is_new_step-clause-value : goal.returns-then-is_new_step-clause-value
returns-then-is_new_step-clause-value c =
    sym (found_here c.args.bytes.now c.args.at c.args.step c.loop-size.size (4 * c.args.step) c.loop-size-test.true (sym c.if-is_new_step.true ∙ c.is_new_step.ensures.value))
    ∙ c.loop-size.invariant

pub loop-size-preserved : goal.loop-size-preserved
loop-size-preserved c =
    sym (found_later c.args.bytes.now c.args.at c.args.step c.loop-size.size (4 * c.args.step) c.loop-size-test.true (sym c.if-is_new_step.false ∙ c.is_new_step.ensures.value))
    ∙ c.loop-size.invariant

pub returns-clause-value : goal.returns-clause-value
returns-clause-value c = sym (found_nowhere c.args.bytes.now c.args.at c.args.step c.loop-size.size (4 * c.args.step) (omega (arith, c.loop-size-test.false))) ∙ c.loop-size.invariant
