use Rattle.std.proofs.Common.{sym, ap, option_map, ◌∙◌}
use Rattle.laws_job.specs.DeclaredBuffers.{declared_framing}
use Rattle.laws_job.proofs.DeclaredBuffers.{declared}
use Rattle.laws_job.proofs.laws.declared.Goals as goal

pub returns-clause-buffers : goal.returns-clause-buffers
returns-clause-buffers c = declared c.texts_are_read.ensures

pub returns-clause-kept : goal.returns-clause-kept
returns-clause-kept c = λ options input rate d p findings units n fit is ranges serving are few k s part is_s is_part.
    let has = declared c.texts_are_read.ensures options input rate d fit is k s part is_s is_part in
    let carried = c.carried.ensures d p findings units n ranges serving are few in
    record {
      video = λ b some. carried.video k s b is_s (has.multiplexing ∙ some);
      frames = λ f some. carried.frames k s (declared_framing f) is_s (has.framing ∙ ap (option_map declared_framing) some);
    }
