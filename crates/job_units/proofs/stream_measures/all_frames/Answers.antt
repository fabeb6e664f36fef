use Rattle.std.proofs.Common.{◌≡◌, ◌∙◌, Some, None, sym, ap, rules}
use Rattle.sound_frames.specs.declared.frames.UnitFrames.{UnitFrames}
use Rattle.sound_frames.specs.Frames.{all_frames, unit_frames}
use Rattle.job_programs.proofs.FrameSums.{all_bytes, frames_more, frames_stop, frames_end}
use Rattle.job_units.proofs.stream_measures.all_frames.Goals as goal

pub loop-unit-init : goal.loop-unit-init
loop-unit-init c = ap (λ (d : UnitFrames). all_frames c.args.kind d (all_bytes c.args.units.now)) (sym c.none-frames.ensures)

pub loop-unit-preserved : goal.loop-unit-preserved
loop-unit-preserved c =
    let next : unit_frames c.args.kind c.in-Some.unit.now.bytes ≡ Some c.in_ok-others.others = search rules in
    c.loop-unit.invariant
    ∙ frames_more c.args.kind c.loop-unit.frames c.in_ok-others.others c.loop-unit.left.now c.in-Some.later.now c.in-Some.unit.now c.in-Some.ensures.cases.0
    next
    ∙ ap (λ (d : UnitFrames). all_frames c.args.kind d (all_bytes c.in-Some.later.now)) (sym c.joined-frames.ensures)

pub returns-in_err-others : goal.returns-in_err-others
returns-in_err-others c =
    let stop : unit_frames c.args.kind c.in-Some.unit.now.bytes ≡ None = search rules in
    let none : c.from_residual.result ≡ None = search rules in
    none ∙ sym (c.loop-unit.invariant
    ∙ frames_stop c.args.kind c.loop-unit.frames c.loop-unit.left.now c.in-Some.later.now c.in-Some.unit.now c.in-Some.ensures.cases.0 stop)

pub returns : goal.returns
returns c = sym (c.loop-unit.invariant ∙ frames_end c.args.kind c.loop-unit.frames c.loop-unit.left.now c.in_default.ensures.cases)
