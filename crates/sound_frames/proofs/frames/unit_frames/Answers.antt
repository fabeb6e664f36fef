use Rattle.std.proofs.Common.{◌≡◌, ◌∙◌, ◌<◌, ◌-◌, Some, None, sym, ap, rules, arith}
use Rattle.sound_frames.specs.declared.frames.UnitFrames.{UnitFrames}
use Rattle.sound_frames.specs.Frames.{next_frame, walked}
use Rattle.sound_frames.proofs.FrameWalks.{walk_on, walk_stops, walk_ends, walk_stuck, counted}
use Rattle.sound_frames.proofs.frames.unit_frames.Goals as goal

pub returns-then-is_empty : goal.returns-then-is_empty
returns-then-is_empty c = sym (c.frames.invariant.walk
    ∙ walk_ends c.args.kind c.frames.steps c.frames.frames c.frames.left.now (sym c.is_empty.ensures ∙ c.if-is_empty.true))

pub returns-in_err-header : goal.returns-in_err-header
returns-in_err-header c =
    let some : 0 < c.frames.steps = search rules in
    let stop : next_frame c.args.kind c.frames.left.now ≡ None = search rules in
    let none : c.from_residual.result ≡ None = search rules in
    none ∙ sym (c.frames.invariant.walk
    ∙ walk_stops c.args.kind c.frames.steps c.frames.frames c.frames.left.now some (sym c.is_empty.ensures ∙ c.if-is_empty.false) stop)

pub frames-preserved : goal.frames-preserved
frames-preserved c =
    let some : 0 < c.frames.steps = search rules in
    let next : next_frame c.args.kind c.frames.left.now ≡ Some (c.in_ok-header.header, c.in_ok-header.rest.now) = search rules in
    record {
      walk = c.frames.invariant.walk
          ∙ walk_on c.args.kind c.frames.steps c.frames.frames c.frames.left.now c.in_ok-header.header c.in_ok-header.rest.now some
          (sym c.is_empty.ensures ∙ c.if-is_empty.false) next
          ∙ ap (λ (d : UnitFrames). walked c.args.kind (c.frames.steps - 1) d c.in_ok-header.rest.now) (sym c.with_frame-frames.ensures);
      bound = omega (
        arith,
        ap (λ (d : UnitFrames). d.count) c.with_frame-frames.ensures ∙ counted c.frames.frames c.in_ok-header.header,
        c.frames.invariant.bound,
        some,
      );
    }

pub returns-then-is_empty-2 : goal.returns-then-is_empty-2
returns-then-is_empty-2 c = sym (c.frames.invariant.walk
    ∙ walk_ends c.args.kind c.frames.steps c.frames.frames c.frames.left.now (sym c.is_empty-2.ensures ∙ c.if-is_empty-2.true))

pub returns-else-is_empty-2 : goal.returns-else-is_empty-2
returns-else-is_empty-2 c =
    let no_more : c.frames.steps ≡ 0 = search rules in
    sym (c.frames.invariant.walk
    ∙ walk_stuck c.args.kind c.frames.steps c.frames.frames c.frames.left.now no_more (sym c.is_empty-2.ensures ∙ c.if-is_empty-2.false))
