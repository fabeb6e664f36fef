use Rattle.std.proofs.Common.{◌≡◌, ◌∙◌, ◌<◌, ◌==◌, true, false, ◌+◌, ◌-◌, ◌++◌, ◌∷◌, ℕ, List, length, drop, sym, ap, append_assoc, append-nil, rules, arith}
use Rattle.sound_frames.specs.declared.frame_walk.FramePart.{FramePart}
use Rattle.std.proofs.lemmas.List.{length-drop}
use Rattle.sound_frames.specs.FrameWalks.{frames_in, walk_after}
use Rattle.sound_frames.proofs.FrameParts.{no_part, no_step, no_step_walk, no_walk_on, parts_on, walk_on}
use Rattle.sound_frames.proofs.frame_walk.FrameWalk.take.Goals as goal

pub returns-then-is_empty-clause-walk : goal.returns-then-is_empty-clause-walk
returns-then-is_empty-clause-walk c =
    sym (no_walk_on c.frames.steps c.frames.self c.frames.left.now (sym c.is_empty.ensures ∙ c.if-is_empty.true)) ∙ c.frames.invariant.walk

pub returns-then-is_empty-clause-parts : goal.returns-then-is_empty-clause-parts
returns-then-is_empty-clause-parts c =
    sym (append-nil c.frames.parts.items)
    ∙ ap (λ (l : List FramePart). c.frames.parts.items ++ l)
    (sym (no_part c.frames.steps c.frames.self c.frames.place c.frames.left.now (sym c.is_empty.ensures ∙ c.if-is_empty.true)))
    ∙ c.frames.invariant.parts

pub frames-preserved : goal.frames-preserved
frames-preserved c =
    let some : 0 < c.frames.steps = search rules in
    let more : (length c.frames.left.now == 0) ≡ false = sym c.is_empty.ensures ∙ c.if-is_empty.false in
    record {
      parts = parts_on c.frames.steps c.frames.self c.begin-ahead.new.self c.pass-size.new.self c.frames.place c.pass-size.result c.begin-ahead.result
          c.frames.left.now c.bytes_after-left-in-frames.result.now
          c.frames.parts.items c.push.new.self.items (frames_in c.args.self.now c.args.bytes.now) some more c.begin-ahead.ensures.walk c.pass-size.ensures.walk
          c.pass-size.ensures.count
          c.bytes_after-left-in-frames.ensures c.begin-ahead.ensures.ahead c.in_ok-push.ensures.items c.frames.invariant.parts;
      walk = walk_on c.frames.steps c.frames.self c.begin-ahead.new.self c.pass-size.new.self (walk_after c.args.self.now c.args.bytes.now) c.pass-size.result
          c.frames.left.now
          c.bytes_after-left-in-frames.result.now some more c.begin-ahead.ensures.walk c.pass-size.ensures.walk c.pass-size.ensures.count
          c.bytes_after-left-in-frames.ensures
          c.frames.invariant.walk;
      bound = omega (
        arith,
        ap (λ (l : List ℕ). length l) c.bytes_after-left-in-frames.ensures,
        length-drop c.pass-size.result c.frames.left.now,
        c.pass-size.ensures.bound,
        c.frames.invariant.bound,
      );
    }

pub returns-clause-walk : goal.returns-clause-walk
returns-clause-walk c =
    let none : c.frames.steps ≡ 0 = search rules in
    sym (no_step_walk c.frames.steps c.frames.self c.frames.left.now none) ∙ c.frames.invariant.walk

pub returns-clause-parts : goal.returns-clause-parts
returns-clause-parts c =
    let none : c.frames.steps ≡ 0 = search rules in
    sym (append-nil c.frames.parts.items)
    ∙ ap (λ (l : List FramePart). c.frames.parts.items ++ l) (sym (no_step c.frames.steps c.frames.self c.frames.place c.frames.left.now none))
    ∙ c.frames.invariant.parts
