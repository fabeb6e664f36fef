use Rattle.std.proofs.Common.{◌≡◌, ◌+◌, List, ◌∷◌, ◌++◌, drop, get_or, subst, arith}
use Rattle.std.proofs.lemmas.List.{drop_more}
use Rattle.sound_frames.specs.declared.frame_walk.FramePart.{FramePart}
use Rattle.es_view.specs.EntryFrames.{frames_after, frames_events}
use Rattle.es_events.proofs.Joins.{drop_past}
use Rattle.es_view.proofs.Frames.{Settled, SettledVideo, all_entered, all_of_video, all_written, no_part, one_entered, one_of_video}
use Rattle.es_view.proofs.counted_buffers.CountedBuffers.enter_frames.Goals as goal

pub loop-frame-preserved : goal.loop-frame-preserved
loop-frame-preserved c =
    let ps = c.args.frames.now in
    let i = c.loop-frame.frame-index in
    let options = c.args.options.now in
    let at = c.args.at.now in
    let place = c.args.place.now in
    let p : FramePart = get_or ps i no_part in
    let left : drop i ps ≡ p ∷ drop (i + 1) ps = drop_more ps i no_part c.loop-frame-test.true in
    record {
      settled = λ n k.
          let last = frames_after options at c.args.window n ps in
          let whole = c.args.events.now.items ++ frames_events options place at n.held ps in
          one_entered options at c.args.window place c.loop-frame.self c.enter_frame.new.self p (drop (i + 1) ps) (c.loop-frame.events.items)
          (c.enter_frame.new.events.items)
          last whole c.in_ok-enter_frame.ensures.counted c.in_ok-enter_frame.ensures.found
          (subst (λ (xs : List FramePart). Settled options at c.args.window place c.loop-frame.self xs (c.loop-frame.events.items) last whole) left
          (c.loop-frame.invariant.settled n k));
      video = λ n sizes k v.
          let last = frames_after options at c.args.window n ps in
          one_of_video options at c.args.window c.loop-frame.self c.enter_frame.new.self sizes p (drop (i + 1) ps) last
          c.in_ok-enter_frame.ensures.counted c.in_ok-enter_frame.ensures.video
          (subst (λ (xs : List FramePart). SettledVideo options at c.args.window c.loop-frame.self sizes xs last) left
          (c.loop-frame.invariant.video n sizes k v));
    }

pub returns-clause-counted : goal.returns-clause-counted
returns-clause-counted c = λ n k.
    let ps = c.args.frames.now in
    let i = c.loop-frame.frame-index in
    let options = c.args.options.now in
    let at = c.args.at.now in
    let place = c.args.place.now in
    let last = frames_after options at c.args.window n ps in
    let whole = c.args.events.now.items ++ frames_events options place at n.held ps in
    all_entered options at c.args.window place c.loop-frame.self (c.loop-frame.events.items) last whole
    (subst (λ (xs : List FramePart). Settled options at c.args.window place c.loop-frame.self xs (c.loop-frame.events.items) last whole)
    (drop_past ps i (omega (arith, c.loop-frame-test.false))) (c.loop-frame.invariant.settled n k))

pub returns-clause-found : goal.returns-clause-found
returns-clause-found c = λ n k.
    let ps = c.args.frames.now in
    let i = c.loop-frame.frame-index in
    let options = c.args.options.now in
    let at = c.args.at.now in
    let place = c.args.place.now in
    let last = frames_after options at c.args.window n ps in
    let whole = c.args.events.now.items ++ frames_events options place at n.held ps in
    all_written options at c.args.window place c.loop-frame.self (c.loop-frame.events.items) last whole
    (subst (λ (xs : List FramePart). Settled options at c.args.window place c.loop-frame.self xs (c.loop-frame.events.items) last whole)
    (drop_past ps i (omega (arith, c.loop-frame-test.false))) (c.loop-frame.invariant.settled n k))

pub returns-clause-video : goal.returns-clause-video
returns-clause-video c = λ n sizes k v.
    let ps = c.args.frames.now in
    let i = c.loop-frame.frame-index in
    let options = c.args.options.now in
    let at = c.args.at.now in
    let last = frames_after options at c.args.window n ps in
    all_of_video options at c.args.window c.loop-frame.self sizes last
    (subst (λ (xs : List FramePart). SettledVideo options at c.args.window c.loop-frame.self sizes xs last)
    (drop_past ps i (omega (arith, c.loop-frame-test.false))) (c.loop-frame.invariant.video n sizes k v))
