use Rattle.std.proofs.Common.{◌≡◌, ◌≤◌, ◌∙◌, ℕ, true, false, refl, sym, ap, arith, length, length-drop, length-take-le, take}
use Rattle.es_feed.proofs.FedStreams.{ended_last, is_last, stretch_fed}
use Rattle.es_feed.proofs.stream_feed.take_decided.Goals as goal

pub loop-at-preserved : goal.loop-at-preserved
loop-at-preserved c =
    let bytes = c.args.bytes.now in
    let at = c.loop-at.at in
    let rest = c.split_at.result.1.now in
    let s = c.next_stretch-stretch.result in
    let i = c.loop-at.invariant in
    let n = c.in_ok-taken.taken in
    let over : s.in_step ≤ n = omega (arith, c.if-taken-stretch.false) in
    record {
      within = omega (arith, c.next_stretch-stretch.ensures.within, ap (length {A = ℕ}) c.split_at.ensures.back, length-drop at bytes, i.within);
      taken = λ first stream gone so. stretch_fed first stream bytes c.args.ended at n rest (take s.in_step rest) s c.loop-at.packets c.take_all.new.self
          gone c.loop-at.fed.items c.take_all.new.fed.items c.split_at.ensures.back refl c.next_stretch-stretch.ensures.within over
          c.next_stretch-stretch.ensures.stretch
          c.in_ok-taken.ensures (i.taken first stream gone so);
    }

pub returns-then-taken-stretch-clause-taken : goal.returns-then-taken-stretch-clause-taken
returns-then-taken-stretch-clause-taken c = λ first stream gone so.
    let bytes = c.args.bytes.now in
    let at = c.loop-at.at in
    let rest = c.split_at.result.1.now in
    let s = c.next_stretch-stretch.result in
    let n = c.in_ok-taken.taken in
    let old = c.loop-at.packets in
    let new = c.take_all.new.self in
    let last = is_last s rest (take s.in_step rest) c.args.ended n old new c.loop-at.fed.items c.take_all.new.fed.items refl
    c.next_stretch-stretch.ensures.within
    (omega (arith, c.if-taken-stretch.true)) c.next_stretch-stretch.ensures.packets c.in_ok-taken.ensures in
    ended_last first stream bytes c.args.ended at n rest (take s.in_step rest) s old new gone c.loop-at.fed.items c.take_all.new.fed.items last.0
    c.split_at.ensures.back refl last.1 last.2
    c.next_stretch-stretch.ensures.stretch c.in_ok-taken.ensures (c.loop-at.invariant.taken first stream gone so)

pub returns-then-taken-stretch-clause-last : goal.returns-then-taken-stretch-clause-last
returns-then-taken-stretch-clause-last c = λ ends.
    let bytes = c.args.bytes.now in
    let at = c.loop-at.at in
    let rest = c.split_at.result.1.now in
    let s = c.next_stretch-stretch.result in
    let n = c.in_ok-taken.taken in
    let t = c.in_ok-taken.ensures in
    let last = is_last s rest (take s.in_step rest) c.args.ended n c.loop-at.packets c.take_all.new.self c.loop-at.fed.items c.take_all.new.fed.items refl
    c.next_stretch-stretch.ensures.within (omega (arith, c.if-taken-stretch.true)) c.next_stretch-stretch.ensures.packets t in
    omega (arith, t.all, last.1, length-take-le s.in_step rest (omega (arith, last.1)), ap (length {A = ℕ}) c.split_at.ensures.back, length-drop at bytes)

pub returns-then-taken-stretch-clause-short : goal.returns-then-taken-stretch-clause-short
returns-then-taken-stretch-clause-short c = λ goes.
    let rest = c.split_at.result.1.now in
    let s = c.next_stretch-stretch.result in
    let last = is_last s rest (take s.in_step rest) c.args.ended c.in_ok-taken.taken c.loop-at.packets c.take_all.new.self c.loop-at.fed.items
    c.take_all.new.fed.items refl
    c.next_stretch-stretch.ensures.within (omega (arith, c.if-taken-stretch.true)) c.next_stretch-stretch.ensures.packets c.in_ok-taken.ensures in
    absurd (let no : true ≡ false = sym last.0 ∙ goes in cc)
