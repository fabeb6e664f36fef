use Rattle.std.proofs.Common.{rules, arith, ◌≡◌, ◌∙◌, ◌∷◌, [], ◌++◌, All, List, length, map, sym, ap, subst}
use Rattle.std.proofs.lemmas.List.{map-append}
use Rattle.std.proofs.lemmas.List.Elements.{All-nil}
use Rattle.std.proofs.lemmas.Result.{err_from_is_err_and}
use Rattle.pid_findings.specs.Shown.{finding_view}
use Rattle.job_programs.specs.JobStreams.{TimedStreamView}
use Rattle.job_units.specs.Moments.{moved_by, StreamMomentsView, timed_stream}
use Rattle.job_programs.proofs.Each.{each_start, each_step, each_refused, each_done}
use Rattle.job_programs.proofs.Elements.{all_tail, all_more}
use Rattle.job_units.proofs.moved_streams.each_moved.Goals as goal
use Rattle.job_programs.specs.FoundUnits.{IsCarried, IsMoved}
use Rattle.job_programs.specs.Answers.{Leads}

pub loop-stream-init : goal.loop-stream-init
loop-stream-init c =
    let fs = map finding_view c.args.findings.now in
    let same : c.into_iter-stream-iterator.result.rest.items ≡ c.args.streams.items = search rules in
    let carried = subst (All (IsCarried c.args.make_dts fs)) (sym same) c.requires.carried in
    let empty : map (timed_stream fs) c.new-moved.result.items ≡ [] = ap (map (timed_stream fs)) c.new-moved.ensures.items in
    let none = subst (All (IsMoved c.args.make_dts fs)) (sym empty) (All-nil (IsMoved c.args.make_dts fs)) in
    let start = each_start (moved_by fs c.args.earliest c.args.programs.now c.args.firsts.now) c.args.streams.items
    c.into_iter-stream-iterator.result.rest.items (map (timed_stream fs) c.new-moved.result.items) same empty in
    (tt, tt, carried, none, start)

pub loop-stream-preserved : goal.loop-stream-preserved
unfolding Leads
loop-stream-preserved c =
    let fs = map finding_view c.args.findings.now in
    let before = map (timed_stream fs) c.loop-stream.moved.items in
    let next = timed_stream fs c.in_ok-next.next in
    let carried : All (IsCarried c.args.make_dts fs) (c.in-Some.stream ∷ c.next.new.self.rest.items) =
    rw c.in-Some.ensures.steps.0 at c.loop-stream.invariant.2 in
    let rest = all_tail (IsCarried c.args.make_dts fs) c.in-Some.stream c.next.new.self.rest.items carried in
    let more : map (timed_stream fs) c.push.new.self.items ≡ before ++ next ∷ [] =
    ap (map (timed_stream fs)) c.in_ok-push.ensures.items ∙ map-append (timed_stream fs) c.loop-stream.moved.items (c.in_ok-next.next ∷ []) in
    let moved = all_more (IsMoved c.args.make_dts fs) before next c.loop-stream.invariant.3 c.in_ok-next.ensures.moved in
    let on = each_step (moved_by fs c.args.earliest c.args.programs.now c.args.firsts.now) c.args.streams.items c.loop-stream.stream-iterator.rest.items
    c.next.new.self.rest.items c.in-Some.stream
    before (map (timed_stream fs) c.push.new.self.items) next c.loop-stream.invariant.4 c.in-Some.ensures.steps.0 c.in_ok-next.ensures.value more in
    (tt, tt, rest, subst (All (IsMoved c.args.make_dts fs)) (sym more) moved, on)

pub returns-in_err-next-clause-refused : goal.returns-in_err-next-clause-refused
unfolding Leads
returns-in_err-next-clause-refused c =
    let fs = map finding_view c.args.findings.now in
    let refused = each_refused (moved_by fs c.args.earliest c.args.programs.now c.args.firsts.now) c.args.streams.items c.loop-stream.stream-iterator.rest.items
    c.next.new.self.rest.items c.in-Some.stream
    (map (timed_stream fs) c.loop-stream.moved.items) c.in_err-next.field-0.0 c.loop-stream.invariant.4 c.in-Some.ensures.steps.0 c.in_err-next.ensures.value in
    let p = err_from_is_err_and c.from_residual.result c.from_residual.ensures.1 in
    rw (p.1, p.2) refused

pub returns-clause-streams : goal.returns-clause-streams
returns-clause-streams c =
    let fs = map finding_view c.args.findings.now in
    let none : length c.loop-stream.stream-iterator.rest.items ≡ 0 = search (rules, arith) in
    each_done (moved_by fs c.args.earliest c.args.programs.now c.args.firsts.now) c.args.streams.items c.loop-stream.stream-iterator.rest.items
    (map (timed_stream fs) c.loop-stream.moved.items)
    c.loop-stream.invariant.4 none
