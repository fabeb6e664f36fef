use Rattle.std.proofs.Common.{◌≡◌, ◌∙◌, ◌<◌, ◌≤◌, [], length, drop, map, ap, arith, add-one}
use Rattle.pid_findings.specs.Shown.{finding_view}
use Rattle.demux.specs.Stream.{ended_found}
use Rattle.monitor.specs.FindingStates.{all_noted}
use Rattle.monitor.proofs.HeaderFindings.{ends_all, ends_more}
use Rattle.monitor.proofs.monitor.note_ends.Goals as goal

pub loop-i-preserved : goal.loop-i-preserved
loop-i-preserved g c =
    let demux = c.args.demux.now in
    let found = c.loop-i.found in
    let none = map finding_view c.new-ends.result.items in
    let ends = map finding_view c.end_of_pid.new.found.items in
    let empty : none ≡ [] = ap (λ xs. map finding_view xs) c.new-ends.ensures.items in
    let less : c.loop-i.i < length demux.states = omega (arith, c.loop-i-test.true, c.pids-i-end.ensures) in
    let noted : c.note_all.new.self ≡ all_noted found ends =
    c.in_ok-note_all.ensures ∙ ap (λ xs. all_noted found (map finding_view xs)) c.as_slice.ensures.value in
    ap (λ n. all_noted c.note_all.new.self (ended_found demux.packets (drop n demux.states))) (add-one c.loop-i.i)
    ∙ ends_more demux.packets c.loop-i.i demux.states found c.note_all.new.self none ends less empty c.in_ok-end_of_pid.ensures noted
    ∙ c.loop-i.invariant

pub returns : goal.returns
returns g c =
    let demux = c.args.demux.now in
    let past : length demux.states ≤ c.loop-i.i = omega (arith, c.loop-i-test.false, c.pids-i-end.ensures) in
    ends_all demux.packets c.loop-i.i demux.states c.loop-i.found (all_noted c.args.found.now (ended_found demux.packets demux.states)) past c.loop-i.invariant
