use Rattle.std.proofs.Common.{◌<◌, ◌≤◌, ◌++◌, length, refl, sym, subst, arith, add-one}
use Rattle.std.specs.Prelude.{◌||◌}
use Rattle.demux.specs.Stream.{held_found}
use Rattle.tsmux_cli.specs.Demultiplexing.{found_at_end}
use Rattle.tsmux_cli.specs.FindingLines.{finding_lines, has_fault}
use Rattle.tsmux_cli.proofs.HeaderLines.{AtEnd, at_first, end_more, faults_end, lines_end}
use Rattle.tsmux_cli.proofs.demultiplexing.list_end.Goals as goal

pub loop-i-init : goal.loop-i-init
loop-i-init c =
    let demux = c.args.demux.now in
    at_first demux.packets demux.states (held_found demux.packets demux.held) c.args.text.now.items c.list_held.new.text.items c.in_ok-faulty.faulty
    c.in_ok-faulty.ensures.lines c.in_ok-faulty.ensures.fault

pub loop-i-preserved : goal.loop-i-preserved
loop-i-preserved c =
    let demux = c.args.demux.now in
    let next = c.list_end_of_pid.new.text.items in
    let all = c.args.text.now.items ++ finding_lines (found_at_end demux) in
    let fault = has_fault (found_at_end demux) in
    let more = c.loop-i.faulty || c.in_ok-ended.ended in
    let less : c.loop-i.i < length demux.states = omega (arith, c.loop-i-test.true, c.pids-i-end.ensures) in
    subst (λ n. AtEnd demux.packets n demux.states next all more fault) (sym (add-one c.loop-i.i))
    (end_more demux.packets c.loop-i.i demux.states c.loop-i.text.items next all c.loop-i.faulty c.in_ok-ended.ended more fault
    less c.in_ok-ended.ensures.lines c.in_ok-ended.ensures.fault refl c.loop-i.invariant)

pub returns-clause-lines : goal.returns-clause-lines
returns-clause-lines c =
    let demux = c.args.demux.now in
    let past : length demux.states ≤ c.loop-i.i = omega (arith, c.loop-i-test.false, c.pids-i-end.ensures) in
    lines_end demux.packets c.loop-i.i demux.states c.loop-i.text.items _ c.loop-i.faulty _ past c.loop-i.invariant

pub returns-clause-fault : goal.returns-clause-fault
returns-clause-fault c =
    let demux = c.args.demux.now in
    let past : length demux.states ≤ c.loop-i.i = omega (arith, c.loop-i-test.false, c.pids-i-end.ensures) in
    faults_end demux.packets c.loop-i.i demux.states c.loop-i.text.items _ c.loop-i.faulty _ past c.loop-i.invariant
