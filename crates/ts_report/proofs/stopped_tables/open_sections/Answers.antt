use Rattle.std.proofs.Common.{◌≡◌, ◌∙◌, ℕ, ◌<◌, ◌≤◌, true, Some, [], length, drop, map, slice_get, ap, arith, add-one, rules, subst}
use Rattle.pid_findings.specs.Findings.{ended}
use Rattle.pid_findings.specs.Machine.{PidState}
use Rattle.pid_findings.specs.Shown.{finding_view, with_pid}
use Rattle.demux.specs.Stream.{StreamState, ended_found}
use Rattle.demux.specs.StreamBodies.{AddsHeaders}
use Rattle.ts_report.specs.StoppedEvents.{open_sections}
use Rattle.ts_watch.specs.TableEvents.{with_findings}
use Rattle.ts_report.proofs.OpenSections.{ends_all, ends_more}
use Rattle.ts_report.proofs.stopped_tables.open_sections.Goals as goal

pub loop-i-preserved : goal.loop-i-preserved
loop-i-preserved c =
    let options = c.args.options.now in
    let demux : StreamState = c.args.tables.now.demux in
    let opened = c.loop-i.opened in
    let none = map finding_view c.new-ends.result.items in
    let ends = map finding_view c.end_of_pid.new.found.items in
    let empty : none ≡ [] = ap (λ xs. map finding_view xs) c.new-ends.ensures.items in
    let less : c.loop-i.i < length demux.states = search rules in
    let added : (x : ℕ × PidState) → slice_get demux.states c.loop-i.i ≡ Some x →
    AddsHeaders none ends (map (with_pid x.0 demux.packets) (ended true x.1.open_unit)) =
    subst (λ (d : StreamState). (x : ℕ × PidState) → slice_get d.states c.loop-i.i ≡ Some x →
    AddsHeaders none ends (map (with_pid x.0 d.packets) (ended true x.1.open_unit))) c.demux-demux.ensures c.in_ok-end_of_pid.ensures in
    let taken : c.take_all.new.self ≡ with_findings options opened ends =
    c.in_ok-take_all.ensures.times ∙ ap (λ xs. with_findings options opened (map finding_view xs)) c.as_slice.ensures.value in
    ap (λ n. with_findings options c.take_all.new.self (ended_found demux.packets (drop n demux.states))) (add-one c.loop-i.i)
    ∙ ends_more options demux.packets c.loop-i.i demux.states opened c.take_all.new.self none ends less empty added taken
    ∙ c.loop-i.invariant

pub returns : goal.returns
returns c =
    let options = c.args.options.now in
    let demux : StreamState = c.args.tables.now.demux in
    let past : length demux.states ≤ c.loop-i.i = search rules in
    ends_all options demux.packets c.loop-i.i demux.states c.loop-i.opened (open_sections options c.args.tables.now) past c.loop-i.invariant
