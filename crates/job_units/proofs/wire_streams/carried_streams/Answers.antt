use Rattle.std.proofs.Common.{rules, ◌≡◌, ◌∙◌, ◌++◌, sym, ap, List, length, map, flat_map, arith}
use Rattle.pid_findings.specs.Shown.{finding_view}
use Rattle.stream_programs.specs.Streams.{FoundStreamView}
use Rattle.job_programs.specs.JobStreams.{WireStreamView}
use Rattle.job_units.specs.WireStreams.{carried_stream, left_out_warnings}
use Rattle.job_units.proofs.CarriedStreams.{list_more, list_end}
use Rattle.job_units.proofs.wire_streams.carried_streams.Goals as goal

pub loop-stream-init : goal.loop-stream-init
loop-stream-init c =
    let fs = map finding_view c.args.findings.now in
    let o = c.args.options.now in
    let same : c.into_iter-stream-iterator.result.rest.items ≡ c.args.selected.items = search rules in
    let carried = ap (λ (ws : List WireStreamView). ws ++ flat_map (carried_stream o fs) c.args.selected.items) (sym c.new-streams.ensures.items)
    ∙ ap (λ (ss : List FoundStreamView). c.new-streams.result.items ++ flat_map (carried_stream o fs) ss) (sym same) in
    (tt, tt, carried, ap (λ (ss : List FoundStreamView). c.args.warnings.now.items ++ flat_map (left_out_warnings o c.args.count fs) ss) (sym same))

pub loop-stream-preserved : goal.loop-stream-preserved
loop-stream-preserved c =
    let fs = map finding_view c.args.findings.now in
    let o = c.args.options.now in
    let carried = c.loop-stream.invariant.2
    ∙ ap (λ (ss : List FoundStreamView). c.loop-stream.streams.items ++ flat_map (carried_stream o fs) ss) c.in-Some.ensures.steps.0
    ∙ list_more (carried_stream o fs) c.in-Some.stream c.next.new.self.rest.items c.loop-stream.streams.items c.push_stream.new.streams.items
    c.in_ok-push_stream.ensures.streams in
    let warnings = c.loop-stream.invariant.3
    ∙ ap (λ (ss : List FoundStreamView). c.loop-stream.warnings.items ++ flat_map (left_out_warnings o c.args.count fs) ss) c.in-Some.ensures.steps.0
    ∙ list_more (left_out_warnings o c.args.count fs) c.in-Some.stream c.next.new.self.rest.items c.loop-stream.warnings.items c.push_stream.new.warnings.items
    c.in_ok-push_stream.ensures.warnings in
    (tt, tt, carried, warnings)

pub returns-clause-streams : goal.returns-clause-streams
returns-clause-streams c =
    let none : length c.loop-stream.stream-iterator.rest.items ≡ 0 = search (rules, arith) in
    sym (c.loop-stream.invariant.2
    ∙ list_end (carried_stream c.args.options.now (map finding_view c.args.findings.now)) c.loop-stream.stream-iterator.rest.items c.loop-stream.streams.items
    none)
