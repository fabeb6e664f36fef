use Rattle.std.proofs.Common.{◌≡◌, ◌∙◌, ◌++◌, List, ap, map}
use Rattle.pid_findings.specs.Bodies.{all_without_body}
use Rattle.pid_findings.specs.Shown.{finding_view}
use Rattle.demux.specs.Stream.{found_in}
use Rattle.pid_findings.specs.Views.{FindingView}
use Rattle.ts_watch.specs.TableEvents.{TablesState, packet_events, with_packet}
use Rattle.ts_watch.proofs.TablePackets.{added_to_none, on_both, packet_passed, packet_writes, taken_takes}
use Rattle.es_events.proofs.Joins.{on_ok}
use Rattle.ts_watch.proofs.table_watch.TableWatch.take.Goals as goal

pub invariant_of-self-2 : goal.invariant_of-self-2
invariant_of-self-2 c = rw c.in-Ok.ensures.ok (taken_takes c.self.inside.demux c.args.bytes.now c.self.invariant)

pub returns-clause-tables : goal.returns-clause-tables
returns-clause-tables c =
    let t : TablesState = record { demux = c.self.inside.demux; times = c.self.inside.times; named = c.self.inside.named } in
    let bytes = c.args.bytes.now in
    let found : List FindingView = map finding_view c.as_slice.result.now in
    let finds : all_without_body found ≡ all_without_body (found_in t.demux bytes) =
    ap (λ xs. all_without_body (map finding_view xs)) c.as_slice.ensures.value
    ∙ added_to_none (map finding_view c.new-found.result.items) (map finding_view c.take_read.new.found.items) (found_in t.demux bytes)
    (ap (λ xs. map finding_view xs) c.new-found.ensures.items) c.in-Ok.ensures.found in
    on_both c.take_found.result
    (λ e n. packet_passed c.args.options.now t bytes c.take_read.new.self c.take_found.new.times c.take_found.new.named found c.self.invariant c.told-bytes
    c.in-Ok.ensures.ok finds e n
    ∙ ap (λ (t : TablesState). with_packet c.args.options.now t bytes) c.self.view_is)
    c.take_found.ensures.times c.take_found.ensures.named

pub returns-clause-found : goal.returns-clause-found
returns-clause-found c =
    let t : TablesState = record { demux = c.self.inside.demux; times = c.self.inside.times; named = c.self.inside.named } in
    let bytes = c.args.bytes.now in
    let events = c.args.events.now.items in
    let found : List FindingView = map finding_view c.as_slice.result.now in
    let finds : all_without_body found ≡ all_without_body (found_in t.demux bytes) =
    ap (λ xs. all_without_body (map finding_view xs)) c.as_slice.ensures.value
    ∙ added_to_none (map finding_view c.new-found.result.items) (map finding_view c.take_read.new.found.items) (found_in t.demux bytes)
    (ap (λ xs. map finding_view xs) c.new-found.ensures.items) c.in-Ok.ensures.found in
    on_ok c.take_found.result
    (λ e. packet_writes c.args.options.now t bytes events (c.take_found.new.events.items) found c.self.invariant c.told-bytes finds e
    ∙ ap (λ (t : TablesState). events ++ packet_events c.args.options.now t bytes) c.self.view_is)
    c.take_found.ensures.found
