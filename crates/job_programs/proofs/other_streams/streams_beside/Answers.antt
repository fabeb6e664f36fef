use Rattle.std.proofs.Common.{◌∙◌, List, Global, map, sym, ap}
use Rattle.dvb_tables.specs.TransportStreams.{TransportStreamView}
use Rattle.pid_findings.specs.Shown.{finding_view}
use Rattle.ts_services.specs.NetworkInformation.{found_network_view}
use Rattle.job_programs.specs.OtherStreams.{with_findings, with_table}
use Rattle.job_programs.proofs.NetworkSteps.{streams_more, streams_end}
use Rattle.job_programs.proofs.other_streams.streams_beside.Goals as goal

pub loop-finding-init : goal.loop-finding-init
loop-finding-init c =
    ap (λ (taken : List TransportStreamView). with_findings c.args.id (found_network_view c.args.network) taken (map (finding_view {A = Global}) c.args.findings.now))
    (sym c.new-taken.ensures.items)

pub loop-finding-preserved : goal.loop-finding-preserved
loop-finding-preserved c =
    c.loop-finding.invariant
    ∙ streams_more (finding_view {A = Global}) c.args.id (found_network_view c.args.network) c.loop-finding.finding-index c.args.findings.now
    c.finding-item.result c.loop-finding.taken.items c.take_table.new.taken.items c.loop-finding-test.true c.finding-item.is
    (c.in_ok-take_table.ensures ∙ ap (with_table c.args.id (found_network_view c.args.network) c.loop-finding.taken.items) c.nit_found.ensures)

pub returns : goal.returns
returns c =
    sym (c.loop-finding.invariant
    ∙ streams_end (finding_view {A = Global}) c.args.id (found_network_view c.args.network) c.loop-finding.finding-index c.args.findings.now
    c.loop-finding.taken.items c.loop-finding-test.false)
