use Rattle.std.proofs.Common.{◌≡◌, rules}
use Rattle.ts_packet.specs.PidList.{cut_packets}
use Rattle.monitor.proofs.TakenPackets.{whole_report}
use Rattle.monitor.proofs.monitor.watch.Goals as goal

pub returns-in-Ok : goal.returns-in-Ok
returns-in-Ok g c =
    let packets : c.as_chunks.result.0.now ≡ cut_packets c.args.bytes.now = search rules in
    whole_report (λ report. report) c.args.rate c.args.pcr_limit c.args.bytes.now _ _ _ _ c.finish.result
    c.in_ok-monitor.ensures c.in-Ok.ensures packets (search rules) c.finish.ensures
