use Rattle.std.proofs.Common.{◌≡◌, ◌++◌, drop, map}
use Rattle.pid_findings.specs.Shown.{finding_view}
use Rattle.fed_streams.specs.Feeding.{after_all, fed_all}
use Rattle.es_feed.proofs.unit_feed.UnitFeed.take_all.Given as goal

abbrev pub invariant-loop-finding : goal.invariant-loop-finding
invariant-loop-finding l = record {
  feed : after_all l.fn.self (map finding_view l.findings) ≡ after_all l.self (map finding_view (drop l.finding-index l.findings));
  fed : l.fn.fed.items ++ fed_all l.fn.self (map finding_view l.findings) ≡ l.fed.items ++ fed_all l.self (map finding_view (drop l.finding-index l.findings));
}
