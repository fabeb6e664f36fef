use Rattle.std.proofs.Common.{◌≡◌, ◌<◌, ◌-◌, ℕ, None, Some, map, length, subst, arith, rules}
use Rattle.pid_findings.specs.Shown.{finding_view}
use Rattle.es_units.specs.PidPlaces.{pids_in}
use Rattle.es_units.proofs.PidPlaces.{AreLinksFrom, long, pid_at, links_before, links_taken, links_passed, links_whole}
use Rattle.es_units.proofs.pid_links.PidLinks.new.Goals as goal

pub loop-left-init : goal.loop-left-init
loop-left-init g c =
    let view = finding_view {A = g.row.A.Denot} in
    let fs = c.args.findings.now in
    record {
      within = omega arith;
      links = links_before (length fs) c.in_ok-firsts.firsts.items c.in_ok-nexts.nexts.items (pids_in (map view fs)) (long view fs)
          (c.in_ok-firsts.ensures.items_if_clones_equal (λ x same. same)) (c.in_ok-nexts.ensures.items_if_clones_equal (λ x same. same));
    }

pub loop-left-preserved-in-Some : goal.loop-left-preserved-in-Some
loop-left-preserved-in-Some g c =
    let view = finding_view {A = g.row.A.Denot} in
    let fs = c.args.findings.now in
    let left = c.loop-left.left - 1 in
    let inv = c.loop-left.invariant in
    let low : c.in-Some.pid < 65_536 = search (rules, arith) in
    record {
      within = omega (arith, inv.within);
      links = links_taken left c.loop-left.left c.in-Some.pid c.index.result.now c.loop-left.firsts.items c.loop-left.nexts.items (pids_in (map view fs))
          (omega (arith, c.loop-left-test.true)) low
          (pid_at view left fs _ (Some c.in-Some.pid) (omega (arith, inv.within, c.loop-left-test.true)) c.in-Some.is)
          c.index.ensures inv.links;
    }

pub loop-left-preserved : goal.loop-left-preserved
loop-left-preserved g c =
    let view = finding_view {A = g.row.A.Denot} in
    let fs = c.args.findings.now in
    let left = c.loop-left.left - 1 in
    let inv = c.loop-left.invariant in
    record {
      within = omega (arith, inv.within);
      links = links_passed left c.loop-left.left c.loop-left.firsts.items c.loop-left.nexts.items (pids_in (map view fs))
          (omega (arith, c.loop-left-test.true))
          (pid_at view left fs _ None (omega (arith, inv.within, c.loop-left-test.true)) c.in_default.is) inv.links;
    }

pub returns : goal.returns
returns g c =
    let pids = pids_in (map (finding_view {A = g.row.A.Denot}) c.args.findings.now) in
    let firsts = c.loop-left.firsts.items in
    let nexts = c.loop-left.nexts.items in
    let none : c.loop-left.left ≡ 0 = omega (arith, c.loop-left-test.false) in
    links_whole firsts nexts pids (subst (λ (n : ℕ). AreLinksFrom n firsts nexts pids) none c.loop-left.invariant.links)
