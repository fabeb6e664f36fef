use Rattle.std.proofs.Common.{◌≡◌, ℕ, ◌+◌, ◌-◌, ◌<◌, List, length, Global, refl, sym, subst, arith}
use Rattle.pid_findings.specs.Shown.{finding_view}
use Rattle.other_tables.proofs.PidCounts.{CountsFrom, all_counted, counted, none_yet}
use Rattle.other_tables.proofs.tables.section_counts.Goals as goal

pub findings-init : goal.findings-init
findings-init c = record {
  inside = omega arith;
  counts = none_yet (finding_view {A = Global}) c.in_ok-counts.counts.items _ c.args.findings.now refl c.in_ok-counts.ensures;
}

pub findings-preserved : goal.findings-preserved
findings-preserved c =
    let before : c.findings.left ≡ c.findings.left - 1 + 1 = omega (arith, c.findings-test.true) in
    let inside : c.findings.left - 1 < length c.args.findings.now = omega (arith, c.findings-test.true, c.findings.invariant.inside) in
    let next =
    counted (finding_view {A = Global}) c.findings.counts.items c.findings.left (c.findings.left - 1) c.args.findings.now c.index-findings-left.result before
    inside
    c.index-findings-left.is c.count_section.ensures.fits c.findings.invariant.counts in
    record {
      inside = omega (arith, inside);
      counts = subst (λ (xs : List ℕ). CountsFrom (finding_view {A = Global}) xs (c.findings.left - 1) c.args.findings.now) (sym c.count_section.ensures.counts)
          next;
    }

pub returns : goal.returns
returns c = all_counted (finding_view {A = Global}) c.findings.counts.items c.findings.left c.args.findings.now (omega (arith, c.findings-test.false))
    c.findings.invariant.counts
