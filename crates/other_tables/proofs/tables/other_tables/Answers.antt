use Rattle.std.proofs.Common.{◌≡◌, ℕ, Bool, List, ◌++◌, ◌∙◌, Global, map, sym, ap, subst}
use Rattle.pid_findings.specs.Shown.{finding_view}
use Rattle.other_tables.specs.OtherTables.{other_tables, table_at, tables_from}
use Rattle.other_tables.specs.PidCounts.{AreCounts, AreSeen}
use Rattle.other_tables.specs.declared.tables.OtherTable.{OtherTable}
use Rattle.other_tables.proofs.TableSteps.{tables_more, tables_end}
use Rattle.other_tables.proofs.PidCounts.{same_table, seen_after}
use Rattle.other_tables.proofs.tables.other_tables.Goals as goal

pub loop-finding-init : goal.loop-finding-init
loop-finding-init c =
    let all = map (finding_view {A = Global}) c.args.findings.now in
    record {
      seen = subst (λ (found : List OtherTable). AreSeen c.in_ok-seen.seen.items found) (sym c.new-found.ensures.items) c.in_ok-seen.ensures;
      found = ap (λ (found : List OtherTable). tables_from all found all) (sym c.new-found.ensures.items);
    }

pub loop-finding-preserved : goal.loop-finding-preserved
loop-finding-preserved c =
    let all = map (finding_view {A = Global}) c.args.findings.now in
    let found = c.loop-finding.found.items in
    let f = finding_view {A = Global} c.finding-item.result in
    let counts : AreCounts c.deref.result.now all = subst (λ (xs : List ℕ). AreCounts xs all) (sym c.deref.ensures.value) c.in_ok-counts.ensures in
    let seen : AreSeen c.deref-in-loop-finding.result.now found =
    subst (λ (xs : List Bool). AreSeen xs found) (sym c.deref-in-loop-finding.ensures.value) c.loop-finding.invariant.seen in
    let same = same_table c.deref.result.now c.deref-in-loop-finding.result.now all found f c.note_seen.ensures.fits counts seen in
    let made : c.push_table.new.found.items ≡ found ++ table_at all found f =
    c.in_ok-push_table.ensures ∙ ap (λ (t : List OtherTable). found ++ t) same in
    let after = seen_after c.deref.result.now c.loop-finding.seen.items all found f c.note_seen.ensures.fits counts c.loop-finding.invariant.seen in
    record {
      seen = subst (λ (xs : List OtherTable). AreSeen c.note_seen.new.seen.items xs) (sym made)
          (subst (λ (xs : List Bool). AreSeen xs (found ++ table_at all found f)) (sym c.note_seen.ensures.seen) after);
      found = c.loop-finding.invariant.found
          ∙ tables_more (finding_view {A = Global}) all c.loop-finding.finding-index c.args.findings.now c.finding-item.result found
          c.push_table.new.found.items
          c.loop-finding-test.true c.finding-item.is made;
    }

pub returns : goal.returns
unfolding other_tables
returns c =
    sym (c.loop-finding.invariant.found
    ∙ tables_end (finding_view {A = Global}) (map (finding_view {A = Global}) c.args.findings.now) c.loop-finding.finding-index c.args.findings.now
    c.loop-finding.found.items
    c.loop-finding-test.false)
