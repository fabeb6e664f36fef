use Rattle.std.proofs.Common.{rules, ◌≡◌, ◌∙◌, sym, ◌+◌, true, false, List, ◌∷◌, drop, ap, subst, arith}
use Rattle.std.specs.List.{list_all}
use Rattle.std.proofs.lemmas.List.{drop_more}
use Rattle.es_view.specs.declared.stream_entry.StreamEntry.{StreamEntry}
use Rattle.es_view.specs.Entries.{is_good}
use Rattle.ts_report.proofs.Entries.{Unjudged, all_good, one_bad, one_good}
use Rattle.es_events.proofs.Joins.{drop_past}
use Rattle.ts_report.proofs.stream_table.are_good.Goals as goal

pub returns-then-not-is_good : goal.returns-then-not-is_good
returns-then-not-is_good c = λ es a.
    let bs = c.args.entries.now in
    let i = c.loop-entry.entry-index in
    let left : drop i bs ≡ c.entry-item.result ∷ drop (i + 1) bs =
    drop_more bs i c.entry-item.result c.loop-entry-test.true ∙ ap (λ (b : StreamEntry). b ∷ drop (i + 1) bs) (sym c.entry-item.is) in
    let bad : c.is_good.result ≡ false = search rules in
    one_bad is_good c.entry-item.result (drop (i + 1) bs) (list_all is_good es) c.is_good.result c.is_good.ensures bad
    (subst (λ (xs : List StreamEntry). Unjudged xs is_good (list_all is_good es)) left (c.loop-entry.invariant es a))

pub loop-entry-preserved : goal.loop-entry-preserved
loop-entry-preserved c = λ es a.
    let bs = c.args.entries.now in
    let i = c.loop-entry.entry-index in
    let left : drop i bs ≡ c.entry-item.result ∷ drop (i + 1) bs =
    drop_more bs i c.entry-item.result c.loop-entry-test.true ∙ ap (λ (b : StreamEntry). b ∷ drop (i + 1) bs) (sym c.entry-item.is) in
    let good : c.is_good.result ≡ true = search rules in
    one_good is_good c.entry-item.result (drop (i + 1) bs) (list_all is_good es) c.is_good.result c.is_good.ensures good
    (subst (λ (xs : List StreamEntry). Unjudged xs is_good (list_all is_good es)) left (c.loop-entry.invariant es a))

pub returns : goal.returns
returns c = λ es a.
    all_good is_good (list_all is_good es)
    (subst (λ (xs : List StreamEntry). Unjudged xs is_good (list_all is_good es))
    (drop_past c.args.entries.now c.loop-entry.entry-index (omega (arith, c.loop-entry-test.false))) (c.loop-entry.invariant es a))
