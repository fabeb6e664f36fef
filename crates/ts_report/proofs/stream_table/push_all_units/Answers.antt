use Rattle.std.proofs.Common.{◌≡◌, ◌∙◌, sym, ◌+◌, List, ◌∷◌, ◌++◌, drop, ap, subst, arith}
use Rattle.std.specs.Prelude.{flat_map}
use Rattle.std.proofs.lemmas.List.{drop_more}
use Rattle.es_view.specs.declared.stream_entry.StreamEntry.{StreamEntry}
use Rattle.es_view.specs.Entries.{units_of}
use Rattle.ts_report.proofs.Entries.{Ahead, all_written, one_written}
use Rattle.es_events.proofs.Joins.{drop_past}
use Rattle.ts_report.proofs.stream_table.push_all_units.Goals as goal

pub loop-entry-preserved : goal.loop-entry-preserved
loop-entry-preserved c = λ es a.
    let bs = c.args.entries.now in
    let i = c.loop-entry.entry-index in
    let f = units_of c.args.options.now c.args.window in
    let whole = c.args.events.now.items ++ flat_map f es in
    let left : drop i bs ≡ c.entry-item.result ∷ drop (i + 1) bs =
    drop_more bs i c.entry-item.result c.loop-entry-test.true ∙ ap (λ (b : StreamEntry). b ∷ drop (i + 1) bs) (sym c.entry-item.is) in
    one_written f c.entry-item.result (drop (i + 1) bs) (c.loop-entry.events.items) (c.push_units.new.events.items) whole c.in_ok-push_units.ensures
    (subst (λ (xs : List StreamEntry). Ahead xs f (c.loop-entry.events.items) whole) left (c.loop-entry.invariant es a))

pub returns : goal.returns
returns c = λ es a.
    let f = units_of c.args.options.now c.args.window in
    let whole = c.args.events.now.items ++ flat_map f es in
    all_written f (c.loop-entry.events.items) whole
    (subst (λ (xs : List StreamEntry). Ahead xs f (c.loop-entry.events.items) whole)
    (drop_past c.args.entries.now c.loop-entry.entry-index (omega (arith, c.loop-entry-test.false))) (c.loop-entry.invariant es a))
