use Rattle.std.proofs.Common.{◌∙◌, ℕ, List, ◌∷◌, ◌++◌, Option, subst, ap}
use Rattle.std.specs.Option.{option_to_list}
use Rattle.clock27.specs.Peak.{greatest_at, most_found}
use Rattle.tstd_rows.specs.declared.excess.Excess.{Excess}
use Rattle.tstd_rows.specs.Excesses.{excesses_ended}
use Rattle.tstd_rows.specs.History.{left_after, main_fullness}
use Rattle.tstd_rows.specs.History.Part.{Carries}
use Rattle.tstd_rows.specs.Viewed.{IsViewOf}
use Rattle.tstd_rows.proofs.VideoViews.{none_waited}
use Rattle.tstd_rows.proofs.viewed_buffers.StreamView.leak.Goals as goal

pub returns-then-leaving-eq0-clause-view : goal.returns-then-leaving-eq0-clause-view
returns-then-leaving-eq0-clause-view g c = λ parts v.
    subst (λ (ts : List ℕ). IsViewOf c.leak_row.new.self (Carries ts ∷ parts)) (none_waited c.args.leaving.now c.if-leaving-eq0.true)
    (c.leak_row.ensures.view parts v)

pub returns-then-leaving-eq0-clause-multiplexing : goal.returns-then-leaving-eq0-clause-multiplexing
returns-then-leaving-eq0-clause-multiplexing g c =
    let old = c.args.self.now.transport in
    c.leak_row.ensures.multiplexing
    ∙ ap (λ (ts : List ℕ). most_found old.step old.last ts) (none_waited c.args.leaving.now c.if-leaving-eq0.true)

pub returns-then-leaving-eq0-clause-elementary : goal.returns-then-leaving-eq0-clause-elementary
returns-then-leaving-eq0-clause-elementary g c = λ parts v.
    let s : ℕ = c.args.self.now.transport.step in
    c.leak_row.ensures.elementary parts v
    ∙ ap (λ (ts : List ℕ). greatest_at (main_fullness s (Carries ts ∷ parts)) (left_after s parts ts)) (none_waited c.args.leaving.now c.if-leaving-eq0.true)

pub returns-then-leaving-eq0-clause-ended : goal.returns-then-leaving-eq0-clause-ended
returns-then-leaving-eq0-clause-ended g c =
    let old = c.args.self.now in
    ap (λ (o : Option Excess). option_to_list o ++ option_to_list c.leak_row.new.ended) c.requires.none
    ∙ c.leak_row.ensures.ended
    ∙ ap (λ (ts : List ℕ). excesses_ended old.transport.step old.watch.size old.transport.last old.watch.under_way ts)
    (none_waited c.args.leaving.now c.if-leaving-eq0.true)
