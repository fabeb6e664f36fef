use Rattle.std.proofs.Common.{◌≡◌, ◌∙◌, ℕ, max, List, ◌∷◌, ◌++◌, Option, subst, ap, ap₂}
use Rattle.std.specs.Option.{option_to_list}
use Rattle.std.proofs.lemmas.List.{append-nil}
use Rattle.clock27.specs.Peak.{greatest_at, most_found}
use Rattle.arrival.specs.Rows.{times_of}
use Rattle.tstd_rows.specs.declared.excess.Excess.{Excess}
use Rattle.tstd_rows.specs.declared.transport_buffer.TransportBuffer.{TransportBuffer}
use Rattle.tstd_rows.specs.Excesses.{excesses_ended}
use Rattle.tstd_rows.specs.History.{left_after, main_fullness}
use Rattle.tstd_rows.specs.History.Part.{Carries}
use Rattle.tstd_rows.specs.Viewed.{IsViewOf}
use Rattle.tstd_rows.proofs.VideoViews.{all_waited, joined_view, most_joined, most_found_joined, ended_joined}
use Rattle.tstd_rows.proofs.viewed_buffers.StreamView.leak_waiting.Goals as goal

-- All bytes waited.

pub returns-then-leaving-eq0-clause-view : goal.returns-then-leaving-eq0-clause-view
returns-then-leaving-eq0-clause-view g c = λ parts v.
    subst (λ (ts : List ℕ). IsViewOf c.leak_row.new.self (Carries ts ∷ parts)) (all_waited c.args.leaving.now c.if-leaving-eq0.true)
    (c.leak_row.ensures.view parts v)

pub returns-then-leaving-eq0-clause-multiplexing : goal.returns-then-leaving-eq0-clause-multiplexing
returns-then-leaving-eq0-clause-multiplexing g c =
    let old = c.args.self.now.transport in
    c.leak_row.ensures.multiplexing ∙ ap (λ (ts : List ℕ). most_found old.step old.last ts) (all_waited c.args.leaving.now c.if-leaving-eq0.true)

pub returns-then-leaving-eq0-clause-elementary : goal.returns-then-leaving-eq0-clause-elementary
returns-then-leaving-eq0-clause-elementary g c = λ parts v.
    let s : ℕ = c.args.self.now.transport.step in
    c.leak_row.ensures.elementary parts v
    ∙ ap (λ (ts : List ℕ). greatest_at (main_fullness s (Carries ts ∷ parts)) (left_after s parts ts)) (all_waited c.args.leaving.now c.if-leaving-eq0.true)

pub returns-then-leaving-eq0-clause-ended : goal.returns-then-leaving-eq0-clause-ended
returns-then-leaving-eq0-clause-ended g c =
    let old = c.args.self.now in
    ap (λ (o : Option Excess). option_to_list c.leak_row.new.ended ++ option_to_list o) c.requires.none_free ∙ append-nil (option_to_list c.leak_row.new.ended)
    ∙ c.leak_row.ensures.ended
    ∙ ap (λ (ts : List ℕ). excesses_ended old.transport.step old.watch.size old.transport.last old.watch.under_way ts)
    (all_waited c.args.leaving.now c.if-leaving-eq0.true)

-- Some bytes waited, and some did not.

pub returns-clause-view : goal.returns-clause-view
returns-clause-view g c = λ parts v.
    let l = c.args.leaving.now in
    joined_view _ (times_of l.waiting) (times_of l.free) parts
    (c.leak_row-second.ensures.view (Carries (times_of l.waiting) ∷ parts) (c.leak_row-first.ensures.view parts v))

pub returns-clause-multiplexing : goal.returns-clause-multiplexing
returns-clause-multiplexing g c =
    let l = c.args.leaving.now in
    c.max.ensures ∙ ap₂ (λ (m n : ℕ). max m n) c.leak_row-first.ensures.multiplexing c.leak_row-second.ensures.multiplexing
    ∙ most_found_joined c.args.self.now.transport c.leak_row-first.new.self.transport (times_of l.waiting) (times_of l.free) c.leak_row-first.ensures.buffer

pub returns-clause-elementary : goal.returns-clause-elementary
returns-clause-elementary g c = λ parts v.
    let l = c.args.leaving.now in
    let a = times_of l.waiting in
    let b = times_of l.free in
    let s : ℕ = c.args.self.now.transport.step in
    let step : c.leak_row-first.new.self.transport.step ≡ s = ap (λ (t : TransportBuffer). t.step) c.leak_row-first.ensures.buffer in
    let second = c.leak_row-second.ensures.elementary (Carries a ∷ parts) (c.leak_row-first.ensures.view parts v)
    ∙ ap (λ (n : ℕ). greatest_at (main_fullness n (Carries b ∷ Carries a ∷ parts)) (left_after n (Carries a ∷ parts) b)) step in
    c.max-2.ensures ∙ ap₂ (λ (m n : ℕ). max m n) (c.leak_row-first.ensures.elementary parts v) second ∙ most_joined s a b parts c.args.self.now.paced.some

pub returns-clause-ended : goal.returns-clause-ended
returns-clause-ended g c =
    let l = c.args.leaving.now in
    let old = c.args.self.now in
    let first = c.leak_row-first.new.self in
    ap₂ (λ (es fs : List Excess). es ++ fs) c.leak_row-first.ensures.ended c.leak_row-second.ensures.ended
    ∙ ended_joined old.transport first.transport old.watch.size first.watch.size old.watch.under_way first.watch.under_way (times_of l.waiting)
    (times_of l.free)
    c.leak_row-first.ensures.buffer c.leak_row-first.ensures.size c.leak_row-first.ensures.under_way
