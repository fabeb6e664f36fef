use Rattle.std.proofs.Common.{◌+◌, ◌∙◌, sym, ap, Bool, Some, if◌then◌else◌, drop}
use Rattle.fed_streams.specs.Feeding.{place_from}
use Rattle.fed_streams.proofs.FedUnits.{place_at, place_end}
use Rattle.fed_streams.proofs.fed_streams.place_of.Goals as goal

pub returns-then-is_of-clause-value : goal.returns-then-is_of-clause-value
returns-then-is_of-clause-value c =
    let ss = c.args.streams.now in
    let k = c.loop-k.k in
    sym (c.loop-k.invariant ∙ place_at c.args.pid k ss c.index-streams-k.result c.loop-k-test.true c.index-streams-k.is
    ∙ ap (λ (b : Bool). if b then Some k else place_from c.args.pid (k + 1) (drop (k + 1) ss)) (sym c.is_of.ensures ∙ c.if-is_of.true))

pub loop-k-preserved : goal.loop-k-preserved
loop-k-preserved c =
    let ss = c.args.streams.now in
    let k = c.loop-k.k in
    c.loop-k.invariant ∙ place_at c.args.pid k ss c.index-streams-k.result c.loop-k-test.true c.index-streams-k.is
    ∙ ap (λ (b : Bool). if b then Some k else place_from c.args.pid (k + 1) (drop (k + 1) ss)) (sym c.is_of.ensures ∙ c.if-is_of.false)

pub returns-clause-value : goal.returns-clause-value
returns-clause-value c = sym (c.loop-k.invariant ∙ place_end c.args.pid c.loop-k.k c.args.streams.now c.loop-k-test.false)
