use Rattle.std.proofs.Common.{ap, ◌∙◌, rules, ◌≡◌, IfNone, [], slice_index_or}
use Rattle.es_moments.proofs.MergedUnits.{taken_if, none_if}
use Rattle.es_moments.proofs.merging.take_next.Goals as goal

pub returns-clause-some : goal.returns-clause-some
returns-clause-some g c =
    let here : slice_index_or c.args.queues.now.items c.args.k c.index_mut.result.now ≡ c.index_mut.result.now = search rules in
    taken_if (λ q. q.items) c.args.queues.now.items c.args.k c.index_mut.result.now c.pop_front.new.self c.pop_front.result c.requires
    (ap (λ q. q.items) here ∙ c.pop_front.ensures.items)

pub returns-clause-none : goal.returns-clause-none
returns-clause-none g c =
    let here : slice_index_or c.args.queues.now.items c.args.k c.index_mut.result.now ≡ c.index_mut.result.now = search rules in
    let empty : IfNone c.pop_front.result (c.pop_front.new.self.items ≡ []) = search rules in
    none_if (λ q. q.items) c.args.queues.now.items c.args.k c.index_mut.result.now c.pop_front.new.self c.pop_front.result c.requires
    (ap (λ q. q.items) here ∙ c.pop_front.ensures.items) empty
