use Rattle.std.proofs.Common.{◌≡◌, ◌∙◌, ap, rules}
use Rattle.es_moments.specs.MadeDts.{in_order}
use Rattle.es_moments.proofs.TimeOrder.{order_is}
use Rattle.es_moments.proofs.moments.in_order.Goals as goal

pub returns : goal.returns
returns g c =
    let copied : c.in_ok-order.order.items ≡ c.args.moments.now = search rules in
    order_is c.in_ok-order.order.items c.sort.new.self.items c.sort.ensures.permutation c.in_ok-sort.ensures.sorted ∙ ap in_order copied
