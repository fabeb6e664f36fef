use Rattle.std.proofs.Common.{arith}
use Rattle.es_view.proofs.MainNow.{all_fewer, one_fewer}
use Rattle.es_view.proofs.main_now.sum_at.Goals as goal

pub overflow_add-result : goal.overflow_add-result
overflow_add-result c =
    omega (arith, c.all_at.ensures, c.bytes_at.ensures, all_fewer c.args.moment c.args.units.now, one_fewer c.args.moment c.args.current.now, c.requires)
