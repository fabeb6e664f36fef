use Rattle.view_page.specs.Values.{with_inaccuracy}
use Rattle.view_page.proofs.values.Values.take_places.Goals as goal

pub returns : goal.returns
returns c = λ kept a.
    c.take_drift.ensures (with_inaccuracy kept c.args.name c.args.clock.now) (c.in_ok-take_inaccuracy.ensures kept a)
