use Rattle.std.proofs.Common.{◌≡◌, subst}
use Rattle.std.specs.Prelude.{OnOk}
use Rattle.events.specs.declared.pid_name.PidName.{PidName}
use Rattle.view_page.specs.Values.{AreValues, name_of, with_interval, with_places}
use Rattle.view_page.proofs.values.Values.take_figures.Goals as goal

pub returns : goal.returns
returns c = λ kept a.
    let e = c.args.clock.now in
    let name : c.name_of-name.result ≡ name_of kept e.pid = c.name_of-name.ensures kept a in
    subst (λ (n : PidName). OnOk c.take_places.result (AreValues c.take_places.new.self (with_places (with_interval kept n e) n e))) name
    (c.take_places.ensures (with_interval kept c.name_of-name.result e) (c.in_ok-take_interval.ensures kept a))
