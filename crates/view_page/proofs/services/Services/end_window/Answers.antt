use Rattle.std.proofs.Common.{◌≡◌, subst}
use Rattle.view_page.specs.Services.{AreServiceCurves, settled_all}
use Rattle.view_page.proofs.Events.{on_ok}
use Rattle.view_page.proofs.services.Services.end_window.Goals as goal

pub returns : goal.returns
returns c = λ kept a.
    let s = c.args.self.now in
    let same : settled_all s.number s.programs.entries kept.curves ≡ settled_all kept.number kept.programs kept.curves = cc (a.number, a.programs) in
    on_ok c.settle.result (λ are. record { number = a.number; programs = a.programs; curves = subst (AreServiceCurves c.settle.new.curves) same are })
    (c.settle.ensures kept.curves a.curves)
