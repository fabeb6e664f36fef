use Rattle.std.proofs.Common.{refl, ap}
use Rattle.tstd_rows.specs.declared.excess.ExcessWatch.{ExcessWatch}
use Rattle.tstd_rows.proofs.Views.{nothing}
use Rattle.tstd_rows.proofs.viewed_buffers.StreamView.new.Goals as goal

pub returns-clause-view : goal.returns-clause-view
returns-clause-view g c =
    nothing _ c.args.step c.new.ensures.empty (ap (λ (w : ExcessWatch). w.under_way) c.new-2.ensures) c.new-3.ensures.empty c.new-3.ensures.peak
    c.new-3.ensures.until refl
