use Rattle.std.proofs.Common.{refl}
use Rattle.tstd_rows.proofs.Views.{unit_begun}
use Rattle.tstd_rows.proofs.viewed_buffers.StreamView.begin.Goals as goal

pub returns-clause-view : goal.returns-clause-view
returns-clause-view g c = λ parts v.
    unit_begun c.args.self.now _ parts c.args.due v refl refl c.in-Ok.ensures.there c.in-Ok.ensures.peak c.in-Ok.ensures.until refl
