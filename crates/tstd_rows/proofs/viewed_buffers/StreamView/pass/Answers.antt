use Rattle.std.proofs.Common.{refl}
use Rattle.arrival.specs.Rows.{times_of}
use Rattle.tstd_rows.proofs.Views.{passed}
use Rattle.tstd_rows.proofs.viewed_buffers.StreamView.pass.Goals as goal

pub returns-clause-view : goal.returns-clause-view
returns-clause-view g c = λ parts v.
    passed c.args.self.now _ parts (times_of c.args.row.now) v c.arrive.ensures.buffer c.arrive.ensures.arrived.under_way c.arrive.ensures.arrived.size refl
    refl

pub returns-clause-last : goal.returns-clause-last
returns-clause-last g c = λ latest low early. (c.arrive.ensures.soon latest low early).soon
