use Rattle.arrival.specs.Rows.{times_of}
use Rattle.tstd_rows.proofs.VideoViews.{row_found}
use Rattle.tstd_rows.proofs.Views.{bytes_more}
use Rattle.tstd_rows.proofs.viewed_buffers.StreamView.leak_row.Goals as goal

pub returns-clause-elementary : goal.returns-clause-elementary
returns-clause-elementary g c =
    λ parts v. row_found c.args.self.now parts (times_of c.args.row.now) c.carry-carried.result.found.main v c.args.self.now.paced.some
    c.carry-carried.ensures.main

pub returns-clause-bytes : goal.returns-clause-bytes
returns-clause-bytes g c = bytes_more c.args.self.now.transport c.carry-carried.new.self.transport c.args.row.now c.carry-carried.ensures.buffer
