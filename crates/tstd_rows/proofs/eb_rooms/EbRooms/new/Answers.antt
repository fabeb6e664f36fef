use Rattle.std.proofs.Common.{◌∙◌, List, ap}
use Rattle.tstd.specs.declared.buffered_units.BufferedUnit.{BufferedUnit}
use Rattle.tstd_rows.specs.RoomTimes.{rooms_in}
use Rattle.tstd_rows.proofs.RoomRows.{all_free, fits_free}
use Rattle.tstd_rows.proofs.eb_rooms.EbRooms.new.Goals as goal

pub invariant_of-result : goal.invariant_of-result
invariant_of-result c = record { few = fits_free c.args.size c.new.result.items c.new.ensures.items c.ranges.size.fits }

pub returns-clause-rooms : goal.returns-clause-rooms
returns-clause-rooms c =
    ap (λ (us : List BufferedUnit). rooms_in c.args.size us (record { until = 0; bytes = 0 })) c.new.ensures.items ∙ all_free c.args.size
