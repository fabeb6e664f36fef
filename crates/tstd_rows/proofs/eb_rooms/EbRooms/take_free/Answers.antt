use Rattle.std.proofs.Common.{◌∙◌}
use Rattle.tstd_rows.proofs.RoomRows.{free_taken}
use Rattle.tstd_rows.proofs.eb_rooms.EbRooms.take_free.Goals as goal

pub returns-clause-last : goal.returns-clause-last
returns-clause-last c = c.gone-self.ensures ∙ free_taken c.args.leak c.args.self.now.last c.args.count c.args.self.now.free c.min-free.result c.min-free.ensures
