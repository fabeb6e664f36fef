use Rattle.std.proofs.Common.{◌∙◌, sym}
use Rattle.stream_programs.proofs.NumberPairs.{held}
use Rattle.stream_programs.proofs.gathered.Gathered.note_taken.Goals as goal

pub note_shared-requires : goal.note_shared-requires
note_shared-requires g c = held c.args.self.now c.args.holder c.args.pcr_pid c.args.stream (sym c.can_share.ensures ∙ c.if-can_share.true)
