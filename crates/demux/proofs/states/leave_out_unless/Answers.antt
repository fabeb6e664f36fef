use Rattle.std.proofs.Common.{◌∙◌, ap, slice_get, sym}
use Rattle.demux.specs.KeptBodies.{is_kept}
use Rattle.demux.proofs.KeptStates.{is_there}
use Rattle.demux.proofs.states.leave_out_unless.Goals as goal

pub returns-else-not-is_kept_at : goal.returns-else-not-is_kept_at
returns-else-not-is_kept_at g c = record {
  states = λ entry at. is_there (is_kept c.args.kept.now entry.0) c.args.states.now.entries c.args.index entry
      (sym (c.if-not-is_kept_at.ensures entry (ap (λ m. slice_get m.entries c.args.index) c.entries.ensures ∙ at))) at;
}
