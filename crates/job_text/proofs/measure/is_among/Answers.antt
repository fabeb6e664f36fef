use Rattle.std.proofs.Common.{sym, ◌∙◌, bytes_eq}
use Rattle.job_text.proofs.NoteLines.{any_of_mapped}
use Rattle.job_text.proofs.measure.is_among.Goals as goal

pub returns : goal.returns
returns c = c.is_one_of.ensures ∙ sym (any_of_mapped (λ name. bytes_eq name c.args.key.now) (λ name. name.now) c.args.names.now)
