use Rattle.std.proofs.Common.{◌==◌, ◌||◌, ◌∙◌, not, Option, ap, is_some}
use Rattle.packet_sync.specs.NoStreams.{searched}
use Rattle.packet_sync.specs.declared.file_form.FileForm.{FileForm}
use Rattle.job_run.proofs.reading.has_ended.Goals as goal

pub returns : goal.returns
returns c = λ bytes so.
    c.is_over.ensures ∙ ap (λ (w : Option FileForm). not (c.args.size == searched) || is_some w) (c.no_stream.ensures bytes so)
