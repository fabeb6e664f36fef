use Rattle.std.proofs.Common.{sym, subst}
use Rattle.job_run.specs.Streams.{IsInner, ReadingView}
use Rattle.job_run.proofs.Readings.{unrefused}
use Rattle.job_run.proofs.reading.StreamReading.end.Goals as goal

pub returns : goal.returns
returns c = λ bytes so none.
    c.end.ensures bytes (subst (λ (r : ReadingView). IsInner bytes r.stream) (sym c.self.view_is) (so.so_far (unrefused bytes c.args.self so none)))
