use Rattle.std.proofs.Common.{◌≡◌, ◌∙◌, ℕ, List, [], Some, ap, sym, rules}
use Rattle.tsjob_cli.proofs.MadeJobs.{made}
use Rattle.tsjob_cli.proofs.made_job.make_job.Goals as goal

pub returns : goal.returns
returns g c =
    let none : c.new.result.items ≡ [] = search rules in
    made _ _ _ _ _ _ _ (ap (λ v. Some v.items) c.new-job.ensures.inner ∙ ap (λ (xs : List ℕ). Some xs) none) (sym (ap (λ v. Some v.items) c.into_inner.ensures))
    (record {
      explain = c.run-status.ensures.explain;
      stream = c.run-status.ensures.job;
      units = c.run-status.ensures.stream;
      files_read =
          c.run-status.ensures.files;
      other = c.run-status.ensures.other;
    })
