use Rattle.std.proofs.Common.{◌≡◌, ◌∙◌, refl, sym, true, false, rules}
use Rattle.tsremux_cli.proofs.Remuxed.{failed_then, stopped, whole}
use Rattle.tsremux_cli.proofs.remuxing.remux.Goals as goal

pub returns-then-not-is_job : goal.returns-then-not-is_job
returns-then-not-is_job g c =
    let no : c.is_job.result ≡ false = search rules in
    stopped _ _ _ _ _ _ _ _ c.make_job-made.ensures (sym c.is_job.ensures ∙ no) refl

pub returns-in-Ok : goal.returns-in-Ok
returns-in-Ok g c =
    let yes : c.is_job.result ≡ true = search rules in
    let same : c.as_slice.result.now ≡ c.make_job-made.result.bytes.items = search rules in
    whole _ _ _ _ _ _ _ _ _ _ _ c.make_job-made.ensures (sym c.is_job.ensures ∙ yes) same c.in-Ok.ensures

pub returns : goal.returns
returns g c =
    let yes : c.is_job.result ≡ true = search rules in
    let same : c.as_slice.result.now ≡ c.make_job-made.result.bytes.items = search rules in
    failed_then _ _ _ _ _ _ _ _ _ _ _ c.make_job-made.ensures (sym c.is_job.ensures ∙ yes) same c.in-Err.ensures
