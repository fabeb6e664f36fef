use Rattle.std.proofs.Common.{◌∙◌, ◌++◌, List, ℕ, ap, map, string_bytes}
use Rattle.job_run.specs.InputLines.{name_of}
use Rattle.job_run.specs.SeveralInputs.{under}
use Rattle.job_run.specs.StreamFiles.{TakenView, taken_lines}
use Rattle.job_run.proofs.StreamFiles.{taken_more, taken_whole}
use Rattle.job_run.proofs.files_outcome.write_taken.Goals as goal

pub loop-number-preserved : goal.loop-number-preserved
loop-number-preserved c =
    let names = map (λ s. s.now) c.args.names.now in
    let text = string_bytes c.loop-number.text in
    taken_more names c.args.taken.now c.loop-number.number c.index-taken-number.result text (string_bytes c.write_under.new.text)
    (string_bytes c.args.text.now ++ taken_lines names 0 c.args.taken.now) c.loop-number-test.true c.index-taken-number.is
    (c.in_ok-write_under.ensures ∙ ap (λ (n : List ℕ). text ++ under c.loop-number.number n c.as_str.result.now) c.name_at.ensures
    ∙ ap (λ (l : List ℕ). text ++ under c.loop-number.number (name_of names c.loop-number.number) l)
    (c.as_str.ensures.value ∙ ap (λ (t : TakenView). t.lines) c.one.view_is))
    c.loop-number.invariant

pub returns : goal.returns
returns c =
    let names = map (λ s. s.now) c.args.names.now in
    taken_whole names c.args.taken.now c.loop-number.number (string_bytes c.loop-number.text)
    (string_bytes c.args.text.now ++ taken_lines names 0 c.args.taken.now) c.loop-number-test.false c.loop-number.invariant
