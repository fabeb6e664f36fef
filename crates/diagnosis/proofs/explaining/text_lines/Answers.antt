use Rattle.std.proofs.Common.{◌≡◌, IfOk, List, map, subst, ℕ}
use Rattle.diagnosis.proofs.Explained.{lines_text, no_lines}
use Rattle.diagnosis.proofs.explaining.text_lines.Goals as goal

pub returns-in-Ok : goal.returns-in-Ok
returns-in-Ok c =
    subst (λ (x : List (List ℕ)). IfOk c.lines_of.result (λ lines. map (λ s. s.now) lines.items ≡ x))
    (lines_text c.args.bytes.now c.in-Ok.text.now c.in-Ok.ensures.cases.0 c.in-Ok.ensures.cases.1) c.lines_of.ensures

pub returns-in-Err : goal.returns-in-Err
returns-in-Err c = rw c.new.ensures.items (no_lines c.args.bytes.now c.in-Err.ensures.cases.0)
