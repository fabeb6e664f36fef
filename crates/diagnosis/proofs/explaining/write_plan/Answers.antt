use Rattle.std.proofs.Common.{◌≡◌, ◌++◌, List, OnOk, string_bytes, subst, sym, ℕ}
use Rattle.diagnosis.proofs.Explained.{of_bad_line, of_plan}
use Rattle.diagnosis.proofs.explaining.write_plan.Goals as goal

pub returns-in-Ok : goal.returns-in-Ok
returns-in-Ok c = subst (λ (x : List ℕ). OnOk c.write_served.result (string_bytes c.write_served.new.text ≡ string_bytes c.args.text.now ++ x))
    (of_plan c.args.description c.args.plan.now c.in-Ok.plan _ c.in-Ok.ensures.read) c.write_served.ensures

pub returns-in-Err-Line : goal.returns-in-Err-Line
returns-in-Err-Line c = subst (λ (x : List ℕ). OnOk c.write_bad_line.result (string_bytes c.write_bad_line.new.text ≡ string_bytes c.args.text.now ++ x))
    (of_bad_line c.args.description c.args.plan.now c.in-Err-Line.field-0 c.in-Err-Line.line _ c.in-Err-Line.field-0-is (sym c.in-Err-Line.line-is)
    c.in-Err-Line.ensures.refused) c.write_bad_line.ensures
