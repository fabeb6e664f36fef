use Rattle.std.proofs.Common.{◌≡◌, ◌++◌, List, OnOk, string_bytes, subst, ℕ}
use Rattle.diagnosis.proofs.Explained.{named_text, unnamed_bytes}
use Rattle.diagnosis.proofs.unknown_words.write_word.Goals as goal

pub returns-in-Ok : goal.returns-in-Ok
returns-in-Ok c = subst (λ (x : List ℕ). OnOk c.write_named.result (string_bytes c.write_named.new.text ≡ string_bytes c.args.text.now ++ x))
    (named_text c.args.part c.args.word.now c.in-Ok.word.now c.in-Ok.ensures.cases.0 c.in-Ok.ensures.cases.1) c.write_named.ensures

pub returns-in-Err : goal.returns-in-Err
returns-in-Err c = subst (λ (x : List ℕ). OnOk c.write_unnamed.result (string_bytes c.write_unnamed.new.text ≡ string_bytes c.args.text.now ++ x))
    (unnamed_bytes c.args.part c.args.word.now c.in-Err.ensures.cases.0) c.write_unnamed.ensures
