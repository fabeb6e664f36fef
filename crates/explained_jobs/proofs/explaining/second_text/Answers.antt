use Rattle.std.proofs.Common.{◌≡◌, ◌==◌, length, rules, string_bytes, true}
use Rattle.explained_jobs.proofs.Explained.{second_after}
use Rattle.explained_jobs.proofs.explaining.second_text.Goals as goal

pub returns : goal.returns
returns c =
    let none : (length (string_bytes c.in_ok-words.words) == 0) ≡ true = search rules in
    second_after c.args.bytes.now c.args.rest.now (string_bytes c.in_ok-words.words) (string_bytes c.in_ok-text.text) c.in_ok-words.ensures none
    c.in_ok-text.ensures
