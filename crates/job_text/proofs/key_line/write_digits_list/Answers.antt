use Rattle.std.proofs.Common.{◌≡◌, ◌∙◌, ◌++◌, ◌∷◌, List, ℕ, Vec, Global, OnOk, ap, codes, rules, string_bytes, subst}
use Rattle.std.specs.List.{flat_map}
use Rattle.hex.specs.Hex.{encode_lower}
use Rattle.toml_writer.specs.Text.{string_text}
use Rattle.job_text.specs.KeyLines.{next_digits}
use Rattle.job_text.proofs.FlatArrays.{digits_all}
use Rattle.job_text.proofs.key_line.write_digits_list.Goals as goal

pub returns-in-Some : goal.returns-in-Some
returns-in-Some c =
    let bytes_of = λ (b : Vec ℕ Global). b.items in
    let key = c.args.key.now in
    let others = flat_map (λ (b : Vec ℕ Global). next_digits b.items) c.in-Some.others.now ++ codes "]\n" in
    let all : c.args.parts.now ≡ c.in-Some.first.now ∷ c.in-Some.others.now = search rules in
    let first : c.deref.result.now ≡ c.in-Some.first.now.items = c.deref.ensures.value in
    let same = ap (λ (b : List ℕ). (key ++ (codes " = [" ++ string_text (encode_lower b))) ++ others) first
    ∙ digits_all bytes_of key c.in-Some.first.now c.in-Some.others.now c.args.parts.now all in
    subst (λ (t : List ℕ). OnOk c.write_digits_array.result (string_bytes c.write_digits_array.new.text ≡ string_bytes c.args.text.now ++ t)) same
    c.write_digits_array.ensures
