use Rattle.std.proofs.Common.{◌≡◌, ◌∙◌, ◌++◌, ℕ, ap, string_bytes}
use Rattle.std.specs.Prelude.{codes}
use Rattle.page_curves.proofs.Texts.{pushed, three}
use Rattle.plan_page.specs.Lanes.{millis, time_of}
use Rattle.plan_page.specs.PageText as spec
use Rattle.plan_page.proofs.page_text.write_period_words.Goals as goal

pub returns : goal.returns
unfolding spec.period_words
returns c =
    let time : string_bytes c.write_millis.new.text ≡ string_bytes c.write_rate_words.new.text ++ millis (time_of c.args.count c.args.rate) =
    c.in_ok-write_millis.ensures ∙ ap (λ (t : ℕ). string_bytes c.write_rate_words.new.text ++ millis t) c.time_of.ensures in
    three c.push_str.result (string_bytes c.args.text.now) (string_bytes c.write_rate_words.new.text) (string_bytes c.write_millis.new.text)
    (string_bytes c.push_str.new.self)
    (spec.rate_words c.args.rate c.args.count) (millis (time_of c.args.count c.args.rate)) (codes " ms. ")
    c.in_ok-write_rate_words.ensures time
    (pushed c.push_str.result (string_bytes c.write_millis.new.text) (string_bytes c.push_str.new.self) (codes " ms. ") c.push_str.ensures.bytes)
