use Rattle.std.proofs.Common.{string_bytes}
use Rattle.std.specs.Prelude.{codes}
use Rattle.page_curves.proofs.Texts.{pushed, three}
use Rattle.plan_page.specs.ItemRows.{share}
use Rattle.plan_page.specs.PageText as spec
use Rattle.plan_page.proofs.page_text.write_null_words.Goals as goal

pub returns : goal.returns
unfolding spec.null_words
returns c = three c.push_str.result (string_bytes c.args.text.now) (string_bytes c.write_count_words.new.text) (string_bytes c.write_share.new.text)
    (string_bytes c.push_str.new.self)
    (spec.count_words c.args.count) (share c.args.count c.args.all) (codes " %, are null packets.</p>\n")
    c.in_ok-write_count_words.ensures c.in_ok-write_share.ensures
    (pushed c.push_str.result (string_bytes c.write_share.new.text) (string_bytes c.push_str.new.self) (codes " %, are null packets.</p>\n")
    c.push_str.ensures.bytes)
