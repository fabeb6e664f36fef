use Rattle.std.proofs.Common.{string_bytes}
use Rattle.std.specs.Prelude.{codes}
use Rattle.page_curves.specs.Paths.{numbered}
use Rattle.page_charts.specs.Stacks as spec
use Rattle.page_curves.proofs.Texts.{pushed, three}
use Rattle.page_charts.proofs.stack.write_keys.Goals as goal

pub returns : goal.returns
unfolding spec.keys
returns c = three c.push_str-2.result (string_bytes c.args.text.now) (string_bytes c.push_str.new.self) (string_bytes c.write_each_key.new.text)
    (string_bytes c.push_str-2.new.self)
    (codes "<p class=\"key\">") (numbered (spec.key c.args.labels.now) 0 c.args.curves.now) (codes "</p>\n")
    c.in_ok-push_str.ensures.bytes c.in_ok-write_each_key.ensures
    (pushed c.push_str-2.result (string_bytes c.write_each_key.new.text) (string_bytes c.push_str-2.new.self) (codes "</p>\n") c.push_str-2.ensures.bytes)
