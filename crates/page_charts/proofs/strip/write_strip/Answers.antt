use Rattle.std.proofs.Common.{rules, ◌≡◌, ◌++◌, string_bytes}
use Rattle.std.specs.Prelude.{codes, flat_map}
use Rattle.page_charts.specs.Strips as spec
use Rattle.page_charts.specs.declared.strip.TheConstants.{LEVELS}
use Rattle.page_curves.proofs.Texts.{pushed, three}
use Rattle.page_charts.proofs.strip.write_strip.Goals as goal

pub returns : goal.returns
unfolding spec.strip
returns c =
    let levels : string_bytes c.write_levels.new.text ≡ string_bytes c.push_str.new.self
    ++ flat_map (spec.level_path c.args.frame.now c.args.entry.now) LEVELS = search rules in
    three c.push_str-2.result (string_bytes c.args.text.now) (string_bytes c.push_str.new.self) (string_bytes c.write_levels.new.text)
    (string_bytes c.push_str-2.new.self)
    (codes "<td><svg class=\"strip\" viewBox=\"0 0 4000 10\" preserveAspectRatio=\"none\" role=\"img\" aria-label=\"fullness over time\">")
    (flat_map (spec.level_path c.args.frame.now c.args.entry.now) LEVELS) (codes "</svg>\n")
    c.in_ok-push_str.ensures.bytes levels
    (pushed c.push_str-2.result (string_bytes c.write_levels.new.text) (string_bytes c.push_str-2.new.self) (codes "</svg>\n") c.push_str-2.ensures.bytes)
