use Rattle.std.proofs.Common.{◌∙◌, List, ap, sym}
use Rattle.std.specs.Prelude.{codes}
use Rattle.std.specs.List.{list_any}
use Rattle.std.specs.Str.{bytes_eq}
use Rattle.word_faults.specs.CommandLine.{Text}
use Rattle.word_faults.proofs.Found.{any_mapped}
use Rattle.tsremux_cli.proofs.words.is_quiet.Goals as goal

pub returns : goal.returns
returns c =
    c.have_quiet.ensures ∙ (sym (any_mapped (λ s. s.now) (λ word. bytes_eq word (codes "--quiet")) c.option_words.result.now)
    ∙ ap (λ (words : List Text). list_any (λ word. bytes_eq word (codes "--quiet")) words) c.option_words.ensures)
