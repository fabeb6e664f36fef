use Rattle.std.proofs.Common.{refl}
use Rattle.std.specs.Str.{bytes_eq}
use Rattle.word_faults.specs.OptionRows.{kind_named, view}
use Rattle.word_faults.proofs.Found.{find_mapped}
use Rattle.word_faults.proofs.option_row.kind_named.Goals as goal

pub returns-in-Some : goal.returns-in-Some
unfolding kind_named
returns-in-Some c = rw (find_mapped view (λ row. bytes_eq row.name c.args.name.now) c.args.options.now, ← c.row_named.ensures, c.in-Some.is) refl

pub returns-in-None : goal.returns-in-None
unfolding kind_named
returns-in-None c = rw (find_mapped view (λ row. bytes_eq row.name c.args.name.now) c.args.options.now, ← c.row_named.ensures, c.in-None.is) refl
