use Rattle.std.proofs.Common.{refl}
use Rattle.std.specs.Str.{bytes_eq}
use Rattle.word_faults.specs.Commands.{long_word, short_view}
use Rattle.word_faults.proofs.Found.{find_mapped}
use Rattle.word_faults.proofs.commands.long_word.Goals as goal

pub returns-in-Some : goal.returns-in-Some
unfolding long_word
returns-in-Some c = rw (find_mapped short_view (λ s. bytes_eq s.short c.args.word.now) c.args.shorts.now, ← c.short_of.ensures, c.in-Some.is) refl

pub returns-in-None : goal.returns-in-None
unfolding long_word
returns-in-None c = rw (find_mapped short_view (λ s. bytes_eq s.short c.args.word.now) c.args.shorts.now, ← c.short_of.ensures, c.in-None.is) refl
