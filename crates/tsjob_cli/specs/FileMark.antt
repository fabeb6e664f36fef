-- The word `--`: names of files follow it.
use Rattle.std.specs.Prelude.{Bool, List, length, nat_lt, codes}
use Rattle.std.specs.List.{position_or_len}
use Rattle.std.specs.Str.{bytes_eq}
use Rattle.clap.specs.Words.{Text}

abbrev pub is_mark : Text → Bool
is_mark word = bytes_eq word (codes "--")

-- it is among these words
abbrev pub has_mark : List Text → Bool
has_mark words = nat_lt (position_or_len is_mark words) (length words)
