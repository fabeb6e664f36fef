-- What a program knows of its command line.
use Rattle.std.specs.Prelude.{ℕ, Bool, List, Option}

abbrev pub Text : Type 0
Text = List ℕ

-- whether a value follows an option, by its name with both hyphens (none if there is no such option); the values that an option takes; words beside options,
-- and `--` if names of files may follow it; words that allow no other word; the option that has to be given, if any; the option that an option excludes (empty:
-- no option); the line that says what an option takes; and the known word that an unknown word may mean
pub record CommandLine : Type 0 where
  pub takes_value : Text → Option Bool
  pub reads : Text → Text → Bool
  pub is_word : Text → Bool
  pub must_be_alone : Text → Bool
  pub required : Option Text
  pub apart : Text → Text
  pub takes : Text → Text
  pub near : Text → Option Text
