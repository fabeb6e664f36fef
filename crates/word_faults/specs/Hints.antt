-- What to type in place of a word that cannot be taken.
use Rattle.std.specs.Prelude.{ℕ, ◌/◌, Bool, true, false, nat_le, nat_lt, if◌then◌else◌, List, [], ◌∷◌, ◌++◌, length, Option, Some, None, codes}
use Rattle.std.specs.Str.{chars}
use Rattle.strsim.specs.Edits.{osa_table}
use Rattle.devices.specs.Usage.{range_text}
use Rattle.word_faults.specs.CommandLine.{Text}
use Rattle.word_faults.specs.OptionRows.{OptionRow, row_of}
use Rattle.word_faults.specs.OptionUsage.{value_text}
use Rattle.word_faults.specs.declared.option_row.ValueKind.{ValueKind}
use Rattle.word_faults.specs.declared.option_row.ValueKind.TheVariants.{Flag, Alone, Word, Numbers}

-- 1. What an option takes

-- its range or its form, after a space; for a list the range of each number
unfoldable pub taken_text : ValueKind → Text → Text
taken_text Flag form = codes " no value"
taken_text Alone form = codes " no value"
taken_text Word form = codes " no value"
taken_text (Numbers greatest) form = codes " " ++ (form ++ (codes ", each " ++ range_text 0 greatest))
taken_text kind form = value_text kind form

-- the unit of its numbers, and the end of the line
unfoldable pub unit_text : Text → Text
unit_text [] = codes "\n"
unit_text (b ∷ unit) = codes ", in " ++ ((b ∷ unit) ++ codes "\n")

unfoldable pub takes_by : Text → Option OptionRow → Text
takes_by word None = []
takes_by word (Some row) = word ++ (codes " takes" ++ (taken_text row.value row.form ++ unit_text row.unit))

-- nothing if there is no option of this word
abbrev pub takes_line : List OptionRow → Text → Text
takes_line rows word = takes_by word (row_of rows word)

-- 2. The word that may be meant

-- how many edits turn a word into another: a character is put in, left out or replaced, or two neighbours are exchanged
abbrev pub edits_of : Text → Text → ℕ
edits_of word other = (osa_table (chars word) (chars other)).last_row (length (chars other))

-- a typing error: at most an edit for each three bytes
abbrev pub is_near : Text → Text → Bool
is_near word other = nat_le (edits_of word other) (length word / 3)

-- the nearer of two words, the first word if both are as near
unfoldable pub nearer : Text → Option Text → Text → Option Text
nearer word None other = if is_near word other then Some other else None
nearer word (Some best) other = if nat_lt (edits_of word other) (edits_of word best) then Some other else Some best

unfoldable pub nearest_from : Text → Option Text → List Text → Option Text
nearest_from word best [] = best
nearest_from word best (other ∷ others) = nearest_from word (nearer word best other) others

abbrev pub nearest : List Text → Text → Option Text
nearest others word = nearest_from word None others

-- a near word; otherwise, if names of files may follow `--`, the word itself as the name of a file
unfoldable pub meant_line : Option Text → Bool → Text → Text
meant_line (Some other) files word = codes "did you mean " ++ (other ++ codes "?\n")
meant_line None true word = codes "did you mean -- " ++ (word ++ codes "?\n")
meant_line None false word = []
