-- A fault names words that are really there.
use Rattle.std.specs.Prelude.{◌≡◌, ◌+◌, ◌<◌, ℕ, false, List, length, Some, IfSome}
use Rattle.word_faults.specs.CommandLine.{CommandLine, Text}
use Rattle.word_faults.specs.WordFaults.{first_fault, is_given}
use Rattle.word_faults.specs.declared.word_fault.Reason.{Reason}
use Rattle.word_faults.specs.declared.word_fault.Reason.TheVariants.{Unknown, Twice, NoValue, BadValue, BadNextWord, Alone, Apart, Missing, Help}

-- the option that has to be given, and is not
abbrev pub IsMissing : CommandLine → List Text → Type 0
IsMissing c words = (option : Text) × (c.required ≡ Some option) × (is_given option words ≡ false)

-- the word at this place is among the words, and so is the next word if the line names it; a missing option is not among the words
unfoldable pub NamesWords : CommandLine → List Text → ℕ → Reason → Type 0
NamesWords c words place Unknown = place < length words
NamesWords c words place Twice = place < length words
NamesWords c words place NoValue = place < length words
NamesWords c words place BadValue = place < length words
NamesWords c words place BadNextWord = place + 1 < length words
NamesWords c words place Alone = place < length words
NamesWords c words place Apart = place < length words
NamesWords c words place Missing = IsMissing c words
NamesWords c words place Help = place < length words

-- for all words, and whatever a program knows of them
abbrev pub FaultsNameWords : Type 0
FaultsNameWords = (c : CommandLine) (words : List Text) → IfSome (first_fault c words) (λ f. NamesWords c words f.place f.reason)
