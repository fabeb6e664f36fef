-- What a program knows of its command line, by its table of options.
use Rattle.std.specs.Prelude.{◌&&◌, ◌||◌, Bool, false, not, if◌then◌else◌, List, [], ◌∷◌, ◌++◌, Option, Some, None, codes, flat_map, map, option_map}
use Rattle.std.specs.List.{list_any}
use Rattle.std.specs.Str.{bytes_eq}
use Rattle.word_faults.specs.CommandLine.{CommandLine, Text}
use Rattle.word_faults.specs.Hints.{nearest, takes_line}
use Rattle.word_faults.specs.OptionRows.{OptionRow, apart_of, is_alone, kind_of, reads, takes_value, view}
use Rattle.word_faults.specs.declared.option_row.ValueKind.{ValueKind}
use Rattle.word_faults.specs.declared.option_row.ValueKind.TheVariants.{Word}
use Rattle.word_faults.specs.declared.known_words.KnownWords.{KnownWords}

abbrev pub is_among : List Text → Text → Bool
is_among words word = list_any (λ known. bytes_eq known word) words

-- the value of the option of a word, except the barred option
abbrev pub kind_but : Option Text → List OptionRow → Text → Option ValueKind
kind_but None rows word = kind_of rows word
kind_but (Some barred) rows word = if bytes_eq barred word then None else kind_of rows word

-- the words that an unknown word may mean: the options except the barred one, the words beside options, the words that allow no other
abbrev pub unless_barred : Option Text → Text → List Text
unless_barred None word = word ∷ []
unless_barred (Some barred) word = if bytes_eq barred word then [] else word ∷ []

abbrev pub word_by : Option Text → ValueKind → Text → List Text
word_by barred Word name = []
word_by barred kind name = unless_barred barred (codes "--" ++ name)

abbrev pub word_of : Option Text → OptionRow → List Text
word_of barred row = word_by barred row.value row.name

unfoldable pub meant_words : Option Text → List OptionRow → List Text → List Text → List Text
meant_words barred rows words alone = flat_map (word_of barred) rows ++ (words ++ alone)

-- a word that may be the name of a file
abbrev pub is_name : Bool → Text → Bool
is_name names word = names && not (bytes_eq word (codes "--"))

-- a command line by the options of a table except the barred one; whether the name of a file is allowed beside them, the words that are, the words that allow
-- no other word, and the word of the option that has to be given
abbrev pub known_with : Bool → Option Text → List OptionRow → List Text → List Text → Option Text → CommandLine
known_with names barred rows words alone required = record {
  takes_value = λ option. takes_value (kind_but barred rows option);
  reads = λ option value. reads (kind_but barred rows option) value;
  is_word = λ word. is_name names word || is_among words word;
  must_be_alone = λ word. is_among alone word || is_alone (kind_but barred rows word);
  required = required;
  apart = λ option. apart_of rows option;
  takes = λ option. takes_line rows option;
  near = λ word. nearest (meant_words barred rows words alone) word;
}

-- the same if no name of a file is allowed
abbrev pub known_but : Option Text → List OptionRow → List Text → List Text → Option Text → CommandLine
known_but barred rows words alone required = known_with false barred rows words alone required

-- the same if no option is barred
abbrev pub known_by : List OptionRow → List Text → List Text → Option Text → CommandLine
known_by rows words alone required = known_but None rows words alone required

abbrev pub known_of : KnownWords → CommandLine
known_of known = known_with known.names (option_map (λ s. s.now) known.barred) (map view known.options.now) (map (λ s. s.now) known.words.now)
    (map (λ s. s.now) known.alone.now) (option_map (λ s. s.now) known.required)
