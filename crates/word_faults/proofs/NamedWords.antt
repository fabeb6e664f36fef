-- A fault names words that are present: the faults of one word, and then all faults.
use Rattle.std.proofs.Common.{◌≡◌, if◌then◌else◌, ◌<◌, ◌||◌, Bool, true, false, not, List, [], ◌∷◌, ◌++◌, length, Option, Some, None, inl, inr, refl, arith}
use Rattle.std.proofs.Common.{append_assoc, length-append, subst}
use Rattle.std.specs.Prelude.{IfSome}
use Rattle.std.proofs.lemmas.Bool.{cases_Bool}
use Rattle.word_faults.specs.CommandLine.{CommandLine, Text}
use Rattle.word_faults.specs.WordFaults.{alone_reason, fault_from, fault_or, files_reason, is_alone, is_dashed, is_file_mark, is_given, is_help, known_reason}
use Rattle.word_faults.specs.WordFaults.{missing, next_reason, option_in, option_reason, otherwise, reason_at, value_in, value_reason, wants_value, word_reason}
use Rattle.word_faults.specs.NamedWords.{FaultsNameWords, NamesWords}
use Rattle.word_faults.specs.declared.word_fault.WordFault.{WordFault}
use Rattle.word_faults.specs.declared.word_fault.Reason.{Reason}
use Rattle.word_faults.specs.declared.word_fault.Reason.TheVariants.{Unknown, Twice, NoValue, BadValue, BadNextWord, Alone, Apart, Missing, Help}

-- The words that may follow a word, by the reason of the fault
unfoldable Reaches : List Text → Reason → Type 0
Reaches rest Unknown = Unit {0}
Reaches rest Twice = Unit {0}
Reaches rest NoValue = Unit {0}
Reaches rest BadValue = Unit {0}
Reaches rest BadNextWord = 0 < length rest
Reaches rest Alone = Unit {0}
Reaches rest Apart = Unit {0}
Reaches rest Missing = ⊥
Reaches rest Help = Unit {0}

abbrev May : List Text → Option Reason → Type 0
May rest r = IfSome r (Reaches rest)

by_case : (rest : List Text) (b : Bool) (r s : Option Reason) → May rest r → May rest s → May rest (if b then r else s)
by_case rest true r s h k = h
by_case rest false r s h k = k

next_may : (c : CommandLine) (option : Text) (rest : List Text) → May rest (next_reason c option rest)
unfolding Reaches
next_may c option [] = tt
next_may c option (v ∷ rest) =
    by_case (v ∷ rest) (is_dashed v) (Some NoValue) _ tt (by_case (v ∷ rest) (c.reads option v) None (Some BadNextWord) tt (omega arith))

value_may : (c : CommandLine) (option : Text) (value : Option Text) (rest : List Text) → May rest (value_reason c option value rest)
unfolding Reaches
value_may c option (Some v) rest = by_case rest (c.reads option v) None (Some BadValue) tt tt
value_may c option None rest = next_may c option rest

known_may : (c : CommandLine) (takes : Bool) (option : Text) (value : Option Text) (rest : List Text) → May rest (known_reason c takes option value rest)
unfolding Reaches
known_may c true option value rest = value_may c option value rest
known_may c false option (Some v) rest = tt
known_may c false option None rest = tt

option_may : (c : CommandLine) (takes : Option Bool) (before : List Text) (option : Text) (value : Option Text) (rest : List Text) →
    May rest (option_reason c takes before option value rest)
unfolding Reaches
option_may c None before option value rest = tt
option_may c (Some takes) before option value rest =
    by_case rest (is_given option before) (Some Twice) _ tt
    (by_case rest (is_given (c.apart option) before) (Some Apart) _ tt (known_may c takes option value rest))

at_may : (c : CommandLine) (has_word : Bool) (before : List Text) (w : Text) (rest : List Text) → May rest (reason_at c has_word before w rest)
unfolding Reaches
at_may c has_word before w rest =
    by_case rest (is_help w) (Some Help) _ tt
    (by_case rest (is_alone c w) (alone_reason before rest) _ (by_case rest _ None (Some Alone) tt tt)
    (by_case rest (is_file_mark c w) (files_reason rest) _ (by_case rest _ (Some NoValue) None tt tt)
    (by_case rest (is_dashed w) _ (word_reason c has_word w) (option_may c (c.takes_value (option_in w)) before (option_in w) (value_in w) rest)
    (by_case rest _ None (Some Unknown) tt tt))))

-- The word at this place
there : (c : CommandLine) (before rest : List Text) (w : Text) (r : Reason) → Reaches rest r → NamesWords c (before ++ w ∷ rest) (length before) r
unfolding Reaches NamesWords
there c before rest w Unknown h = rw length-append (omega arith)
there c before rest w Twice h = rw length-append (omega arith)
there c before rest w NoValue h = rw length-append (omega arith)
there c before rest w BadValue h = rw length-append (omega arith)
there c before rest w BadNextWord h = rw length-append (omega (arith, h))
there c before rest w Alone h = rw length-append (omega arith)
there c before rest w Apart h = rw length-append (omega arith)
there c before rest w Missing h = absurd h
there c before rest w Help h = rw length-append (omega arith)

abbrev Named : CommandLine → List Text → Option WordFault → Type 0
Named c words fault = IfSome fault (λ f. NamesWords c words f.place f.reason)

first_or : (c : CommandLine) (before rest : List Text) (w : Text) (r : Option Reason) (later : Option WordFault) → May rest r →
    Named c (before ++ w ∷ rest) later → Named c (before ++ w ∷ rest) (fault_or (length before) r later)
first_or c before rest w None later h k = k
first_or c before rest w (Some r) later h k = there c before rest w r h

unless : (c : CommandLine) (words : List Text) (b : Bool) (later : Option WordFault) → Named c words later → Named c words (if b then None else later)
unless c words true later h = tt
unless c words false later h = h

from : (c : CommandLine) (before : List Text) (has_word is_value : Bool) (rest : List Text) →
    Named c (before ++ rest) (fault_from c before has_word is_value rest)
unfolding fault_from
from c before has_word true [] = tt
from c before has_word false [] = tt
from c before has_word true (w ∷ rest) =
    subst (λ (words : List Text). Named c words (fault_from c (before ++ w ∷ []) has_word false rest)) (append_assoc before (w ∷ []) rest)
    (from c (before ++ w ∷ []) has_word false rest)
from c before has_word false (w ∷ rest) =
    let later = fault_from c (before ++ w ∷ []) (has_word || not (is_dashed w)) (wants_value c w) rest in
    first_or c before rest w (reason_at c has_word before w rest) _ (at_may c has_word before w rest)
    (unless c (before ++ w ∷ rest) (is_file_mark c w) later
    (subst (λ (words : List Text). Named c words later) (append_assoc before (w ∷ []) rest)
    (from c (before ++ w ∷ []) (has_word || not (is_dashed w)) (wants_value c w) rest)))

-- The required option
lacks : (c : CommandLine) (required : Option Text) (words : List Text) → c.required ≡ required → Named c words (missing required words)
unfolding NamesWords
lacks c None words e = tt
lacks c (Some option) words e = elim (cases_Bool (is_given option words)) [
  | inl g ↦ rw g tt
  | inr g ↦ rw g (option, e, g)
]

either : (c : CommandLine) (words : List Text) (first later : Option WordFault) → Named c words first → Named c words later →
    Named c words (otherwise first later)
either c words None later h k = k
either c words (Some f) later h k = h

pub named : FaultsNameWords
named c words = either c words (fault_from c [] false false words) (missing c.required words) (from c [] false false words) (lacks c c.required words refl)
