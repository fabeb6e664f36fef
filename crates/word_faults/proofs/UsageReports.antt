-- Reports for equal command lines or equal usage texts are equal.
use Rattle.std.proofs.Common.{◌≡◌, ◌∙◌, ◌++◌, ◌⊎◌, ℕ, Bool, true, false, List, Option, ap, subst, sym, inr}
use Rattle.devices.specs.Devices.{Device}
use Rattle.devices.specs.Runs.{LacksMemory}
use Rattle.devices.specs.Usage.{ReportsUsage}
use Rattle.word_faults.specs.CommandLine.{CommandLine, Text}
use Rattle.word_faults.specs.UsageReport.{AnswersWords, Prints, asks_version, fault_line, hint_line, is_help_fault, more_text, usage_report, version_text}
use Rattle.word_faults.specs.WordFaults.{first_fault}
use Rattle.word_faults.specs.declared.word_fault.WordFault.{WordFault}

pub of_usage : (program : Text) (c : CommandLine) (words : List Text) (usage text : Text) (input output faults : Device) (status : ℕ) → usage ≡ text →
    ReportsUsage (usage_report program c words usage) input output faults status ⊎ LacksMemory input output faults status →
    ReportsUsage (usage_report program c words text) input output faults status ⊎ LacksMemory input output faults status
of_usage program c words usage text input output faults status e t =
    subst (λ (u : Text). ReportsUsage (usage_report program c words u) input output faults status ⊎ LacksMemory input output faults status) e t

pub of_known : (program : Text) (c d : CommandLine) (words : List Text) (usage : Text) (input output faults : Device) (status : ℕ) → c ≡ d →
    ReportsUsage (usage_report program c words usage) input output faults status ⊎ LacksMemory input output faults status →
    ReportsUsage (usage_report program d words usage) input output faults status ⊎ LacksMemory input output faults status
of_known program c d words usage input output faults status e t =
    subst (λ (k : CommandLine). ReportsUsage (usage_report program k words usage) input output faults status ⊎ LacksMemory input output faults status) e t

-- The answers for a command line and a usage text are the answers for an equal command line and an equal text.
pub of_words : (program : Text) (c d : CommandLine) (words : List Text) (usage text : Text) (input output faults : Device) (status : ℕ) → c ≡ d → usage ≡ text →
    AnswersWords program c words usage input output faults status → AnswersWords program d words text input output faults status
of_words program c d words usage text input output faults status known is a =
    subst (λ (u : Text). AnswersWords program d words u input output faults status) is
    (subst (λ (k : CommandLine). AnswersWords program k words usage input output faults status) known a)

-- Running out of memory is an answer to any words.
pub of_memory : (program : Text) (c : CommandLine) (words : List Text) (usage : Text) (input output faults : Device) (status : ℕ) →
    LacksMemory input output faults status → AnswersWords program c words usage input output faults status
of_memory program c words usage input output faults status m = record {
  version = λ is. inr (inr m);
  help = λ none is. inr (inr m);
  fault = λ none other. inr m;
}

-- A text that equals a printed text is printed.
pub of_printed : (text shown : Text) (input output faults : Device) (status : ℕ) → text ≡ shown → Prints text input output faults status →
    Prints shown input output faults status
of_printed text shown input output faults status is p = subst (λ (t : Text). Prints t input output faults status) is p

-- Each of the three kinds of answer is an answer.

both : (b : Bool) → b ≡ true → b ≡ false → ⊥
both b is unlike = let clash : true ≡ false = sym is ∙ unlike in absurd cc

pub of_version : (program : Text) (c : CommandLine) (words : List Text) (usage : Text) (input output faults : Device) (status : ℕ) →
    asks_version words ≡ true → Prints (version_text program) input output faults status → AnswersWords program c words usage input output faults status
of_version program c words usage input output faults status is p = record {
  version = λ alike. p;
  help = λ unlike wants. absurd (both (asks_version words) is unlike);
  fault = λ unlike none. absurd (both (asks_version words) is unlike);
}

pub of_help : (program : Text) (c : CommandLine) (words : List Text) (usage : Text) (fault : Option WordFault) (input output faults : Device) (status : ℕ) →
    fault ≡ first_fault c words → asks_version words ≡ false → is_help_fault fault ≡ true → Prints usage input output faults status →
    AnswersWords program c words usage input output faults status
of_help program c words usage fault input output faults status same none is p = record {
  version = λ alike. absurd (both (asks_version words) alike none);
  help = λ unlike wants. p;
  fault = λ unlike isnt. absurd (both (is_help_fault fault) is (ap is_help_fault same ∙ isnt));
}

pub of_fault : (program : Text) (c : CommandLine) (words : List Text) (usage : Text) (fault : Option WordFault) (input output faults : Device) (status : ℕ) →
    fault ≡ first_fault c words → asks_version words ≡ false → is_help_fault fault ≡ false →
    ReportsUsage (fault_line c words fault ++ (hint_line c words fault ++ more_text program usage fault)) input output faults status ⊎ LacksMemory input output faults status →
    AnswersWords program c words usage input output faults status
of_fault program c words usage fault input output faults status same none is t = record {
  version = λ alike. absurd (both (asks_version words) alike none);
  help = λ unlike wants. absurd (both (is_help_fault fault) (ap is_help_fault same ∙ wants) is);
  fault = λ unlike isnt. subst (λ (f : Option WordFault). ReportsUsage (fault_line c words f ++ (hint_line c words f ++ more_text program usage f)) input output faults status
      ⊎ LacksMemory input output faults status) same t;
}
