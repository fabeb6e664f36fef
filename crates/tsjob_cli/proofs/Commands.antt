-- The program, for the words of a command line.
use Rattle.std.proofs.Common.{◌≡◌, ◌∙◌, ℕ, Bool, true, false, List, Option, Some, None, inl, inr, sym, ap, subst}
use Rattle.std.specs.Prelude.{◌⊎◌, codes}
use Rattle.word_faults.specs.CommandLine.{CommandLine, Text}
use Rattle.word_faults.specs.Commands as commands
use Rattle.word_faults.specs.SortedWords.{are_taken}
use Rattle.word_faults.specs.UsageReport.{AnswersWords}
use Rattle.devices.specs.Devices.{Device, IsUntouched, Port, between}
use Rattle.devices.specs.Files.{Files, IsAsKnown}
use Rattle.devices.specs.declared.files.FileFault.{FileFault}
use Rattle.devices.specs.Saving.{AreNone, ReportsText, uncreated_text}
use Rattle.tsjob_cli.specs.Command.{Answers, Commands, LacksWords, MakesFile, Outputs, PerformsWords, Saves, ToFile, WritesTo, explains_files, is_next, known_words, sorted_by, sorting_for}
use Rattle.tsjob_cli.specs.Command.{output_file, words_but_output}
use Rattle.tsjob_cli.specs.Explaining.{ExplainsFiles}
use Rattle.tsjob_cli.specs.FileWords.{file_words, option_words}
use Rattle.tsjob_cli.specs.MadeJobs.{MakesJob}
use Rattle.tsjob_cli.specs.NextTexts.{AnswersNext, next_asked}
use Rattle.tsjob_cli.specs.Options.{usage_text}

both : (b : Bool) → b ≡ true → b ≡ false → ⊥
both b is unlike = let clash : true ≡ false = sym is ∙ unlike in absurd cc

pub makes_file : (keeps : Option Bool) (known : Option (List ℕ)) (name : Text) (words : List Text) (files : Files) (input : Device) (before mid after : Port)
    (bytes : List ℕ) (made status : ℕ) →
    MakesJob words files input (between before mid) bytes made → Saves keeps known name bytes made (between mid after) status →
    MakesFile keeps known name words files input (between before after) status
makes_file keeps known name words files input before mid after bytes made status makes saves =
    record { bytes = bytes; made = made; so_far = mid; makes = makes; saves = saves }

pub to_new_file : (creates : Option (Option FileFault)) (keeps : Option Bool) (known : Option (List ℕ)) (name : Text) (words : List Text) (files : Files)
    (input faults : Device) (status : ℕ) →
    IsAsKnown creates None → AreNone known → MakesFile keeps known name words files input faults status →
    ToFile creates keeps name words files input faults status
to_new_file creates keeps known name words files input faults status created empty makes =
    inl (record { created = created; known = known; empty = empty; makes = makes })

pub to_no_file : (creates : Option (Option FileFault)) (keeps : Option Bool) (name : Text) (words : List Text) (files : Files) (fault : FileFault)
    (input faults : Device) (status : ℕ) →
    IsAsKnown creates (Some fault) → IsUntouched input → ReportsText name (uncreated_text fault) faults → status ≡ 3 →
    ToFile creates keeps name words files input faults status
to_no_file creates keeps name words files fault input faults status uncreated unread reports_text is =
    inr (record { fault = fault; uncreated = uncreated; reports_text = reports_text; status_is = is }, unread)

-- The program writes to the file with the requested name, for the requested words.
pub performed : (outputs : Outputs) (words job : List Text) (name : Option Text) (files : Files) (input output faults : Device) (status : ℕ) →
    name ≡ output_file words →
    job ≡ words_but_output words → WritesTo outputs name job files input output faults status → PerformsWords outputs words files input output faults status
performed outputs words job name files input output faults status named is writes =
    inl (subst (λ (n : Option Text). WritesTo outputs n (words_but_output words) files input output faults status) named
    (subst (λ (ws : List Text). WritesTo outputs name ws files input output faults status) is writes))

pub explained : (outputs : Outputs) (words : List Text) (files : Files) (input output faults : Device) (status : ℕ) → is_next words ≡ false →
    explains_files words ≡ true → IsUntouched input →
    ExplainsFiles files (file_words words) output faults status → Answers outputs words files input output faults status
explained outputs words files input output faults status other is unread e =
    record {
      next = λ yes. absurd (both (is_next words) yes other);
      explains = λ _ yes. (e, unread);
      performs = λ _ no. absurd (both (explains_files words) is no);
    }

pub not_explained : (outputs : Outputs) (words : List Text) (files : Files) (input output faults : Device) (status : ℕ) → is_next words ≡ false →
    explains_files words ≡ false → PerformsWords outputs words files input output faults status → Answers outputs words files input output faults status
not_explained outputs words files input output faults status other isnt p =
    record {
      next = λ yes. absurd (both (is_next words) yes other);
      explains = λ _ yes. absurd (both (explains_files words) yes isnt);
      performs = λ _ no. p;
    }

pub next_answered : (outputs : Outputs) (words : List Text) (files : Files) (input output faults : Device) (status : ℕ) → is_next words ≡ true →
    IsUntouched input →
    AnswersNext files outputs.creates outputs.keeps (next_asked (option_words words) (output_file words)) (file_words words) output faults status →
    Answers outputs words files input output faults status
next_answered outputs words files input output faults status is unread a = record {
  next = λ yes. (a, unread);
  explains = λ no yes. absurd (both (is_next words) is no);
  performs = λ no isnt. absurd (both (is_next words) is no);
}

-- The program's words are the sorted words, so it answers these.
pub commanded : (outputs : Outputs) (shown sorted : List Text) (files : Files) (input output faults : Device) (status : ℕ) → shown ≡ sorted →
    (are_taken (known_words shown) shown ≡ true → Answers outputs shown files input output faults status ⊎ LacksWords input output faults status) →
    (are_taken (known_words shown) shown ≡ false → AnswersWords (codes "tsjob") (known_words shown) shown usage_text input output faults status) →
    Commands outputs sorted files input output faults status
commanded outputs shown sorted files input output faults status same taken other =
    subst (λ (words : List Text). Commands outputs words files input output faults status) same (record { taken = taken; other = λ no. inl (other no) })

-- Words are sorted by the options of their subcommand.
pub sorted_is : (long : List Text) (known : CommandLine) (first second : List Text) → known ≡ sorting_for first → first ≡ long → second ≡ long →
    commands.sorted_command known second ≡ sorted_by long
sorted_is long known first second by one other =
    ap (λ (c : CommandLine). commands.sorted_command c second) (by ∙ ap sorting_for one)
    ∙ ap (λ (ws : List Text). commands.sorted_command (sorting_for long) ws) other
