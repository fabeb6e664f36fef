-- Packets to standard output, or to a file.
use Rattle.std.proofs.Common.{◌≡◌, ℕ, Bool, true, false, List, Option, None, Some, refl, inl, inr, subst}
use Rattle.word_faults.specs.CommandLine.{Text}
use Rattle.devices.specs.Devices.{Device, Port, between, IsUntouched}
use Rattle.devices.specs.Files.{Files, IsAsKnown}
use Rattle.devices.specs.Lines.{Reports}
use Rattle.tsjob_cli.specs.Reports.{terminal_line}
use Rattle.devices.specs.declared.files.FileFault.{FileFault}
use Rattle.devices.specs.Saving.{AreNone, ReportsText, uncreated_text}
use Rattle.tsremux_cli.specs.Outputs.{Concludes, Finishes, ToFile, ToOutput, WritesNew, WritesOutput, output_name}
use Rattle.tsjob_cli.specs.Command.{Outputs, output_file}
use Rattle.tsremux_cli.specs.Program.{Answers, WritesTo}
use Rattle.tsremux_cli.specs.Packets.{WritesFor}
use Rattle.tsremux_cli.specs.Words.{is_quiet, job_words}
use Rattle.tsremux_cli.specs.declared.figures.Remuxed.{Remuxed}

pub concluded : (words : List Text) (quiet : Bool) (files : Files) (input output : Device) (before mid after : Port) (result : Remuxed) (status : ℕ) →
    quiet ≡ is_quiet words →
    WritesFor words files input output (between before mid) result → Concludes quiet output_name result (between mid after) status →
    WritesOutput words files input output (between before after) status
concluded words quiet files input output before mid after result status is makes concludes =
    record {
      result = result;
      so_far = mid;
      makes = makes;
      concludes =
          subst (λ (b : Bool). Concludes b output_name result (between mid after) status) is concludes;
    }

pub to_terminal : (shows : Option Bool) (shown : Bool) (words : List Text) (files : Files) (input output faults : Device) (status : ℕ) → IsAsKnown shows shown →
    shown ≡ true →
    IsUntouched input → IsUntouched output → Reports faults terminal_line → status ≡ 2 → ToOutput shows words files input output faults status
to_terminal shows shown words files input output faults status known is unread unwritten reports status_is =
    inl (record { shown = subst (λ (b : Bool). IsAsKnown shows b) is known; unread = unread; unwritten = unwritten; reports = reports; status_is = status_is })

pub to_output : (shows : Option Bool) (shown : Bool) (words : List Text) (files : Files) (input output faults : Device) (status : ℕ) → IsAsKnown shows shown →
    shown ≡ false →
    WritesOutput words files input output faults status → ToOutput shows words files input output faults status
to_output shows shown words files input output faults status known is writes = inr (subst (λ (b : Bool). IsAsKnown shows b) is known, writes)

-- A known fact about a value is a fact about an equal value.
pub known_as : (keeps : Option Bool) (b b' : Bool) → IsAsKnown keeps b → b ≡ b' → IsAsKnown keeps b'
known_as keeps b b' known is = subst (λ (c : Bool). IsAsKnown keeps c) is known

pub writes_new : (keeps : Option Bool) (known : Option (List ℕ)) (name : Text) (words : List Text) (quiet : Bool) (files : Files) (input file : Device)
    (before mid after : Port) (result : Remuxed) (status : ℕ) →
    WritesFor words files input file (between before mid) result → quiet ≡ is_quiet words →
    Finishes keeps quiet name result (between mid after) status → file.before.bytes ≡ known →
    WritesNew keeps known name words files input (between before after) status
writes_new keeps known name words quiet files input file before mid after result status makes is finishes begins =
    record {
      file = file;
      begins = begins;
      result = result;
      so_far = mid;
      makes = makes;
      finishes = subst (λ (b : Bool). Finishes keeps b name result (between mid after) status) is finishes;
    }

pub to_new_file : (creates : Option (Option FileFault)) (keeps : Option Bool) (known : Option (List ℕ)) (name : Text) (words : List Text) (files : Files)
    (input faults : Device) (status : ℕ) →
    IsAsKnown creates None → AreNone known → WritesNew keeps known name words files input faults status →
    ToFile creates keeps name words files input faults status
to_new_file creates keeps known name words files input faults status created empty writes =
    inl (record { created = created; known = known; empty = empty; writes = writes })

pub to_no_file : (creates : Option (Option FileFault)) (keeps : Option Bool) (name : Text) (words : List Text) (files : Files) (fault : FileFault)
    (input faults : Device) (status : ℕ) →
    IsAsKnown creates (Some fault) → IsUntouched input → ReportsText name (uncreated_text fault) faults → status ≡ 3 →
    ToFile creates keeps name words files input faults status
to_no_file creates keeps name words files fault input faults status uncreated unread reports_text is =
    inr (record { fault = fault; uncreated = uncreated; reports_text = reports_text; status_is = is }, unread)

-- The name and the words are the requested name and words.
pub answered : (outputs : Outputs) (words job : List Text) (name : Option Text) (files : Files) (input output faults : Device) (status : ℕ) →
    name ≡ output_file words →
    job ≡ job_words words → WritesTo outputs name job files input output faults status → Answers outputs words files input output faults status
answered outputs words job name files input output faults status named is writes =
    inl (subst (λ (n : Option Text). WritesTo outputs n (job_words words) files input output faults status) named
    (subst (λ (ws : List Text). WritesTo outputs name ws files input output faults status) is writes))

-- Sorted words
pub of_sorted : (outputs : Outputs) (words sorted : List Text) (files : Files) (input output faults : Device) (status : ℕ) → words ≡ sorted →
    Answers outputs words files input output faults status → Answers outputs sorted files input output faults status
of_sorted outputs words sorted files input output faults status is a = subst (λ (ws : List Text). Answers outputs ws files input output faults status) is a
