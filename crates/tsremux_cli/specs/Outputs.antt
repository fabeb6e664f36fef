-- Packets of streams to standard output, or to a file.
use Rattle.std.specs.Prelude.{◌≡◌, ◌⊎◌, ℕ, Bool, true, false, List, Option, None, codes}
use Rattle.word_faults.specs.CommandLine.{Text}
use Rattle.devices.specs.Devices.{Device, IsUntouched, Port, between}
use Rattle.devices.specs.Files.{Files, IsAsKnown}
use Rattle.devices.specs.Lines.{Reports}
use Rattle.tsremux_cli.specs.Lines.{ReportsHeld}
use Rattle.devices.specs.declared.files.FileFault.{FileFault}
use Rattle.devices.specs.Saving.{AreNone, HasNoFile, ReportsText, unnamed_text}
use Rattle.tsjob_cli.specs.Reports.{terminal_line}
use Rattle.tsremux_cli.specs.Packets.{WritesFor}
use Rattle.tsremux_cli.specs.Words.{is_quiet}
use Rattle.tsremux_cli.specs.declared.figures.Remuxed.{Remuxed}
use Rattle.tsremux_cli.specs.declared.figures.Remuxed.TheVariants.{Whole, Ended}

-- 1. Standard output

-- the promises for the packets are reported, if all are written
abbrev pub Concludes : Bool → Text → Remuxed → Device → ℕ → Type 0
Concludes quiet name (Whole figures ended) faults status = (status ≡ ended) × ReportsHeld quiet name figures faults
Concludes quiet name (Ended ended) faults status = (status ≡ ended) × IsUntouched faults

abbrev pub output_name : Text
output_name = codes "standard output"

pub record WritesOutput (words : List Text) (files : Files) (input output faults : Device) (status : ℕ) : Type 0 where
  pub result : Remuxed
  pub so_far : Port
  pub makes : WritesFor words files input output (between faults.before so_far) result
  pub concludes : Concludes (is_quiet words) output_name result (between so_far faults.after) status

-- no packets go to a terminal
pub record IsTerminal (shows : Option Bool) (input output faults : Device) (status : ℕ) : Type 0 where
  pub shown : IsAsKnown shows true
  pub unread : IsUntouched input
  pub unwritten : IsUntouched output
  pub reports : Reports faults terminal_line
  pub status_is : status ≡ 2

abbrev pub ToOutput : Option Bool → List Text → Files → Device → Device → Device → ℕ → Type 0
ToOutput shows words files input output faults status =
    IsTerminal shows input output faults status ⊎ (IsAsKnown shows false × WritesOutput words files input output faults status)

-- 2. A file

-- the promises for the packets are reported, if all are written and the file has its name
abbrev pub Finishes : Option Bool → Bool → Text → Remuxed → Device → ℕ → Type 0
Finishes keeps quiet name (Whole figures ended) faults status =
    (IsAsKnown keeps true × ((status ≡ ended) × ReportsHeld quiet name figures faults))
    ⊎ (IsAsKnown keeps false × ((status ≡ 3) × ReportsText name unnamed_text faults))
Finishes keeps quiet name (Ended ended) faults status = (status ≡ ended) × IsUntouched faults

-- the packets go to a new file with these known bytes
pub record WritesNew (keeps : Option Bool) (known : Option (List ℕ)) (name : Text) (words : List Text) (files : Files) (input faults : Device)
    (status : ℕ) : Type 0 where
  pub file : Device
  pub begins : file.before.bytes ≡ known
  pub result : Remuxed
  pub so_far : Port
  pub makes : WritesFor words files input file (between faults.before so_far) result
  pub finishes : Finishes keeps (is_quiet words) name result (between so_far faults.after) status

-- the file is created before anything is read
pub record WritesFile (creates : Option (Option FileFault)) (keeps : Option Bool) (name : Text) (words : List Text) (files : Files) (input faults : Device)
    (status : ℕ) : Type 0 where
  pub created : IsAsKnown creates None
  pub known : Option (List ℕ)
  pub empty : AreNone known
  pub writes : WritesNew keeps known name words files input faults status

abbrev pub ToFile : Option (Option FileFault) → Option Bool → Text → List Text → Files → Device → Device → ℕ → Type 0
ToFile creates keeps name words files input faults status =
    WritesFile creates keeps name words files input faults status ⊎ HasNoFile creates name input faults status
