-- What the program does with words that can be taken.
use Rattle.std.specs.Prelude.{◌⊎◌, ℕ, Bool, List, Option, Some, None}
use Rattle.word_faults.specs.CommandLine.{Text}
use Rattle.devices.specs.Devices.{Device, IsUntouched}
use Rattle.devices.specs.Files.{Files}
use Rattle.devices.specs.Runs.{LacksMemory}
use Rattle.tsremux_cli.specs.Outputs.{ToFile, ToOutput}
use Rattle.tsjob_cli.specs.Command.{Outputs, output_file}
use Rattle.tsremux_cli.specs.Words.{job_words}

-- the packets go to standard output, or to the file of a name
abbrev pub WritesTo : Outputs → Option Text → List Text → Files → Device → Device → Device → ℕ → Type 0
WritesTo outputs None words files input output faults status = ToOutput outputs.shows words files input output faults status
WritesTo outputs (Some name) words files input output faults status =
    ToFile (outputs.creates name) (outputs.keeps name) name words files input faults status × IsUntouched output

-- the answer to sorted words; or memory runs out for the words
abbrev pub Answers : Outputs → List Text → Files → Device → Device → Device → ℕ → Type 0
Answers outputs words files input output faults status =
    WritesTo outputs (output_file words) (job_words words) files input output faults status ⊎ LacksMemory input output faults status
