-- The file of `--state`: the versions of the texts in force, as the key `versions` of a description has them.
use Rattle.std.specs.Prelude.{◌≡◌, ◌⊎◌, ◌==◌, ◌++◌, ℕ, Bool, true, false, not, List, Option, Some, None, codes, decimal, flat_map}
use Rattle.devices.specs.Devices.{Device, IsUntouched}
use Rattle.devices.specs.Saving.{ReportsText, SavesNamed, unwritten_text}
use Rattle.devices.specs.declared.files.FileFault.{FileFault}
use Rattle.description_parts.specs.Described.{Described, DescribedProgram}
use Rattle.description_parts.specs.declared.versions.Versions.{Versions}

-- 1. Its line

unfoldable pub common_text : Versions → List ℕ
common_text v =
    codes "versions = [\"PAT " ++ decimal v.pat ++ codes "\", \"NIT " ++ decimal v.nit ++ codes "\", \"SDT " ++ decimal v.sdt ++ codes "\""

unfoldable pub program_text : DescribedProgram → List ℕ
program_text p =
    codes ", \"PMT " ++ decimal p.number ++ codes " " ++ decimal p.pmt_version ++ codes "\", \"EIT " ++ decimal p.number ++ codes " " ++ decimal p.eit_count
    ++ codes "\""

unfoldable pub state_line : Described → List ℕ
state_line d = common_text d.versions ++ flat_map program_text d.programs ++ codes "]\n"

-- 2. Its file

-- the name of the file, if one is given; and the known facts about written files: why a file can't be created, or that it can; and whether a new file can be
-- given its name
pub record Saving : Type 0 where
  pub name : Option (List ℕ)
  pub creates : List ℕ → Option (Option FileFault)
  pub keeps : List ℕ → Option Bool

abbrev pub saving_of : (List ℕ → Option (Option FileFault)) → (List ℕ → Option Bool) → Option (List ℕ) → Saving
saving_of creates keeps name = record { name = name; creates = creates; keeps = keeps }

-- the line is written to a new file that has the name now; or it is lost, which is reported, and a file that had the name stays as it was
pub record WritesState (creates : Option (Option FileFault)) (keeps : Option Bool) (name : List ℕ) (texts : Described) (faults : Device) (lost : Bool)
    : Type 0 where
  pub status : ℕ
  pub saves : SavesNamed creates keeps name (state_line texts) 0 faults status
  pub lost_is : lost ≡ not (status == 0)

-- there is no memory for the line
pub record LacksLine (name : List ℕ) (faults : Device) (lost : Bool) : Type 0 where
  pub reports_text : ReportsText name unwritten_text faults
  pub lost_is : lost ≡ true

abbrev pub SavesState : Option (Option FileFault) → Option Bool → List ℕ → Described → Device → Bool → Type 0
SavesState creates keeps name texts faults lost = WritesState creates keeps name texts faults lost ⊎ LacksLine name faults lost

abbrev pub KeepsNamed : Option (List ℕ) → Saving → Described → Device → Bool → Type 0
KeepsNamed None saving texts faults lost = IsUntouched faults × (lost ≡ false)
KeepsNamed (Some name) saving texts faults lost = SavesState (saving.creates name) (saving.keeps name) name texts faults lost

abbrev pub KeepsState : Saving → Described → Device → Bool → Type 0
KeepsState saving texts faults lost = KeepsNamed saving.name saving texts faults lost
