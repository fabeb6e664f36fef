-- The file of `--state`
use Rattle.std.proofs.Common.{◌≡◌, ◌==◌, ℕ, Bool, true, List, Option, inl, inr, not, refl, subst}
use Rattle.devices.specs.Devices.{Device}
use Rattle.devices.specs.Saving.{ReportsText, SavesNamed, unwritten_text}
use Rattle.devices.specs.declared.files.FileFault.{FileFault}
use Rattle.description_parts.specs.Described.{Described}
use Rattle.tsair_cli.specs.States.{SavesState, state_line}

pub saved : (creates : Option (Option FileFault)) (keeps : Option Bool) (name line : List ℕ) (texts : Described) (faults : Device) (status : ℕ) (lost : Bool) →
    line ≡ state_line texts → SavesNamed creates keeps name line 0 faults status → lost ≡ not (status == 0) → SavesState creates keeps name texts faults lost
saved creates keeps name line texts faults status lost is saves lost_is =
    inl (record { status = status; saves = subst (λ (bytes : List ℕ). SavesNamed creates keeps name bytes 0 faults status) is saves; lost_is = lost_is })

pub lacking : (creates : Option (Option FileFault)) (keeps : Option Bool) (name : List ℕ) (texts : Described) (faults : Device) →
    ReportsText name unwritten_text faults → SavesState creates keeps name texts faults true
lacking creates keeps name texts faults reports = inr (record { reports_text = reports; lost_is = refl })
