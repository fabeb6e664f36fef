-- The result of saving a new file
use Rattle.std.proofs.Common.{◌≡◌, ℕ, Option, Some, None, Bool, List, [], ◌∷◌, refl, sym, subst, inl, inr}
use Rattle.devices.specs.Devices.{Device, HasFailed, IsClean, Port, Takes, between}
use Rattle.devices.specs.Files.{IsAsKnown}
use Rattle.devices.specs.Lines.{Reports, ReportsAll, Stopped}
use Rattle.devices.specs.Saving.{AreNone, Keeps, ReportsText, SavesFile, SavesNamed, uncreated_text, unwritten_text}
use Rattle.devices.specs.declared.files.FileFault.{FileFault}

-- Two reported texts in order
pub reported_both : (before mid after : Port) (first second : List ℕ) → Reports (between before mid) first → Reports (between mid after) second →
    ReportsAll before after (first ∷ second ∷ [])
unfolding ReportsAll
reported_both before mid after first second r s = (mid, r, (after, s, refl))

-- A known fact about a value is a fact about an equal value.
pub known_as : (keeps : Option Bool) (b b' : Bool) → IsAsKnown keeps b → b ≡ b' → IsAsKnown keeps b'
known_as keeps b b' known is = subst (λ (c : Bool). IsAsKnown keeps c) is known

pub saved : (keeps : Option Bool) (known : Option (List ℕ)) (name bytes : List ℕ) (ended : ℕ) (file faults : Device) (status : ℕ) →
    Takes file bytes × IsClean file → Keeps keeps name ended faults status → file.before.bytes ≡ known →
    SavesFile keeps known name bytes ended faults status
saved keeps known name bytes ended file faults status written kept begins =
    inl (record { file = file; begins = begins; written = written.0; clean = written.1; kept = kept })

pub removed : (keeps : Option Bool) (known : Option (List ℕ)) (name bytes : List ℕ) (ended : ℕ) (file faults : Device) (status : ℕ) →
    Stopped bytes file × HasFailed file → ReportsText name unwritten_text faults → status ≡ 3 → file.before.bytes ≡ known →
    SavesFile keeps known name bytes ended faults status
removed keeps known name bytes ended file faults status stopped reports_text is begins =
    inr (record { file = file; begins = begins; stopped = stopped.0; failed = stopped.1; reports_text = reports_text; status_is = is })

pub reports_uncreated : (name : List ℕ) (fault known : FileFault) (faults : Device) → fault ≡ known → ReportsText name (uncreated_text known) faults →
    ReportsText name (uncreated_text fault) faults
reports_uncreated name fault known faults is reports_text = subst (λ (f : FileFault). ReportsText name (uncreated_text f) faults) (sym is) reports_text

pub saved_new : (creates : Option (Option FileFault)) (keeps : Option Bool) (known : Option (List ℕ)) (name bytes : List ℕ) (ended : ℕ) (faults : Device)
    (status : ℕ) → IsAsKnown creates None → AreNone known → SavesFile keeps known name bytes ended faults status →
    SavesNamed creates keeps name bytes ended faults status
saved_new creates keeps known name bytes ended faults status created empty saves =
    inl (record { created = created; known = known; empty = empty; saves = saves })

pub created_none : (creates : Option (Option FileFault)) (keeps : Option Bool) (name bytes : List ℕ) (ended : ℕ) (fault : FileFault) (faults : Device)
    (status : ℕ) → IsAsKnown creates (Some fault) → ReportsText name (uncreated_text fault) faults → status ≡ 3 →
    SavesNamed creates keeps name bytes ended faults status
created_none creates keeps name bytes ended fault faults status uncreated reports_text is =
    inr (record { fault = fault; uncreated = uncreated; reports_text = reports_text; status_is = is })
