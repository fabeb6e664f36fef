-- The outcome of `plan` for a description.
use Rattle.std.proofs.Common.{◌≡◌, ◌⊎◌, ℕ, false, List, [], refl, ap, subst, ◌∙◌, Result, Ok, Err, inl, inr}
use Rattle.std.specs.Prelude.{codes}
use Rattle.description_parts.specs.Described.{Described}
use Rattle.description_keys.specs.declared.fault.DescError.{DescError}
use Rattle.description_keys.specs.declared.fault.DescError.TheVariants.{Refused, Memory}
use Rattle.plan_maker.specs.PlainPlan.{plain_plan, serves}
use Rattle.checked_jobs.specs.Jobs.{BadDescription, described}
use Rattle.checked_jobs.specs.JobFaults.{fault_line}
use Rattle.devices.specs.Lines.{line_text}
use Rattle.devices.specs.Devices.{Device, IsUntouched}
use Rattle.devices.specs.Outcomes.{Outcome, printed, reported}
use Rattle.devices.specs.Runs.{Performs}
use Rattle.tsmux_cli.specs.Planning.{IsPlanText, ReportsUnread, MakesPlan, MakesPlanFor}
use Rattle.devices.specs.WholeInput.{ReadsInput}
use Rattle.devices.proofs.Performances.{no_room, reported_only}

-- The bytes are read as this description or error, or memory ran out.
abbrev pub IsReadAs : List ℕ → Result Described DescError → Type 0
IsReadAs bytes read = (read ≡ Err Memory) ⊎ (read ≡ described bytes)

led : (bytes lent : List ℕ) (read : Result Described DescError) (outcome : Outcome) → lent ≡ bytes → read ≡ described lent → MakesPlanFor read outcome →
    MakesPlan bytes outcome
led bytes lent read outcome l e p = subst (λ (r : Result Described DescError). MakesPlanFor r outcome) (e ∙ ap described l) p

pub not_described : (bytes lent : List ℕ) (error : DescError) (input output faults : Device) (status : ℕ) → lent ≡ bytes → IsReadAs lent (Err error) →
    ReadsInput input (Ok bytes) → IsUntouched output → ReportsUnread error faults status → Performs MakesPlan input output faults status
not_described bytes lent (Refused f) input output faults status l r i u t = elim r [
  | inl e ↦ absurd cc
  | inr e ↦ reported_only MakesPlan bytes (fault_line (BadDescription f)) input output faults status i
      (led bytes lent (Err (Refused f)) (reported (fault_line (BadDescription f))) l e refl) u t.0 t.1
]
not_described bytes lent Memory input output faults status l r i u t = no_room MakesPlan bytes input output faults status i u t.0 t.1

pub given_plan : (bytes lent text : List ℕ) (d : Described) → lent ≡ bytes → IsReadAs lent (Ok d) → IsPlanText d text → MakesPlan bytes (printed text 0)
given_plan bytes lent text d l r t = elim r [
  | inl e ↦ absurd cc
  | inr e ↦ led bytes lent (Ok d) (printed text 0) l e (inl (record { text = text; serving = t; is = refl }))
]

pub no_plan : (bytes lent : List ℕ) (d : Described) → lent ≡ bytes → IsReadAs lent (Ok d) → serves d (plain_plan d) ≡ false →
    MakesPlan bytes (reported (line_text (codes "no plan") []))
no_plan bytes lent d l r n = elim r [
  | inl e ↦ absurd cc
  | inr e ↦ led bytes lent (Ok d) (reported (line_text (codes "no plan") [])) l e (inr (record { plain = n; is = refl }))
]
