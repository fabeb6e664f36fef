-- The outcome of a program for an input that was read.
use Rattle.std.proofs.Common.{◌≡◌, ℕ, List, [], refl, sym, ap, subst, ◌∙◌, Option, Some, None, Ok, Err, inl, inr}
use Rattle.std.proofs.KnownBytes.{Appends-nil}
use Rattle.std.specs.Io.KnownBytes.{Appends}
use Rattle.devices.specs.Devices.{HasFailed, IsClean, IsUntouched, Takes, Device, Port}
use Rattle.devices.specs.Outcomes.{halt_line, Outcome, reported}
use Rattle.devices.specs.Lines.{Reports, Stopped, WritesLine}
use Rattle.devices.specs.Runs.{IsLedTo, Performs}
use Rattle.devices.specs.WholeInput.{IsWhole, ReadsInput}
use Rattle.devices.specs.declared.halt.Halt.{Halt}
use Rattle.devices.specs.declared.halt.Halt.TheVariants.{Read, Write, Memory}

pub whole_is : (bytes : Option (List ℕ)) (read xs : List ℕ) → IsWhole bytes read → bytes ≡ Some xs → read ≡ xs
whole_is None read xs w e = absurd cc
whole_is (Some ys) read xs w e = w ∙ (let same : ys ≡ xs = cc in same)

-- The outcome for the bytes that were read is the outcome for the input.
led_to : (Leads : List ℕ → Outcome → Type 0) (bytes : List ℕ) (outcome : Outcome) (input : Device) → ReadsInput input (Ok bytes) → Leads bytes outcome →
    IsLedTo Leads input outcome
led_to Leads bytes outcome input r l = record { bytes = bytes; read = r; is = l }

-- known bytes lead to the outcome
pub known_lead : (Leads : List ℕ → Outcome → Type 0) (xs : List ℕ) (outcome : Outcome) (input : Device) → IsLedTo Leads input outcome →
    input.before.bytes ≡ Some xs → Leads xs outcome
known_lead Leads xs outcome input l e = subst (λ (x : List ℕ). Leads x outcome) (whole_is input.before.bytes l.bytes xs l.read.0 e) l.is

-- The input could not be read.
pub unread : (Leads : List ℕ → Outcome → Type 0) (input output faults : Device) (status : ℕ) (halt : Halt) →
    ReadsInput input (Err halt) → IsUntouched output → Reports faults (halt_line halt) → status ≡ 3 → Performs Leads input output faults status
unread Leads input output faults status Read r u t s = inr (inl (record { unread = r; unwritten = u; reports = t; status_is = s }))
unread Leads input output faults status Write r u t s = absurd r
unread Leads input output faults status Memory r u t s = inr (inr (inl (record { clean = r; unwritten = u; reports = t; status_is = s })))

-- After the input was read, memory ran out.
pub no_room : (Leads : List ℕ → Outcome → Type 0) (bytes : List ℕ) (input output faults : Device) (status : ℕ) →
    ReadsInput input (Ok bytes) → IsUntouched output → Reports faults (halt_line Memory) → status ≡ 3 → Performs Leads input output faults status
no_room Leads bytes input output faults status r u t s = inr (inr (inl (record { clean = r.1.clean; unwritten = u; reports = t; status_is = s })))

-- The program ran to its end.
pub performed : (Leads : List ℕ → Outcome → Type 0) (bytes : List ℕ) (outcome : Outcome) (input output faults : Device) (status : ℕ) →
    ReadsInput input (Ok bytes) → Leads bytes outcome → Takes output outcome.output → IsClean output → Reports faults outcome.report → status ≡ outcome.status →
    Performs Leads input output faults status
performed Leads bytes outcome input output faults status r l w c t s = inl (record {
  outcome = outcome;
  leads = led_to Leads bytes outcome input r l;
  written = w;
  clean = c;
  reports = t;
  status_is = s;
})

-- The writer failed.
pub unwritten : (Leads : List ℕ → Outcome → Type 0) (bytes : List ℕ) (outcome : Outcome) (input output faults : Device) (status : ℕ) →
    ReadsInput input (Ok bytes) → Leads bytes outcome → Stopped outcome.output output → HasFailed output → Reports faults (halt_line Write) → status ≡ 3 →
    Performs Leads input output faults status
unwritten Leads bytes outcome input output faults status r l w f t s = inr (inr (inr (record {
  outcome = outcome;
  leads = led_to Leads bytes outcome input r l;
  taken = w.taken;
  written = w.appends;
  failed = f;
  reports = t;
  status_is = s;
})))

-- The whole text was written.
pub text_written : (Leads : List ℕ → Outcome → Type 0) (bytes text : List ℕ) (outcome : Outcome) (input output faults : Device) (status : ℕ) →
    ReadsInput input (Ok bytes) → Leads bytes outcome → text ≡ outcome.output → Takes output text → IsClean output → Reports faults outcome.report →
    status ≡ outcome.status →
    Performs Leads input output faults status
text_written Leads bytes text outcome input output faults status r l e w c t s =
    performed Leads bytes outcome input output faults status r l (subst (λ (x : List ℕ). Takes output x) e w) c t s

-- The text was not written whole.
pub text_unwritten : (V : Type 0) (Leads : List ℕ → Outcome → Type 0) (bytes text : List ℕ) (outcome : Outcome) (input output faults : Device) (status : ℕ)
    (halt : Halt) →
    ReadsInput input (Ok bytes) → Leads bytes outcome → text ≡ outcome.output → WritesLine {V = V} text output (Err halt) → Reports faults (halt_line halt) →
    status ≡ 3 →
    Performs Leads input output faults status
text_unwritten V Leads bytes text outcome input output faults status Read r l e w t s = absurd w
text_unwritten V Leads bytes text outcome input output faults status Write r l e w t s =
    unwritten Leads bytes outcome input output faults status r l (subst (λ (x : List ℕ). Stopped x output) e w.0) w.1 t s
text_unwritten V Leads bytes text outcome input output faults status Memory r l e w t s = absurd w

-- The program reported a line and wrote no output.
pub reported_only : (Leads : List ℕ → Outcome → Type 0) (bytes line : List ℕ) (input output faults : Device) (status : ℕ) →
    ReadsInput input (Ok bytes) → Leads bytes (reported line) → IsUntouched output → Reports faults line → status ≡ 1 →
    Performs Leads input output faults status
reported_only Leads bytes line input output faults status r l u t s = performed Leads bytes (reported line) input output faults status r l
    (subst (λ (port : Port). Appends output.before.bytes port.bytes []) (sym u) (Appends-nil output.before.bytes)) (ap (λ (port : Port). port.failed) u) t s

-- Nothing is reported.
pub reports_none : (faults : Device) → IsUntouched faults → Reports faults []
reports_none faults u = record {
  taken = 0;
  written = subst (λ (x : Option (List ℕ)). Appends faults.before.bytes x []) (sym (let same : faults.after.bytes ≡ faults.before.bytes = cc in same))
      (Appends-nil faults.before.bytes);
  whole = inl refl;
}
