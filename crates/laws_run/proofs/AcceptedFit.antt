-- Each unit that `carry` accepts may be a PES packet.
use Rattle.std.proofs.Common.{◌≡◌, ℕ, zero, suc, ◌+◌, IsTrue, List, length, Option, Some, None, Result, Ok, Err, refl, All, le-leb, arith}
use Rattle.std.proofs.lemmas.List.Elements.{All-nil, All-cons}
use Rattle.pes_packet.specs.AccessUnits.{AccessUnit}
use Rattle.pes_packet.specs.StreamIds.{is_unit_id, greatest_size, fits_packet}
use Rattle.unit_queue.specs.declared.refusal.FeedError.{FeedError}
use Rattle.mux_core.specs.Refusals.{refusal}
use Rattle.unit_records.specs.Records.{record_at, after_record}
use Rattle.mux_core.specs.RecordRuns.{Run, judged, run_step, run_from}
use Rattle.mux_core.specs.RunSteps.{IsAccepted}
use Rattle.unit_records.specs.declared.reading.UnitFileError.{UnitFileError}
use Rattle.mux_core.proofs.AcceptedUnits.{is_accepted}
use Rattle.laws_run.specs.CarriedBack.{AcceptedUnitsFit}

abbrev FitsId : ℕ → AccessUnit → Type 0
FitsId id u = IsTrue (fits_packet id (length u.bytes))

accepted_fits : (id earliest : ℕ) (u : AccessUnit) → IsTrue (is_unit_id id) → IsAccepted id earliest u → FitsId id u
accepted_fits id earliest u is a = rw (is, le-leb 1 (length u.bytes) a.some, le-leb (length u.bytes) (greatest_size id) (omega (arith, a.most))) refl

judged_fit : (id earliest stream : ℕ) (u : AccessUnit) (cause : Option FeedError) (after : Run) → IsTrue (is_unit_id id) →
    refusal id earliest stream u ≡ cause →
    All (FitsId id) after.units → All (FitsId id) (judged cause u after).units
unfolding judged
judged_fit id earliest stream u (Some cause) after is e h = All-nil (FitsId id)
judged_fit id earliest stream u None after is e h = All-cons (FitsId id) u after.units (accepted_fits id earliest u is (is_accepted id earliest stream u e)) h

step_fit : (id earliest : ℕ) (r : Result (Option (ℕ × AccessUnit)) UnitFileError) (after : AccessUnit → Run) → IsTrue (is_unit_id id) →
    ((u : AccessUnit) → All (FitsId id) (after u).units) → All (FitsId id) (run_step id earliest r after).units
unfolding run_step
step_fit id earliest (Err fault) after is h = All-nil (FitsId id)
step_fit id earliest (Ok None) after is h = All-nil (FitsId id)
step_fit id earliest (Ok (Some entry)) after is h =
    judged_fit id earliest entry.0 entry.1 (refusal id earliest entry.0 entry.1) (after entry.1) is refl (h entry.1)

run_fit : (n id earliest : ℕ) (xs : List ℕ) → IsTrue (is_unit_id id) → All (FitsId id) (run_from n id earliest xs).units
unfolding run_from
run_fit zero id earliest xs is = All-nil (FitsId id)
run_fit (suc n) id earliest xs is =
    step_fit id earliest (record_at xs) (λ u. run_from n id (u.dts + 1) (after_record xs)) is (λ u. run_fit n id (u.dts + 1) (after_record xs) is)

pub accepted_units_fit : AcceptedUnitsFit
accepted_units_fit id xs is = run_fit (1 + length xs) id 0 xs is
