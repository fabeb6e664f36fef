-- The outcome of `mux` for a job.
use Rattle.std.proofs.Common.{◌≡◌, ℕ, List, [], sym, ap, subst, ◌∙◌, Option, Some, None, Result, Ok, Err}
use Rattle.std.specs.Prelude.{is_some}
use Rattle.pes_packet.specs.Units.{units_of}
use Rattle.mux_core.specs.Headline.{Headline}
use Rattle.mux_core.specs.MeasuredRuns.{MeasuresWell}
use Rattle.mux_core.specs.WholeJobs.{NamesWriter, OnWriting, Refuses, Writes}
use Rattle.mux_core.specs.declared.multiplexing.MuxError.{MuxError}
use Rattle.mux_core.specs.declared.multiplexing.MuxError.TheVariants.{TooManySlots, Periods, Feed, Device as AtWriter, Memory}
use Rattle.devices.specs.Devices.{Device, IsUntouched}
use Rattle.devices.specs.Lines.{Reports}
use Rattle.checked_jobs.specs.MuxJobs.{MuxFaultView, MuxJobView, mux_fault_line, mux_job_of}
use Rattle.checked_jobs.specs.Multiplexing.{IsKept, KeepsPromises, KeptUnlessRefused, Muxes, cause_of, error_outcome, packets_of, range_cause, run_bytes_of}
use Rattle.checked_jobs.specs.Multiplexing.{schedule_of, slots_of, unless_refused, with_job}
use Rattle.devices.specs.Outcomes.{printed, reported}
use Rattle.devices.specs.Runs.{Performs}
use Rattle.devices.specs.WholeInput.{ReadsInput}
use Rattle.checked_jobs.specs.declared.multiplexing.MuxOptions.{MuxOptions}
use Rattle.devices.proofs.Performances.{no_room, performed, reported_only, unwritten}

-- If bytes of the output may be written, the promises are kept.
pub is_kept : (o : MuxOptions) (j : MuxJobView) (result : Result ℕ MuxError) →
    OnWriting result (Headline (schedule_of o j) (λ k. units_of k j.units) (slots_of o j) (run_bytes_of o j)) →
    OnWriting result (MeasuresWell (schedule_of o j) j.units (run_bytes_of o j)) → OnWriting result (IsKept o j)
is_kept o j (Ok sent) headline measured = record { headline = headline; measured = measured }
is_kept o j (Err (AtWriter sent)) headline measured = record { headline = headline; measured = measured }
is_kept o j (Err TooManySlots) headline measured = tt
is_kept o j (Err Periods) headline measured = tt
is_kept o j (Err (Feed index cause)) headline measured = tt
is_kept o j (Err Memory) headline measured = tt

-- The bytes are read as this job.
abbrev pub IsReadAs : MuxOptions → List ℕ → MuxJobView → Type 0
IsReadAs o bytes j = Ok j ≡ mux_job_of (is_some o.periods) bytes

leads_to : (o : MuxOptions) (bytes : List ℕ) (j : MuxJobView) (cause : Option MuxError) → IsReadAs o bytes j → cause_of o j ≡ cause →
    KeptUnlessRefused cause (IsKept o j) →
    Muxes o bytes (unless_refused cause (packets_of o j))
unfolding with_job
leads_to o bytes j cause r e kept = record {
  is = ap (λ (c : Option MuxError). unless_refused c (packets_of o j)) (sym e) ∙ ap (with_job o) r;
  kept = subst (KeepsPromises o) r (subst (λ (c : Option MuxError). KeptUnlessRefused c (IsKept o j)) (sym e) kept);
}

written_whole : (o : MuxOptions) (bytes : List ℕ) (j : MuxJobView) → IsReadAs o bytes j → cause_of o j ≡ None → IsKept o j →
    Muxes o bytes (printed (packets_of o j) 0)
unfolding unless_refused
written_whole o bytes j r e kept = leads_to o bytes j None r e kept

refused_by : (o : MuxOptions) (bytes : List ℕ) (j : MuxJobView) (cause : MuxError) → IsReadAs o bytes j → cause_of o j ≡ Some cause →
    Muxes o bytes (reported (error_outcome cause).report)
unfolding unless_refused
refused_by o bytes j cause r e = leads_to o bytes j (Some cause) r e tt

-- The bytes are not read as a job.
pub not_read : (o : MuxOptions) (bytes : List ℕ) (fault : MuxFaultView) → Err fault ≡ mux_job_of (is_some o.periods) bytes →
    Muxes o bytes (reported (mux_fault_line fault))
unfolding with_job
not_read o bytes fault r = record {
  is = ap (with_job o) r;
  kept = subst (KeepsPromises o) r tt;
}

untouched : (output : Device) → output.after.bytes ≡ output.before.bytes → output.after.failed ≡ output.before.failed → IsUntouched output
untouched output e f =
    ap (λ (x : Option (List ℕ)). record { bytes = x; failed = output.after.failed }) e
    ∙ ap (λ (n : ℕ). record { bytes = output.before.bytes; failed = n }) f

-- A result of the multiplexer, with its output.
abbrev pub IsAnswer : MuxOptions → MuxJobView → Device → Result ℕ MuxError → Type 0
IsAnswer o j output result =
    Refuses (range_cause o j) (cause_of o j) result × (Writes (packets_of o j) output.before.bytes output.after.bytes result
    × (OnWriting result (IsKept o j) × NamesWriter result output.before.failed output.after.failed))

-- All packets are written.
pub ended : (o : MuxOptions) (bytes : List ℕ) (j : MuxJobView) (sent : ℕ) (input output faults : Device) (status : ℕ) →
    ReadsInput input (Ok bytes) → IsReadAs o bytes j → IsAnswer o j output (Ok sent) → Reports faults [] → status ≡ 0 →
    Performs (Muxes o) input output faults status
ended o bytes j sent input output faults status i r a t s =
    performed (Muxes o) bytes (printed (packets_of o j) 0) input output faults status i (written_whole o bytes j r a.0 a.1.1.0) a.1.0 a.1.1.1 t s

-- An error is reported.
pub failed : (o : MuxOptions) (bytes : List ℕ) (j : MuxJobView) (error : MuxError) (input output faults : Device) (status : ℕ) →
    ReadsInput input (Ok bytes) → IsReadAs o bytes j → IsAnswer o j output (Err error) → Reports faults (error_outcome error).report →
    status ≡ (error_outcome error).status →
    Performs (Muxes o) input output faults status
unfolding error_outcome
failed o bytes j TooManySlots input output faults status i r a t s =
    reported_only (Muxes o) bytes (error_outcome TooManySlots).report input output faults status i (refused_by o bytes j TooManySlots r a.0)
    (untouched output a.1.0 a.1.1.1) t s
failed o bytes j Periods input output faults status i r a t s =
    reported_only (Muxes o) bytes (error_outcome Periods).report input output faults status i (refused_by o bytes j Periods r a.0)
    (untouched output a.1.0 a.1.1.1) t s
failed o bytes j (Feed index cause) input output faults status i r a t s =
    reported_only (Muxes o) bytes (error_outcome (Feed index cause)).report input output faults status i (refused_by o bytes j (Feed index cause) r a.0)
    (untouched output a.1.0 a.1.1.1) t s
failed o bytes j (AtWriter sent) input output faults status i r a t s =
    unwritten (Muxes o) bytes (printed (packets_of o j) 0) input output faults status i (written_whole o bytes j r a.0 a.1.1.0)
    (record { taken = sent; appends = a.1.0.1 }) a.1.1.1 t s
failed o bytes j Memory input output faults status i r a t s = no_room (Muxes o) bytes input output faults status i (untouched output a.1.0 a.1.1.1) t s
