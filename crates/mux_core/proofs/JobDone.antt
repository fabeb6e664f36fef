-- A job, from its units to the last byte.
use Rattle.std.proofs.Common.{◌≡◌, ℕ, zero, suc, ◌+◌, ◌*◌, ◌<◌, ◌≤◌, ◌^◌, Bool, true, false, List, [], ◌∷◌, length, take, Option, Some, None, Result, Ok, Err}
use Rattle.std.proofs.Common.{sym, ap, ◌∙◌, subst, arith}
use Rattle.std.specs.Prelude.{IfOk, if◌then◌else◌}
use Rattle.std.proofs.lemmas.Bool.{lt-ltb, le-ltb}
use Rattle.std.specs.Io.KnownBytes.{Appends}
use Rattle.std.proofs.lemmas.List.{length-append}
use Rattle.hex.specs.Hex.{encode_lower, lower_digits}
use Rattle.hex.proofs.HexLemmas.{length-encode_with}
use Rattle.pes_packet.specs.AccessUnits.{AccessUnit}
use Rattle.pes_packet.specs.Units.{units_of}
use Rattle.slot_contents.specs.Contents.{Content, packet_of, run_bytes}
use Rattle.slot_contents.specs.RunLaws.{Fits}
use Rattle.slot_contents.proofs.Runs.{content_again}
use Rattle.description_parts.specs.Ranges.{IsInRange}
use Rattle.slot_plan.specs.Promised.{Promised}
use Rattle.mux_core.specs.Scheduled.{Scheduled}
use Rattle.mux_core.specs.Histories.{content_at, bytes_of}
use Rattle.mux_core.specs.MuxStates.{MuxState}
use Rattle.mux_core.specs.Headline.{Headline}
use Rattle.mux_core.specs.MeasuredRuns.{MeasuresWell}
use Rattle.mux_core.specs.Formats.{formatted}
use Rattle.mux_core.specs.NewMux.{is_periods}
use Rattle.mux_core.specs.WholeJobs.{job_history, capacity_for, or_cause, first_refused, job_cause, Refuses, run_output, output_of, slot_size, WritesAll}
use Rattle.mux_core.specs.WholeJobs.{Writes, OnWriting, AllFed, slots_cause, periods_cause}
use Rattle.mux_core.specs.declared.multiplexing.MuxError.{MuxError}
use Rattle.mux_core.specs.declared.multiplexing.MuxError.TheVariants.{TooManySlots, Periods, Feed, Device, Memory}
use Rattle.mux_core.specs.declared.room.Room.{Room}
use Rattle.mux_core.proofs.Whole.{contents_fit}
use Rattle.mux_core.proofs.Accepted.{units_kept, any_state}
use Rattle.mux_core.proofs.MeasurableRuns.{accepted_declared, measures_well}

-- Lengths

leaving_size : (hex : Bool) (packet : List ℕ) → length packet ≡ 188 → length (formatted hex packet) ≡ slot_size hex
unfolding formatted
leaving_size false packet e = e
leaving_size true packet e = omega (arith, length-append (encode_lower packet) (10 ∷ []), length-encode_with lower_digits packet, e)

pub output_size : (hex : Bool) (content : ℕ → Content) (s n : ℕ) → Fits content → length (run_output hex content s n) ≡ slot_size hex * n
unfolding run_output
output_size hex content s zero fits = omega arith
output_size hex content s (suc n) fits =
    let one : length (formatted hex (packet_of (content s))) ≡ slot_size hex =
    leaving_size hex (packet_of (content s)) (content_again (content s) (fits s)).size in
    let rest : length (run_output hex content (suc s) n) ≡ slot_size hex * n = output_size hex content (suc s) n fits in
    let step : slot_size hex * suc n ≡ slot_size hex + slot_size hex * n = omega arith in
    length-append (formatted hex (packet_of (content s))) (run_output hex content (suc s) n)
    ∙ ap (λ (k : ℕ). k + length (run_output hex content (suc s) n)) one ∙ ap (λ (k : ℕ). slot_size hex + k) rest ∙ sym step

pub output_short : (hex : Bool) (slots : ℕ) → slots ≤ 2 ^ 40 → slot_size hex * slots < 2 ^ 64
output_short false slots most = omega (arith, most)
output_short true slots most = omega (arith, most)

-- The results of a job

pub cause_is : (d : Scheduled) (capacity : Room) (units : List (ℕ × AccessUnit)) (o : Option MuxError) → capacity ≡ capacity_for units →
    first_refused d capacity [] units ≡ o → job_cause None d units ≡ o
unfolding or_cause
cause_is d capacity units o e is = ap (λ (n : Room). first_refused d n [] units) (sym e) ∙ is

-- If the job's numbers give a cause, it is the cause of the job.
pub early_is : (early : Option MuxError) (d : Scheduled) (units : List (ℕ × AccessUnit)) (e : MuxError) → early ≡ Some e → job_cause early d units ≡ Some e
unfolding or_cause
early_is early d units e is = ap (λ (x : Option MuxError). or_cause x (first_refused d (capacity_for units) [] units)) is

pub many_slots : (slots : ℕ) → 2 ^ 40 < slots → slots_cause slots ≡ Some TooManySlots
many_slots slots lt = ap (λ (b : Bool). if b then Some TooManySlots else None) (lt-ltb (2 ^ 40) slots lt)

pub few_slots : (slots : ℕ) → slots ≤ 2 ^ 40 → slots_cause slots ≡ None
few_slots slots le = ap (λ (b : Bool). if b then Some TooManySlots else None) (le-ltb (2 ^ 40) slots le)

pub early_first : (slots : ℕ) (next : Option MuxError) → 2 ^ 40 < slots → or_cause (slots_cause slots) next ≡ Some TooManySlots
unfolding or_cause
early_first slots next lt = ap (λ (x : Option MuxError). or_cause x next) (many_slots slots lt)

pub early_next : (slots : ℕ) (next : Option MuxError) → slots ≤ 2 ^ 40 → or_cause (slots_cause slots) next ≡ next
unfolding or_cause
early_next slots next le = ap (λ (x : Option MuxError). or_cause x next) (few_slots slots le)

pub wrong_periods : (period periods : ℕ) → is_periods period periods ≡ false → periods_cause period periods ≡ Some Periods
wrong_periods period periods e = ap (λ (b : Bool). if b then None else Some Periods) e

pub right_periods : (period periods : ℕ) → is_periods period periods ≡ true → periods_cause period periods ≡ None
right_periods period periods e = ap (λ (b : Bool). if b then None else Some Periods) e

-- If the job's numbers give no cause, the cause comes from the units.
pub refuses_as : (early : Option MuxError) (line d : Scheduled) (units : List (ℕ × AccessUnit)) (result : Result ℕ MuxError) → early ≡ None → line ≡ d →
    Refuses None (job_cause None line units) result → Refuses early (job_cause early d units) result
refuses_as early line d units result none same r =
    subst (λ (x : Option MuxError). Refuses x (job_cause x d units) result) (sym none)
    (subst (λ (x : Scheduled). Refuses None (job_cause None x units) result) same r)

-- If there is no cause, no result of writing all slots is a refusal.
pub answers : (cause : Option MuxError) (out : List ℕ) (old new : Option (List ℕ)) (result : Result ℕ MuxError) → cause ≡ None → WritesAll out old new result →
    Refuses None cause result
answers cause out old new (Ok sent) none w = none
answers cause out old new (Err TooManySlots) none w = absurd w
answers cause out old new (Err Periods) none w = absurd w
answers cause out old new (Err (Feed index refused)) none w = absurd w
answers cause out old new (Err (Device sent)) none w = none
answers cause out old new (Err Memory) none w = absurd w

pub writes : (out : List ℕ) (old new : Option (List ℕ)) (result : Result ℕ MuxError) → length out < 2 ^ 64 → WritesAll out old new result →
    Writes out old new result
writes out old new (Ok sent) short w = w.1
writes out old new (Err TooManySlots) short w = absurd w
writes out old new (Err Periods) short w = absurd w
writes out old new (Err (Feed index refused)) short w = absurd w
writes out old new (Err (Device sent)) short w =
    let exact : sent ≡ w.count = omega (arith, w.sent_is, w.within, short) in
    (omega (arith, exact, w.within), subst (λ (n : ℕ). Appends old new (take n out)) (sym exact) w.taken)
writes out old new (Err Memory) short w = absurd w

pub sends : (out : List ℕ) (size : ℕ) (old new : Option (List ℕ)) (result : Result ℕ MuxError) → length out ≡ size → size < 2 ^ 64 →
    WritesAll out old new result →
    IfOk result (λ sent. sent ≡ size)
sends out size old new (Ok sent) is short w = omega (arith, w.0, is, short)
sends out size old new (Err e) is short w = tt

pub on_writing : {P : Type 0} (result : Result ℕ MuxError) → P → OnWriting result P
on_writing (Ok sent) p = p
on_writing (Err TooManySlots) p = tt
on_writing (Err Periods) p = tt
on_writing (Err (Feed index refused)) p = tt
on_writing (Err (Device sent)) p = p
on_writing (Err Memory) p = tt

-- Jobs whose units are all accepted

-- The output has the length of its slots.
pub fed_size : (old new : MuxState) (units : List (ℕ × AccessUnit)) (hex : Bool) (slots : ℕ) → IsInRange old.schedule.description → AllFed old units new →
    length (output_of hex old.schedule (job_history units slots)) ≡ slot_size hex * slots
fed_size old new units hex slots ranges fed =
    output_size hex (content_at old.schedule (λ k. units_of k units)) 0 slots
    (subst (λ (d : Scheduled). Fits (content_at d (λ k. units_of k units))) fed.same_schedule
    (contents_fit new.schedule (λ k. units_of k units) (subst (λ (d : Scheduled). IsInRange d.description) (sym fed.same_schedule) ranges)
    (units_kept (job_history units 0) new (subst (λ (d : Scheduled). IsInRange d.description) (sym fed.same_schedule) ranges) fed.represents)))

pub fed_short : (old new : MuxState) (units : List (ℕ × AccessUnit)) (hex : Bool) (slots : ℕ) → IsInRange old.schedule.description → slots ≤ 2 ^ 40 →
    AllFed old units new →
    length (output_of hex old.schedule (job_history units slots)) < 2 ^ 64
fed_short old new units hex slots ranges most fed =
    subst (λ (n : ℕ). n < 2 ^ 64) (sym (fed_size old new units hex slots ranges fed)) (output_short hex slots most)

-- The output keeps every promise.
pub fed_headline : (old new : MuxState) (units : List (ℕ × AccessUnit)) (slots : ℕ) → IsInRange old.schedule.description →
    Promised old.schedule.description old.schedule.schedule →
    AllFed old units new → Headline old.schedule (λ k. units_of k units) slots (bytes_of old.schedule (job_history units slots))
fed_headline old new units slots ranges promised fed =
    subst (λ (d : Scheduled). Headline d (λ k. units_of k units) slots (run_bytes (content_at d (λ k. units_of k units)) 0 slots)) fed.same_schedule
    (any_state (job_history units 0) new slots (subst (λ (d : Scheduled). IsInRange d.description) (sym fed.same_schedule) ranges)
    (subst (λ (d : Scheduled). Promised d.description d.schedule) (sym fed.same_schedule) promised) fed.represents)

-- The output can be measured, and no fault is found in it.
pub fed_measured : (old new : MuxState) (units : List (ℕ × AccessUnit)) (slots : ℕ) → IsInRange old.schedule.description →
    Promised old.schedule.description old.schedule.schedule →
    AllFed old units new → MeasuresWell old.schedule units (bytes_of old.schedule (job_history units slots))
fed_measured old new units slots ranges promised fed =
    measures_well old.schedule units slots (bytes_of old.schedule (job_history units slots)) (fed_headline old new units slots ranges promised fed)
    (accepted_declared old.schedule old.capacity [] units fed.none_refused)

-- Writing with the fed multiplexer writes the output that the first multiplexer's schedule defines.
pub fed_writes : (old new : MuxState) (units : List (ℕ × AccessUnit)) (hex : Bool) (slots : ℕ) (before after : Option (List ℕ)) (result : Result ℕ MuxError)
    (kept : Bool) →
    AllFed old units new → kept ≡ hex → WritesAll (run_output kept (content_at new.schedule (λ k. units_of k units)) 0 slots) before after result →
    WritesAll (output_of hex old.schedule (job_history units slots)) before after result
fed_writes old new units hex slots before after result kept fed same w =
    subst (λ (b : Bool). WritesAll (run_output b (content_at old.schedule (λ k. units_of k units)) 0 slots) before after result) same
    (subst (λ (d : Scheduled). WritesAll (run_output kept (content_at d (λ k. units_of k units)) 0 slots) before after result) fed.same_schedule w)
