-- A demultiplexer finds in the bytes of a job the units that were found in its input.
use Rattle.std.proofs.Common.{◌≡◌, ◌≤◌, ℕ, ◌+◌, ◌-◌, ◌^◌, ◌%◌, List, [], ◌∷◌, length, map, Some, None, slice_get, All, refl, sym, ap, ◌∙◌, arith}
use Rattle.std.proofs.lemmas.List.Elements.{All-nil, All-cons, All-head, All-tail}
use Rattle.own_slots.specs.Slots.{own_slots}
use Rattle.pes_packet.specs.AccessUnits.{AccessUnit}
use Rattle.pes_packet.specs.Units.{units_of}
use Rattle.description_parts.specs.Described.{DescribedStream}
use Rattle.unit_timing.specs.Plans.{KeepsDeclaration}
use Rattle.slot_plan.specs.Promised.{declaration, Promised}
use Rattle.unit_queue.specs.OwnedStreams.{timed}
use Rattle.unit_queue.specs.Queues.{IsUnit, Kept}
use Rattle.unit_queue.specs.declared.parameters.StreamParameters.{StreamParameters}
use Rattle.mux_core.specs.Scheduled.{Scheduled}
use Rattle.mux_core.specs.Histories.{owned_stream}
use Rattle.laws_run.specs.PidLaws.{all_found}
use Rattle.laws_run.specs.GivenBack.{GivenBack}
use Rattle.laws_run.specs.Placed.{sent_units}
use Rattle.es_units.specs.CarriedUnits.{wire_units}
use Rattle.es_units.proofs.CarriedUnits.{same_units}
use Rattle.job_programs.specs.FoundUnits.{AreMoved}
use Rattle.laws_job.specs.Laws.{AllDue, later_by, IsOnWire}
use Rattle.laws_job.proofs.PrivateData.{Sixteen}
use Rattle.laws_job.proofs.SentWhole.{IsWhole, sent_whole}
use Rattle.laws_job.proofs.WholeUnits.{found_again, moved_later}

some_bytes : (r : StreamParameters) (us : List AccessUnit) → All (IsUnit r) us → All (λ u. 1 ≤ length u.bytes) us
some_bytes r [] all = All-nil (λ (u : AccessUnit). 1 ≤ length u.bytes)
some_bytes r (u ∷ us) all =
    All-cons (λ (v : AccessUnit). 1 ≤ length v.bytes) u us (All-head (IsUnit r) u us all).some (some_bytes r us (All-tail (IsUnit r) u us all))

-- Units that keep their declaration and are all due are sent whole.
whole : (line : Scheduled) (k n : ℕ) (s : DescribedStream) (us : List AccessUnit) → Promised line.description line.schedule →
    slice_get line.description.streams k ≡ Some s →
    Kept (owned_stream line k s) us → AllDue line.description.rate n us → All (IsWhole (owned_stream line k s)) (sent_units (owned_stream line k s) n us)
whole line k n s us promised is kept due =
    let keeps : KeepsDeclaration (declaration s) (map (timed (owned_stream line k s)) us) =
    record { spaced = kept.spaced; sized = kept.sized; allowed = kept.allowed } in
    sent_whole (owned_stream line k s) s.rx n us due ((promised.streams k s (map (timed (owned_stream line k s)) us) is keeps).arrived n)

-- The units are found on their PID.
units_again : (line : Scheduled) (units : ℕ → List AccessUnit) (n k : ℕ) (s : DescribedStream) (bytes : List ℕ) → Promised line.description line.schedule →
    slice_get line.description.streams k ≡ Some s → Kept (owned_stream line k s) (units k) → All Sixteen (units k) → AllDue line.description.rate n (units k) →
    GivenBack line units n bytes → wire_units s.pid (all_found bytes) ≡ map (later_by line.description.base0) (units k)
units_again line units n k s bytes promised is kept sixteen due back =
    let l = owned_stream line k s in
    let us = units k in
    ap (map (λ u. u.unit)) (sym (same_units s.pid (all_found bytes))) ∙ ap (wire_units s.pid) (back.streams k s is)
    ∙ found_again s.pid n l us (own_slots l.own 0 n) (whole line k n s us promised is kept due) (some_bytes l.parameters us kept.units) sixteen

-- The found units are the units on the wire with later stamps.
wire_again : (base base0 : ℕ) (wire us found : List AccessUnit) → AreMoved wire base us → found ≡ map (later_by base0) us →
    found ≡ map (later_by (base0 + 2 ^ 33 - base)) wire
wire_again base base0 wire us found are is = is ∙ ap (map (later_by base0)) are.are ∙ moved_later base base0 None wire are.range

-- Stamps that are moved by the whole range are unchanged.
pub same_stamps : (time : ℕ) (us : List AccessUnit) → All IsOnWire us → map (later_by (time + 2 ^ 33 - time)) us ≡ us
same_stamps time [] all = refl
same_stamps time (u ∷ us) all =
    let own = All-head IsOnWire u us all in
    let dts : (u.dts + (time + 2 ^ 33 - time)) % 2 ^ 33 ≡ u.dts = omega (arith, own.0) in
    let pts : (u.pts + (time + 2 ^ 33 - time)) % 2 ^ 33 ≡ u.pts = omega (arith, own.1) in
    rw (dts, pts, same_stamps time us (All-tail IsOnWire u us all)) refl

pub again : (base : ℕ) (line : Scheduled) (wire : List AccessUnit) (units : List (ℕ × AccessUnit)) (n k : ℕ) (s : DescribedStream) (bytes : List ℕ) →
    Promised line.description line.schedule → slice_get line.description.streams k ≡ Some s → Kept (owned_stream line k s) (units_of k units) →
    All Sixteen (units_of k units) → AreMoved wire base (units_of k units) → AllDue line.description.rate n (units_of k units) →
    GivenBack line (λ j. units_of j units) n bytes →
    wire_units s.pid (all_found bytes) ≡ map (later_by (line.description.base0 + 2 ^ 33 - base)) wire
again base line wire units n k s bytes promised is kept sixteen moved due back =
    wire_again base line.description.base0 wire (units_of k units) (wire_units s.pid (all_found bytes)) moved
    (units_again line (λ j. units_of j units) n k s bytes promised is kept sixteen due back)
