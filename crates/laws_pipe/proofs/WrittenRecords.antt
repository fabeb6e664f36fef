-- The records of the units of a job, read one after another.
use Rattle.std.proofs.Common.{◌≡◌, ◌≤◌, ◌<◌, ℕ, zero, suc, ◌+◌, Bool, true, false, cond, is_some, List, [], ◌∷◌, ◌++◌, length, length-append, slice_get, Some}
use Rattle.std.proofs.Common.{None, Ok, All, refl, sym, ap, ◌∙◌, subst, arith, append_assoc}
use Rattle.std.proofs.lemmas.List.Elements.{All-nil, All-cons, All-head, All-tail, All-weaker}
use Rattle.byteorder.specs.Endian.{big_bytes}
use Rattle.pes_packet.specs.AccessUnits.{AccessUnit}
use Rattle.pes_packet.specs.Units.{units_of}
use Rattle.description_parts.specs.Described.{DescribedStream}
use Rattle.description_parts.specs.Ranges.{IsInRange, IsStream}
use Rattle.description.proofs.Pids.{stream_range}
use Rattle.unit_records.specs.Laws.{FitsRecord, RecordsAreRead}
use Rattle.unit_records.specs.Records.{after_record, private_bytes, private_size, record_at, record_bytes, record_head, word_of}
use Rattle.es_feed.specs.Records.{records_of}
use Rattle.unit_queue.specs.Queues.{IsUnit}
use Rattle.mux_core.specs.Histories.{owned_stream}
use Rattle.mux_core.specs.Headline.{UnitsKept}
use Rattle.mux_core.specs.Scheduled.{Scheduled}
use Rattle.mux_core.proofs.UnitCounts.{own_units, units_append}
use Rattle.laws_job.proofs.AcceptedUnits.{stream_there}
use Rattle.laws_job.proofs.PrivateData.{Sixteen}
use Rattle.checked_jobs.specs.UnitList.{units_from, units_in, units_step, with_first}

abbrev pub Fits : ℕ × AccessUnit → Type 0
Fits entry = FitsRecord entry.1

-- 1. The reader reads each record

no_record : record_at [] ≡ Ok None
unfolding record_at
no_record = refl

read_from : RecordsAreRead → (units : List (ℕ × AccessUnit)) (n index : ℕ) → length units < n → All Fits units →
    units_from n index (records_of units) ≡ Ok units
unfolding units_from units_step with_first
read_from law units zero index lt fits = absurd (omega (arith, lt))
read_from law [] (suc n) index lt fits = ap (λ o. units_step index o (units_from n (index + 1) (after_record []))) no_record
read_from law ((k, u) ∷ units) (suc n) index lt fits =
    let one = law k u (records_of units) (All-head Fits (k, u) units fits) in
    let rest = read_from law units n (index + 1) (omega (arith, lt)) (All-tail Fits (k, u) units fits) in
    ap (λ o. units_step index o (units_from n (index + 1) (after_record (record_bytes k u ++ records_of units)))) one.record_is
    ∙ ap (λ (xs : List ℕ). with_first (k, u) (units_from n (index + 1) xs)) one.rest_is
    ∙ ap (with_first (k, u)) rest

some_bytes : (x : ℕ) (xs : List ℕ) → 1 ≤ length (x ∷ xs)
some_bytes x xs = omega arith

record_some : (k : ℕ) (u : AccessUnit) → 1 ≤ length (record_bytes k u)
unfolding record_head
record_some k u =
    some_bytes k
    ((big_bytes 4 (word_of u.marks (private_size u.marks + length u.bytes)) ++ (big_bytes 8 u.dts ++ (big_bytes 8 u.pts ++ private_bytes u.marks.private_data)))
    ++ u.bytes)

-- A record has bytes.
no_fewer : (units : List (ℕ × AccessUnit)) → length units ≤ length (records_of units)
no_fewer [] = omega arith
no_fewer ((k, u) ∷ units) = omega (arith, length-append (record_bytes k u) (records_of units), record_some k u, no_fewer units)

pub records_read : RecordsAreRead → (units : List (ℕ × AccessUnit)) → All Fits units → units_in (records_of units) ≡ Ok units
records_read law units fits = read_from law units (1 + length (records_of units)) 0 (omega (arith, no_fewer units)) fits

-- 2. Units within a declaration fit

private_most : (private long access : Bool) → cond private 16 0 ≤ cond long 26 (cond private 17 0) + cond access 2 0
private_most true true access = omega arith
private_most true false access = omega arith
private_most false long access = omega arith

unit_fits : (line : Scheduled) (k : ℕ) (s : DescribedStream) (u : AccessUnit) → IsStream s → IsUnit (owned_stream line k s).parameters u × Sixteen u →
    FitsRecord u
unit_fits line k s u range is = record {
  size = omega (arith, is.0.most, range.most_size, private_most (is_some u.marks.private_data) u.marks.long u.marks.random_access);
  dts = omega (arith, is.0.last);
  pts = omega (arith, is.0.last, is.0.soon, range.most_pts_limit);
  marked = λ none. absurd (omega (arith, none, is.0.some));
  sixteen = is.1;
}

-- A property of the units of each stream is a property of all units.
abbrev OfEach : (AccessUnit → Type 0) → ℕ → List (ℕ × AccessUnit) → Type 0
OfEach P count all = (k : ℕ) → k < count → All P (units_of k all)

second_half : (P : AccessUnit → Type 0) (us : List AccessUnit) (u : AccessUnit) (more : List AccessUnit) → All P (us ++ (u ∷ more)) → P u
second_half P [] u more all = All-head P u more all
second_half P (x ∷ us) u more all = second_half P us u more (All-tail P x (us ++ (u ∷ more)) all)

after_them : (P : AccessUnit → Type 0) (count : ℕ) (fed units : List (ℕ × AccessUnit)) → OfEach P count (fed ++ units) → All (λ e. e.0 < count) units →
    All (λ e. P e.1) units
after_them P count fed [] each below = All-nil (λ e. P e.1)
after_them P count fed (entry ∷ units) each below =
    let parts : units_of entry.0 (fed ++ (entry ∷ units)) ≡ units_of entry.0 fed ++ (entry.1 ∷ units_of entry.0 units) =
    units_append entry.0 fed (entry ∷ units) ∙ ap (λ (us : List AccessUnit). units_of entry.0 fed ++ us) (own_units entry.0 entry units refl) in
    let own = subst (All P) parts (each entry.0 (All-head (λ e. e.0 < count) entry units below)) in
    All-cons (λ e. P e.1) entry units (second_half P (units_of entry.0 fed) entry.1 (units_of entry.0 units) own)
    (after_them P count (fed ++ (entry ∷ [])) units (subst (OfEach P count) (sym (append_assoc fed (entry ∷ []) units)) each)
    (All-tail (λ e. e.0 < count) entry units below))

pub of_all : (P : AccessUnit → Type 0) (count : ℕ) (units : List (ℕ × AccessUnit)) → ((k : ℕ) → k < count → All P (units_of k units)) →
    All (λ e. e.0 < count) units → All (λ e. P e.1) units
of_all P count units each below = after_them P count [] units each below

both_of : (P Q : AccessUnit → Type 0) (us : List AccessUnit) → All P us → All Q us → All (λ u. P u × Q u) us
both_of P Q [] all each = All-nil (λ (u : AccessUnit). P u × Q u)
both_of P Q (u ∷ us) all each =
    All-cons (λ v. P v × Q v) u us (All-head P u us all, All-head Q u us each) (both_of P Q us (All-tail P u us all) (All-tail Q u us each))

pub units_fit : (line : Scheduled) (units : List (ℕ × AccessUnit)) → IsInRange line.description → UnitsKept line (λ k. units_of k units) →
    ((k : ℕ) (s : DescribedStream) → slice_get line.description.streams k ≡ Some s → All Sixteen (units_of k units)) →
    All (λ e. e.0 < length line.description.streams) units → All Fits units
units_fit line units ranges kept sixteen below = of_all FitsRecord (length line.description.streams) units of_stream below
  where
    of_stream : (k : ℕ) → k < length line.description.streams → All FitsRecord (units_of k units)
    of_stream k lt =
        let s = stream_there line.description.streams k lt in
        All-weaker (λ u. IsUnit (owned_stream line k s.0).parameters u × Sixteen u) FitsRecord
        (λ u is. unit_fits line k s.0 u (stream_range line.description k s.0 ranges s.1) is) (units_of k units)
        (both_of (IsUnit (owned_stream line k s.0).parameters) Sixteen (units_of k units) (kept.kept k s.0 s.1).units (sixteen k s.0 s.1))
