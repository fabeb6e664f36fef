-- If the bytes of all packets arrive in order, the bytes of a stream's packets do too, from any packet on.
use Rattle.std.proofs.Common.{◌≡◌, ◌∙◌, ℕ, ◌+◌, ◌*◌, ◌≤◌, ◌&&◌, nat_le, Bool, true, false, List, [], ◌∷◌, ◌++◌, length, if◌then◌else◌, refl, ap, subst, arith}
use Rattle.std.proofs.Common.{All}
use Rattle.std.proofs.lemmas.Bool.{le-leb, lt-leb}
use Rattle.std.proofs.Math.Nat.{mul-le-mul_right}
use Rattle.std.proofs.lemmas.List.Elements.{All-cons, All-head, All-nil, All-tail}
use Rattle.arrival.specs.Arrivals.{lead_of, step_of}
use Rattle.arrival.specs.declared.arrival.Arrival.TheVariants.{AtRate}
use Rattle.tstd_rows.specs.TransportLaws.{Rises}
use Rattle.laws_view.specs.Leads.{AllLead}
use Rattle.laws_view.specs.TimedPackets.{Timed, arriving_so}
use Rattle.laws_view.specs.Times.{packet_times, time_of, times_among}
use Rattle.laws_view.proofs.Rising.{among-append, packets_between}
use Rattle.laws_view.specs.TimedStreams.{RateOrderLaw}

-- Chooses only packets from an index on.
abbrev from : ℕ → (ℕ → List ℕ → Bool) → ℕ → List ℕ → Bool
from low chosen index bytes = nat_le low index && chosen index bytes

none_chosen : (low : ℕ) (chosen : ℕ → List ℕ → Bool) (drain index : ℕ) (packets : List Timed) → index + length packets ≤ low →
    times_among (from low chosen) drain index packets ≡ []
unfolding times_among
none_chosen low chosen drain index [] few = refl
none_chosen low chosen drain index (p ∷ packets) few =
    let before : nat_le low index ≡ false = lt-leb low index (omega (arith, few)) in
    rw before (none_chosen low chosen drain (index + 1) packets (omega (arith, few)))

all_chosen : (low : ℕ) (chosen : ℕ → List ℕ → Bool) (drain index : ℕ) (packets : List Timed) → low ≤ index →
    times_among (from low chosen) drain index packets ≡ times_among chosen drain index packets
unfolding times_among
all_chosen low chosen drain index [] le = refl
all_chosen low chosen drain index (p ∷ packets) le =
    let after : nat_le low index ≡ true = le-leb low index le in
    rw after
    (ap (λ (ts : List ℕ). (if chosen index p.bytes then packet_times drain index p.arrival else []) ++ ts)
    (all_chosen low chosen drain (index + 1) packets (omega (arith, le))))

pub later_rise : (chosen : ℕ → List ℕ → Bool) (drain : ℕ) (before rest : List Timed) →
    ((chosen : ℕ → List ℕ → Bool) (drain : ℕ) → Rises 0 (times_among chosen drain 0 (before ++ rest))) → Rises 0 (times_among chosen drain (length before) rest)
later_rise chosen drain before rest rises =
    let low : ℕ = length before in
    let first : times_among (from low chosen) drain 0 before ≡ [] = none_chosen low chosen drain 0 before (omega arith) in
    let second : times_among (from low chosen) drain (0 + length before) rest ≡ times_among chosen drain low rest =
    all_chosen low chosen drain (0 + length before) rest (omega arith)
    ∙ ap (λ (i : ℕ). times_among chosen drain i rest) (let e : 0 + length before ≡ low = omega arith in e) in
    let all : times_among (from low chosen) drain 0 (before ++ rest) ≡ times_among chosen drain low rest =
    among-append (from low chosen) drain 0 before rest ∙ ap (λ (ts : List ℕ). ts ++ times_among (from low chosen) drain (0 + length before) rest) first
    ∙ second in
    subst (λ (ts : List ℕ). Rises 0 ts) all (rises (from low chosen) drain)

pub later_leads : (index : ℕ) (before rest : List Timed) → AllLead index (before ++ rest) → AllLead (index + length before) rest
unfolding AllLead
later_leads index [] rest all = let e : index + 0 ≡ index = omega arith in rw e all
later_leads index (p ∷ before) rest all =
    let e : index + 1 + length before ≡ index + length (p ∷ before) = omega arith in
    rw e at (later_leads (index + 1) before rest all.1)

pub that_one : (P : Timed → Type 0) (before : List Timed) (p : Timed) (later : List Timed) → All P (before ++ p ∷ later) → P p
that_one P [] p later all = All-head P p later all
that_one P (q ∷ before) p later all = that_one P before p later (All-tail P q (before ++ p ∷ later) all)

-- Packets at a constant rate

rate_rises : (rate : ℕ) (packets : List (List ℕ)) (chosen : ℕ → List ℕ → Bool) (drain : ℕ) →
    Rises 0 (times_among chosen drain 0 (arriving_so (AtRate rate) packets))
unfolding time_of
rate_rises rate packets chosen drain =
    let all = packets_between (AtRate rate) chosen drain 0 packets (λ i j le. mul-le-mul_right drain le) in
    let zero : 188 * 0 * drain ≡ 0 = omega arith in
    subst (λ (n : ℕ). Rises n (times_among chosen drain 0 (arriving_so (AtRate rate) packets))) zero all.rises

rate_leads : (rate index : ℕ) (packets : List (List ℕ)) → AllLead index (arriving_so (AtRate rate) packets)
unfolding AllLead lead_of
rate_leads rate index [] = tt
rate_leads rate index (bytes ∷ packets) = (λ some. absurd (let no : ⊥ = omega (arith, some) in no), rate_leads rate (index + 1) packets)

rate_same : (rate : ℕ) (packets : List (List ℕ)) → All (λ p. step_of p.arrival ≡ rate) (arriving_so (AtRate rate) packets)
unfolding step_of
rate_same rate [] = All-nil (λ p. step_of p.arrival ≡ rate)
rate_same rate (bytes ∷ packets) =
    All-cons (λ p. step_of p.arrival ≡ rate) (record { arrival = AtRate rate; bytes = bytes }) (arriving_so (AtRate rate) packets) refl (rate_same rate packets)

pub rate_order_law : RateOrderLaw
rate_order_law rate packets = record { rises = rate_rises rate packets; leads = rate_leads rate 0 packets; same = rate_same rate packets }
