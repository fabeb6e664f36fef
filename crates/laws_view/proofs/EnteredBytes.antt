-- When the bytes of packets arrive if the packets enter buffers at a constant rate
use Rattle.std.proofs.Common.{◌≡◌, ◌∙◌, sym, ℕ, suc, ◌+◌, ◌-◌, ◌*◌, ◌^◌, ◌≤◌, ◌<◌, ◌&&◌, nat_le, nat_lt, Bool, true, false, List, [], ◌∷◌, ◌++◌, length, Option}
use Rattle.std.proofs.Common.{Some, None, if◌then◌else◌, refl, ap, subst, inl, inr, arith}
use Rattle.std.proofs.lemmas.Bool.Decides.{eqb_tells, nat_tests}
use Rattle.std.proofs.lemmas.List.{append_assoc, append-nil}
use Rattle.clock27.specs.Arrival.{bytes_from}
use Rattle.tstd.proofs.ByteRows.{row_split, length-row}
use Rattle.arrival.specs.declared.arrival.Arrival.{Arrival}
use Rattle.arrival.specs.declared.arrival.Arrival.TheVariants.{AtRate}
use Rattle.arrival.specs.Arrivals.{has_times, times_at}
use Rattle.tstd_rows.specs.History.{arrivals_of}
use Rattle.tstd_rows.specs.declared.unit_seen.DueTime.{DueTime}
use Rattle.tstd_rows.specs.declared.arriving.Arriving.{Arriving}
use Rattle.tstd_rows.specs.Held.{Held, carried, passed}
use Rattle.tstd_rows.specs.Entering.{after, after_begin, after_bytes, after_header, after_lead, after_payload, after_unit, lead_in, size_of, takes_in}
use Rattle.tstd_rows.specs.Entering.{with_packet}
use Rattle.laws_view.specs.StreamPackets.{most_packets}

-- The rate, the drain rate and the size do not change.
pub record Alike (h h' : Held) : Type 0 where
  pub rate : h'.rate ≡ h.rate
  pub rx : h'.rx ≡ h.rx
  pub size : h'.main.size ≡ h.main.size

-- Bytes with these times have arrived.
pub record Arrives (h h' : Held) (times : List ℕ) : Type 0 where
  pub alike : Alike h h'
  pub arrivals : arrivals_of h'.parts ≡ arrivals_of h.parts ++ times

pub no_times : (times : List ℕ) → length times ≡ 0 → times ≡ []
no_times [] e = refl
no_times (t ∷ ts) e = absurd (let no : ⊥ = omega (arith, e) in no)

enters_arrives : (h : Held) (enters : Bool) (times : List ℕ) → Arrives h (if enters then carried h times else passed h times) times
unfolding arrivals_of
enters_arrives h true times = record { alike = record { rate = refl; rx = refl; size = refl }; arrivals = refl }
enters_arrives h false times = record { alike = record { rate = refl; rx = refl; size = refl }; arrivals = refl }

pub payload_arrives : (h : Held) (enters : Bool) (n : ℕ) (times : List ℕ) → length times ≡ n → Arrives h (after_payload h enters n times) times
unfolding after_payload
payload_arrives h enters n times e = elim (eqb_tells n 0) [
  | inl none ↦ rw (none.0, no_times times (e ∙ none.1))
      (record { alike = record { rate = refl; rx = refl; size = refl }; arrivals = sym (append-nil (arrivals_of h.parts)) })
  | inr some ↦ rw some.0 (enters_arrives h enters times)
]

pub begin_arrives : (h : Held) (due : Option DueTime) → Arrives h (after_begin h due) []
unfolding after_begin arrivals_of
begin_arrives h None = record { alike = record { rate = refl; rx = refl; size = refl }; arrivals = sym (append-nil (arrivals_of h.parts)) }
begin_arrives h (Some due) = record { alike = record { rate = refl; rx = refl; size = refl }; arrivals = sym (append-nil (arrivals_of h.parts)) }

pub alike_trans : (a b c : Held) → Alike a b → Alike b c → Alike a c
alike_trans a b c p q = record { rate = q.rate ∙ p.rate; rx = q.rx ∙ p.rx; size = q.size ∙ p.size }

pub arrives_trans : (a b c : Held) (ts us : List ℕ) → Arrives a b ts → Arrives b c us → Arrives a c (ts ++ us)
arrives_trans a b c ts us p q = record {
  alike = alike_trans a b c p.alike q.alike;
  arrivals = q.arrivals ∙ rw p.arrivals (append_assoc (arrivals_of a.parts) ts us);
}

-- The bytes of a packet in three parts
pub three_rows : (r i lead size : ℕ) → lead + size ≤ 188 →
    bytes_from r i lead ++ (bytes_from r (i + lead) (188 - size - lead) ++ ([] ++ bytes_from r (i + (188 - size)) size)) ≡ bytes_from r i 188
three_rows r i lead size le =
    let whole : lead + (188 - lead) ≡ 188 = omega (arith, le) in
    let rest : (188 - size - lead) + size ≡ 188 - lead = omega (arith, le) in
    let place : i + lead + (188 - size - lead) ≡ i + (188 - size) = omega (arith, le) in
    let first = rw whole at (row_split r i lead (188 - lead)) in
    let last = rw (rest, place) at (row_split r (i + lead) (188 - size - lead) size) in
    sym (first ∙ ap (λ (l : List ℕ). bytes_from r i lead ++ l) last)

-- The n bytes of the stream from byte i on arrive.
pub bytes_arrive : (h : Held) (rate rx : ℕ) (enters : Bool) (i n : ℕ) → h.rx ≡ rx → Arrives h (after_bytes h (AtRate rate) enters i n) (bytes_from rx i n)
unfolding times_at
bytes_arrive h rate rx enters i n e =
    subst (λ (r : ℕ). Arrives h (after_bytes h (AtRate rate) enters i n) (bytes_from r i n)) e
    (payload_arrives h enters n (bytes_from h.rx i n) (length-row h.rx i n))

with_parts : (h : Held) (rate : ℕ) (p : Arriving) (size lead : ℕ) → lead + size ≤ 188 →
    Arrives h (with_packet h (AtRate rate) p size lead) (bytes_from h.rx (188 * p.index) 188)
with_parts h rate p size lead le =
    let a : Held = after_lead h (AtRate rate) p lead in
    let b : Held = after_header h (AtRate rate) p size lead in
    let c : Held = after_unit h (AtRate rate) p size lead in
    let d : Held = with_packet h (AtRate rate) p size lead in
    let first : Arrives h a (bytes_from h.rx (188 * p.index) lead) = bytes_arrive h rate h.rx false (188 * p.index) lead refl in
    let second : Arrives a b (bytes_from h.rx (188 * p.index + lead) (188 - size - lead)) =
    bytes_arrive a rate h.rx false (188 * p.index + lead) (188 - size - lead) first.alike.rx in
    let third : Arrives b c [] = begin_arrives b p.begins in
    let fourth : Arrives c d (bytes_from h.rx (188 * p.index + (188 - size)) size) =
    bytes_arrive c rate h.rx p.enters (188 * p.index + (188 - size)) size (third.alike.rx ∙ second.alike.rx ∙ first.alike.rx) in
    let all = arrives_trans h a d _ _ first (arrives_trans a b d _ _ second (arrives_trans b c d _ _ third fourth)) in
    rw (three_rows h.rx (188 * p.index) lead size le) at all

pub packet_arrives : (h : Held) (rate : ℕ) (p : Arriving) → takes_in h (AtRate rate) p ≡ true →
    Arrives h (after h (AtRate rate) p) (bytes_from h.rx (188 * p.index) 188)
unfolding after
packet_arrives h rate p e =
    rw e (with_parts h rate p (size_of p) (lead_in (AtRate rate) p) (omega arith))

-- Each packet in the first 2^40 bytes is taken in.
pub taken_in : (h : Held) (rate : ℕ) (p : Arriving) → p.index < most_packets → length (arrivals_of h.parts) ≤ 188 * p.index → takes_in h (AtRate rate) p ≡ true
unfolding has_times
taken_in h rate p early few =
    by_tests p.index most_packets (0 + length (arrivals_of h.parts)) (2 ^ 40 - 188) (188 * p.index + 188) (2 ^ 40) early (omega (arith, early, few))
    (omega (arith, early))
  where
    by_tests : (a b c d e f : ℕ) → a < b → c ≤ d → e ≤ f → (nat_lt a b && nat_le c d && nat_le e f) ≡ true
    by_tests a b c d e f lt le le' = grind (arith, nat_tests)

-- These packets come one after another, none of them before this index.
unfoldable pub ComeFrom : ℕ → List Arriving → Type 0
ComeFrom low [] = Unit {0}
ComeFrom low (p ∷ ps) = (low ≤ p.index) × (p.index < most_packets) × ComeFrom (suc p.index) ps

-- A payload changes neither rate nor size, whatever its times.
pub payload_alike : (h : Held) (enters : Bool) (n : ℕ) (times : List ℕ) → Alike h (after_payload h enters n times)
unfolding after_payload
payload_alike h enters n times = elim (eqb_tells n 0) [
  | inl none ↦ rw none.0 (record { rate = refl; rx = refl; size = refl })
  | inr some ↦ rw some.0 (enters_arrives h enters times).alike
]

pub after_alike : (h : Held) (arrival : Arrival) (p : Arriving) → Alike h (after h arrival p)
unfolding after
after_alike h arrival p = by (takes_in h arrival p)
  where
    size : ℕ
    size = size_of p

    lead : ℕ
    lead = lead_in arrival p

    by : (b : Bool) → Alike h (if b then with_packet h arrival p size lead else h)
    by true =
        let a : Held = after_lead h arrival p lead in
        let b : Held = after_header h arrival p size lead in
        let c : Held = after_unit h arrival p size lead in
        let d : Held = with_packet h arrival p size lead in
        let first = payload_alike h false lead (times_at arrival h.rx (188 * p.index) lead) in
        let second : Alike a b = payload_alike a false (188 - size - lead) (times_at arrival a.rx (188 * p.index + lead) (188 - size - lead)) in
        let third : Alike b c = (begin_arrives b p.begins).alike in
        let fourth : Alike c d = payload_alike c p.enters size (times_at arrival c.rx (188 * p.index + (188 - size)) size) in
        alike_trans h a d first (alike_trans a b d second (alike_trans b c d third fourth))
    by false = record { rate = refl; rx = refl; size = refl }
