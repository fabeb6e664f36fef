-- An elementary stream buffer that never holds more than its size has no excess.
use Rattle.std.proofs.Common.{◌≡◌, ◌∙◌, ℕ, ◌+◌, ◌-◌, ◌*◌, ◌≤◌, nat_lt, Bool, true, false, List, [], ◌∷◌, Option, Some, None, if◌then◌else◌, refl, ap}
use Rattle.std.proofs.Common.{inl, inr, arith}
use Rattle.std.specs.Prelude.{flat_map}
use Rattle.std.specs.Option.{option_to_list}
use Rattle.std.proofs.lemmas.Bool.{le-ltb}
use Rattle.std.proofs.lemmas.Bool.Decides.{eqb_tells}
use Rattle.clock27.specs.Peak.{greatest_at}
use Rattle.arrival.specs.declared.arrival.Arrival.{Arrival}
use Rattle.arrival.specs.Arrivals.{times_at}
use Rattle.tstd_rows.specs.declared.excess.Excess.{Excess}
use Rattle.tstd_rows.specs.History.{Part}
use Rattle.tstd_rows.specs.History.Part.{Passes, Carries, Begins}
use Rattle.tstd_rows.specs.MainExcess.{ended_at}
use Rattle.tstd_rows.specs.VideoViewed.{elementary_held, leaked_after}
use Rattle.tstd_rows.specs.declared.arriving.Arriving.{Arriving}
use Rattle.tstd_rows.specs.Held.{Held, carried, passed}
use Rattle.tstd_rows.specs.HeldVideo.{VideoSizes, elementary_found, elementary_under_way, last_entry, nothing_found, video_found}
use Rattle.tstd_rows.specs.Entering.{after, after_header, after_lead, after_payload, after_unit, lead_in, size_of, takes_in, with_packet}
use Rattle.tstd_rows.specs.EnteringVideo.{payload_video, video_of, video_with}
use Rattle.laws_view.specs.StreamPackets.{after_each}
use Rattle.laws_view.specs.VideoExcesses.{video_each}
use Rattle.laws_view.proofs.EnteredBytes.{Alike, after_alike, alike_trans, begin_arrives, payload_alike}
use Rattle.laws_view.proofs.VideoBytes.{begin_held, same_passed}

-- If a buffer never holds more than n bytes, its greatest fullness at these moments is at most n.
pub greatest_below : (f : ℕ → ℕ) (n : ℕ) (ds : List ℕ) → ((x : ℕ) → f x ≤ n) → greatest_at f ds ≤ n
unfolding greatest_at
greatest_below f n [] few = omega arith
greatest_below f n (d ∷ ds) few = omega (arith, few d, greatest_below f n ds few)

-- If the buffer never holds more than its size, no excess is open.
pub none_under_way : (rate leak size : ℕ) (parts : List Part) → ((x : ℕ) → elementary_held rate leak parts x ≤ size) →
    elementary_under_way rate leak size parts ≡ None
unfolding elementary_held elementary_under_way
none_under_way rate leak size [] few = refl
none_under_way rate leak size (Passes times ∷ before) few = none_under_way rate leak size before few
none_under_way rate leak size (Begins due ∷ before) few = none_under_way rate leak size before few
none_under_way rate leak size (Carries times ∷ before) few =
    let found : ℕ = elementary_found rate leak before times in
    let fits : found ≤ size = greatest_below (elementary_held rate leak (Carries times ∷ before)) size (leaked_after rate leak before times) few in
    rw (le-ltb size found fits) refl

-- No excess ends with bytes that come.
either : (b : Bool) (o : Option Excess) → o ≡ None → (if b then None else o) ≡ None
either true o none = refl
either false o none = none

none_ends : (sizes : VideoSizes) (rate : ℕ) (before : List Part) (times : List ℕ) → elementary_under_way rate sizes.leak sizes.elementary before ≡ None →
    (video_found (Some sizes) rate before times).elementary ≡ None
unfolding video_found ended_at
none_ends sizes rate before times none =
    let last : ℕ = last_entry rate sizes.leak before times in
    either (nat_lt sizes.elementary (elementary_found rate sizes.leak before times))
    (ended_at (elementary_under_way rate sizes.leak sizes.elementary before) last)
    (ap (λ (u : Option Excess). ended_at u last) none)

none_goes : (sizes : VideoSizes) (h : Held) (enters : Bool) (times : List ℕ) → elementary_under_way h.rate sizes.leak sizes.elementary h.parts ≡ None →
    (if enters then video_found (Some sizes) h.rate h.parts times else nothing_found).elementary ≡ None
none_goes sizes h true times none = none_ends sizes h.rate h.parts times none
none_goes sizes h false times none = refl

none_with_payload : (sizes : VideoSizes) (h : Held) (enters : Bool) (n : ℕ) (times : List ℕ) →
    elementary_under_way h.rate sizes.leak sizes.elementary h.parts ≡ None →
    (payload_video (Some sizes) h enters n times).elementary ≡ None
unfolding payload_video
none_with_payload sizes h enters n times none = elim (eqb_tells n 0) [
  | inl zero ↦ rw zero.0 refl
  | inr some ↦ rw some.0 (none_goes sizes h enters times none)
]

-- More bytes in the elementary stream buffer

held_goes : (h : Held) (enters : Bool) (times : List ℕ) (rate leak x : ℕ) →
    elementary_held rate leak h.parts x ≤ elementary_held rate leak (if enters then carried h times else passed h times).parts x
unfolding elementary_held
held_goes h true times rate leak x = omega arith
held_goes h false times rate leak x = omega arith

held_payload : (h : Held) (enters : Bool) (n : ℕ) (times : List ℕ) (rate leak x : ℕ) →
    elementary_held rate leak h.parts x ≤ elementary_held rate leak (after_payload h enters n times).parts x
unfolding after_payload
held_payload h enters n times rate leak x = elim (eqb_tells n 0) [
  | inl none ↦ rw none.0 (omega arith)
  | inr some ↦ rw some.0 (held_goes h enters times rate leak x)
]

-- The bytes before the payload of a packet, and the unit that begins
pub record Before (h c : Held) : Type 0 where
  pub rate : c.rate ≡ h.rate
  pub held : (rate leak x : ℕ) → elementary_held rate leak c.parts x ≡ elementary_held rate leak h.parts x

pub before_payload : (h : Held) (arrival : Arrival) (p : Arriving) (size lead : ℕ) → Before h (after_unit h arrival p size lead)
before_payload h arrival p size lead =
    let a : Held = after_lead h arrival p lead in
    let b : Held = after_header h arrival p size lead in
    let c : Held = after_unit h arrival p size lead in
    let one : List ℕ = times_at arrival h.rx (188 * p.index) lead in
    let two : List ℕ = times_at arrival a.rx (188 * p.index + lead) (188 - size - lead) in
    let first : Alike h a = payload_alike h false lead one in
    let second : Alike a b = payload_alike a false (188 - size - lead) two in
    let third : Alike b c = (begin_arrives b p.begins).alike in
    record {
      rate = (alike_trans h a c first (alike_trans a b c second third)).rate;
      held = λ rate leak x. begin_held b p.begins rate leak x ∙ same_passed a (188 - size - lead) two rate leak x ∙ same_passed h lead one rate leak x;
    }

held_packet : (h : Held) (arrival : Arrival) (p : Arriving) (rate leak x : ℕ) →
    elementary_held rate leak h.parts x ≤ elementary_held rate leak (after h arrival p).parts x
unfolding after
held_packet h arrival p rate leak x = by (takes_in h arrival p)
  where
    by : (w : Bool) →
        elementary_held rate leak h.parts x ≤ elementary_held rate leak (if w then with_packet h arrival p (size_of p) (lead_in arrival p) else h).parts x
    by true =
        let c : Held = after_unit h arrival p (size_of p) (lead_in arrival p) in
        let times : List ℕ = times_at arrival c.rx (188 * p.index + (188 - size_of p)) (size_of p) in
        omega (arith, (before_payload h arrival p (size_of p) (lead_in arrival p)).held rate leak x, held_payload c p.enters (size_of p) times rate leak x)
    by false = omega arith

held_each : (h : Held) (arrival : Arrival) (ps : List Arriving) (rate leak x : ℕ) →
    elementary_held rate leak h.parts x ≤ elementary_held rate leak (after_each h arrival ps).parts x
unfolding after_each
held_each h arrival [] rate leak x = omega arith
held_each h arrival (p ∷ ps) rate leak x = omega (arith, held_packet h arrival p rate leak x, held_each (after h arrival p) arrival ps rate leak x)

pub rate_each : (h : Held) (arrival : Arrival) (ps : List Arriving) → (after_each h arrival ps).rate ≡ h.rate
unfolding after_each
rate_each h arrival [] = refl
rate_each h arrival (p ∷ ps) = rate_each (after h arrival p) arrival ps ∙ (after_alike h arrival p).rate

-- No excess ends with a packet, nor with all packets.

quiet_packet : (sizes : VideoSizes) (h : Held) (arrival : Arrival) (p : Arriving) → ((x : ℕ) → elementary_held h.rate sizes.leak h.parts x ≤ sizes.elementary) →
    (video_of (Some sizes) h arrival p).elementary ≡ None
unfolding video_of
quiet_packet sizes h arrival p few = by (takes_in h arrival p)
  where
    by : (w : Bool) → (if w then video_with (Some sizes) h arrival p (size_of p) (lead_in arrival p) else nothing_found).elementary ≡ None
    by true =
        let c : Held = after_unit h arrival p (size_of p) (lead_in arrival p) in
        let k = before_payload h arrival p (size_of p) (lead_in arrival p) in
        let here : (x : ℕ) → elementary_held c.rate sizes.leak c.parts x ≤ sizes.elementary =
        λ x. omega (arith, few x, k.held c.rate sizes.leak x, ap (λ (r : ℕ). elementary_held r sizes.leak h.parts x) k.rate) in
        none_with_payload sizes c p.enters (size_of p) (times_at arrival c.rx (188 * p.index + (188 - size_of p)) (size_of p))
        (none_under_way c.rate sizes.leak sizes.elementary c.parts here)
    by false = refl

pub quiet_each : (sizes : VideoSizes) (h : Held) (arrival : Arrival) (ps : List Arriving) →
    ((x : ℕ) → elementary_held h.rate sizes.leak (after_each h arrival ps).parts x ≤ sizes.elementary) →
    flat_map (λ v. option_to_list v.elementary) (video_each (Some sizes) h arrival ps) ≡ []
unfolding after_each video_each
quiet_each sizes h arrival [] few = refl
quiet_each sizes h arrival (p ∷ ps) few =
    let h' : Held = after h arrival p in
    let one = quiet_packet sizes h arrival p (λ x. omega (arith, few x, held_each h arrival (p ∷ ps) h.rate sizes.leak x)) in
    let same : h'.rate ≡ h.rate = (after_alike h arrival p).rate in
    let rest = quiet_each sizes h' arrival ps
    (λ x. omega (arith, few x, ap (λ (r : ℕ). elementary_held r sizes.leak (after_each h' arrival ps).parts x) same)) in
    rw (one, rest) refl
