-- A multiplexing buffer whose bytes all find room has no excess.
use Rattle.std.proofs.Common.{◌≡◌, ◌∙◌, sym, ℕ, ◌+◌, ◌-◌, ◌*◌, max, Bool, true, false, List, [], ◌∷◌, ◌++◌, Option, Some, None, if◌then◌else◌, refl, ap}
use Rattle.std.proofs.Common.{subst, inl, inr}
use Rattle.std.specs.Prelude.{flat_map}
use Rattle.std.proofs.lemmas.Bool.Decides.{eqb_tells}
use Rattle.std.proofs.lemmas.List.{append_assoc, append-nil}
use Rattle.clock27.specs.Departure.{last_left}
use Rattle.arrival.specs.declared.arrival.Arrival.{Arrival}
use Rattle.arrival.specs.Arrivals.{times_at}
use Rattle.tstd_rows.specs.Excesses.{AreOver, excesses_ended}
use Rattle.tstd_rows.specs.declared.excess.Excess.{Excess}
use Rattle.tstd_rows.specs.History.{Part, left_after, payload_left}
use Rattle.tstd_rows.specs.declared.unit_seen.DueTime.{DueTime}
use Rattle.tstd_rows.specs.declared.arriving.Arriving.{Arriving}
use Rattle.tstd_rows.specs.Held.{Held, carried, passed}
use Rattle.tstd_rows.specs.HeldVideo.{VideoSizes, nothing_found, video_found}
use Rattle.tstd_rows.specs.Entering.{after, after_begin, after_header, after_lead, after_payload, after_unit, lead_in, size_of, takes_in, with_packet}
use Rattle.tstd_rows.specs.EnteringVideo.{payload_video, video_of, video_with}
use Rattle.laws_view.specs.StreamPackets.{after_each}
use Rattle.laws_view.specs.VideoExcesses.{video_each}
use Rattle.laws_view.proofs.EnteredBytes.{after_alike}
use Rattle.laws_view.proofs.MuxedStreams.{room_after, room_ended}
use Rattle.laws_view.proofs.VideoExcesses.{before_payload}

-- If bytes in two parts find room, the bytes of each part do.
over_two : (step size prev : ℕ) (ts us : List ℕ) → AreOver false step size prev (ts ++ us) →
    AreOver false step size prev ts × AreOver false step size (last_left step prev ts) us
unfolding AreOver last_left
over_two step size prev [] us room = (tt, room)
over_two step size prev (t ∷ ts) us room =
    let rest = over_two step size (max t prev + step) ts us room.1 in
    ((room.0, rest.0), rest.1)

-- Each byte finds room.
abbrev pub HasRoom : ℕ → ℕ → ℕ → List Part → Type 0
HasRoom rate leak size parts = AreOver false leak size 0 (payload_left rate parts)

-- The bytes that have come, and further bytes
abbrev Grown : ℕ → Held → Held → Type 0
Grown rate h h' = (more : List ℕ) × (payload_left rate h'.parts ≡ payload_left rate h.parts ++ more)

grown_payload : (rate : ℕ) (h : Held) (enters : Bool) (n : ℕ) (times : List ℕ) → Grown rate h (after_payload h enters n times)
unfolding after_payload
grown_payload rate h enters n times = elim (eqb_tells n 0) [
  | inl none ↦ rw none.0 ([], sym (append-nil (payload_left rate h.parts)))
  | inr some ↦ rw some.0 (goes enters)
]
  where
    goes : (w : Bool) → Grown rate h (if w then carried h times else passed h times)
    goes true = (left_after rate h.parts times, unfold payload_left in refl)
    goes false = ([], unfold payload_left in sym (append-nil (payload_left rate h.parts)))

grown_begin : (rate : ℕ) (h : Held) (due : Option DueTime) → Grown rate h (after_begin h due)
unfolding after_begin payload_left
grown_begin rate h None = ([], sym (append-nil (payload_left rate h.parts)))
grown_begin rate h (Some due) = ([], sym (append-nil (payload_left rate h.parts)))

grown_trans : (rate : ℕ) (a b c : Held) → Grown rate a b → Grown rate b c → Grown rate a c
grown_trans rate a b c p q = (p.0 ++ q.0, q.1 ∙ ap (λ (l : List ℕ). l ++ q.0) p.1 ∙ append_assoc (payload_left rate a.parts) p.0 q.0)

room_before : (rate leak size : ℕ) (h h' : Held) → Grown rate h h' → HasRoom rate leak size h'.parts → HasRoom rate leak size h.parts
room_before rate leak size h h' g room =
    (over_two leak size 0 (payload_left rate h.parts) g.0 (subst (λ (l : List ℕ). AreOver false leak size 0 l) g.1 room)).0

grown_unit : (rate : ℕ) (h : Held) (arrival : Arrival) (p : Arriving) (size lead : ℕ) → Grown rate h (after_unit h arrival p size lead)
grown_unit rate h arrival p size lead =
    let a : Held = after_lead h arrival p lead in
    let b : Held = after_header h arrival p size lead in
    let c : Held = after_unit h arrival p size lead in
    grown_trans rate h a c (grown_payload rate h false lead (times_at arrival h.rx (188 * p.index) lead))
    (grown_trans rate a b c (grown_payload rate a false (188 - size - lead) (times_at arrival a.rx (188 * p.index + lead) (188 - size - lead)))
    (grown_begin rate b p.begins))

grown_packet : (rate : ℕ) (h : Held) (arrival : Arrival) (p : Arriving) → Grown rate h (after h arrival p)
unfolding after
grown_packet rate h arrival p = by (takes_in h arrival p)
  where
    by : (w : Bool) → Grown rate h (if w then with_packet h arrival p (size_of p) (lead_in arrival p) else h)
    by true =
        let c : Held = after_unit h arrival p (size_of p) (lead_in arrival p) in
        let times : List ℕ = times_at arrival c.rx (188 * p.index + (188 - size_of p)) (size_of p) in
        grown_trans rate h c (after_payload c p.enters (size_of p) times) (grown_unit rate h arrival p (size_of p) (lead_in arrival p))
        (grown_payload rate c p.enters (size_of p) times)
    by false = ([], sym (append-nil (payload_left rate h.parts)))

grown_each : (rate : ℕ) (h : Held) (arrival : Arrival) (ps : List Arriving) → Grown rate h (after_each h arrival ps)
unfolding after_each
grown_each rate h arrival [] = ([], sym (append-nil (payload_left rate h.parts)))
grown_each rate h arrival (p ∷ ps) =
    grown_trans rate h (after h arrival p) (after_each (after h arrival p) arrival ps) (grown_packet rate h arrival p)
    (grown_each rate (after h arrival p) arrival ps)

-- No excess ends with a payload whose bytes find room, nor with all packets.

none_carried : (sizes : VideoSizes) (c : Held) (times : List ℕ) → HasRoom c.rate sizes.leak sizes.multiplexing (carried c times).parts →
    (video_found (Some sizes) c.rate c.parts times).multiplexing ≡ []
unfolding video_found payload_left
none_carried sizes c times room =
    let two = over_two sizes.leak sizes.multiplexing 0 (payload_left c.rate c.parts) (left_after c.rate c.parts times) room in
    let leak : ℕ = sizes.leak in
    let last : ℕ = last_left leak 0 (payload_left c.rate c.parts) in
    ap (λ (o : Option Excess). excesses_ended leak sizes.multiplexing last o (left_after c.rate c.parts times))
    (room_after leak sizes.multiplexing 0 (payload_left c.rate c.parts) two.0)
    ∙ room_ended leak sizes.multiplexing last (left_after c.rate c.parts times) two.1

none_payload : (sizes : VideoSizes) (c : Held) (enters : Bool) (n : ℕ) (times : List ℕ) →
    HasRoom c.rate sizes.leak sizes.multiplexing (after_payload c enters n times).parts →
    (payload_video (Some sizes) c enters n times).multiplexing ≡ []
unfolding payload_video after_payload
none_payload sizes c enters n times = elim (eqb_tells n 0) [
  | inl zero ↦ rw zero.0 (λ room. refl)
  | inr some ↦ rw some.0 (goes enters)
]
  where
    goes : (w : Bool) → HasRoom c.rate sizes.leak sizes.multiplexing (if w then carried c times else passed c times).parts →
        (if w then video_found (Some sizes) c.rate c.parts times else nothing_found).multiplexing ≡ []
    goes true room = none_carried sizes c times room
    goes false room = refl

none_packet : (sizes : VideoSizes) (h : Held) (arrival : Arrival) (p : Arriving) → HasRoom h.rate sizes.leak sizes.multiplexing (after h arrival p).parts →
    (video_of (Some sizes) h arrival p).multiplexing ≡ []
unfolding video_of after
none_packet sizes h arrival p = by (takes_in h arrival p)
  where
    by : (w : Bool) → HasRoom h.rate sizes.leak sizes.multiplexing (if w then with_packet h arrival p (size_of p) (lead_in arrival p) else h).parts →
        (if w then video_with (Some sizes) h arrival p (size_of p) (lead_in arrival p) else nothing_found).multiplexing ≡ []
    by true room =
        let c : Held = after_unit h arrival p (size_of p) (lead_in arrival p) in
        let times : List ℕ = times_at arrival c.rx (188 * p.index + (188 - size_of p)) (size_of p) in
        none_payload sizes c p.enters (size_of p) times
        (subst (λ (r : ℕ). HasRoom r sizes.leak sizes.multiplexing (after_payload c p.enters (size_of p) times).parts)
        (sym (before_payload h arrival p (size_of p) (lead_in arrival p)).rate) room)
    by false room = refl

pub none_each : (sizes : VideoSizes) (h : Held) (arrival : Arrival) (ps : List Arriving) →
    HasRoom h.rate sizes.leak sizes.multiplexing (after_each h arrival ps).parts → flat_map (λ v. v.multiplexing) (video_each (Some sizes) h arrival ps) ≡ []
unfolding after_each video_each
none_each sizes h arrival [] room = refl
none_each sizes h arrival (p ∷ ps) room =
    let h' : Held = after h arrival p in
    let one = none_packet sizes h arrival p
    (room_before h.rate sizes.leak sizes.multiplexing h' (after_each h' arrival ps) (grown_each h.rate h' arrival ps) room) in
    let rest = none_each sizes h' arrival ps
    (subst (λ (r : ℕ). HasRoom r sizes.leak sizes.multiplexing (after_each h' arrival ps).parts) (sym (after_alike h arrival p).rate) room) in
    rw (one, rest) refl
