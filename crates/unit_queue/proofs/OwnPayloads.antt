-- The payloads on the PID of a stream that is alone on its PID, one by one.
use Rattle.std.proofs.Common.{◌≡◌, ℕ, zero, suc, ◌+◌, ◌-◌, ◌*◌, ◌%◌, ◌≤◌, ◌==◌, true, false, cond, Option, Some, None, List, [], ◌∷◌, ◌++◌, length, refl, sym}
use Rattle.std.proofs.Common.{ap, ◌∙◌, subst, inl, inr, arith, eq-eqb}
use Rattle.std.specs.Prelude.{slice_get}
use Rattle.std.specs.List.{flat_map}
use Rattle.std.proofs.lemmas.Bool.{cases_lt, cases_Bool}
use Rattle.std.proofs.lemmas.Grind.{common_steps}
use Rattle.std.proofs.lemmas.List.Concat.{flat_map-cons}
use Rattle.clock27.specs.Release.{release}
use Rattle.clock27.specs.Units.{slot_units_at_1bps}
use Rattle.own_slots.specs.Slots.{own_before, own_slots}
use Rattle.own_slots.proofs.Counts.{own_before_own, own_before_other, own_before_lt}
use Rattle.pes_packet.specs.AccessUnits.{AccessUnit}
use Rattle.ts_packet.specs.PidList.{Entry, is_of_pid, pid_list}
use Rattle.slot_contents.specs.Contents.{Content, PayloadContent, PcrContent, NullContent, view_of, run_bytes, Payload, payload_in, payloads_in, Numbered}
use Rattle.slot_contents.specs.Contents.{HasNumber, payload_entry, payload_entries, payload_at, Piece, put}
use Rattle.slot_contents.proofs.Counts.{payload_again, payload_count_law, run_payload_entries, run_by_number}
use Rattle.unit_queue.specs.OwnedStreams.{OwnedStream}
use Rattle.unit_queue.specs.Places.{UnitPlace, place_at, piece_bytes, piece_start, content_of}
use Rattle.unit_queue.specs.Payloads.{all_pieces, all_senders, piece_in, piece_of, stream_payloads, IsReleased, StreamIsAlone}
use Rattle.unit_queue.proofs.SentPlaces.{PlaceHas, PlaceIs, one_of, place_has, sent_before, sent_fresh, sent_next}

-- The payloads on the PID of the stream

on_own : (l : OwnedStream) (s : ℕ) (o : Option UnitPlace) → payload_in l.parameters.pid s (content_of l o) ≡ put s (piece_of l o)
on_own l s None = refl
on_own l s (Some x) = rw (eq-eqb l.parameters.pid l.parameters.pid refl) refl

off_own : (pid s : ℕ) (c : Content) → is_of_pid pid (view_of c) ≡ false → payload_in pid s c ≡ []
unfolding view_of
off_own pid s (PayloadContent other n start payload) off = elim (cases_Bool (other == pid)) [
  | inl y ↦ absurd (let h = rw y at off in let no : ⊥ = cc in no)
  | inr k ↦ rw k refl
]
off_own pid s (PcrContent other pcr) off = refl
off_own pid s NullContent off = refl

off_number : (pid m : ℕ) (c : Content) → is_of_pid pid (view_of c) ≡ false → HasNumber pid c m
unfolding view_of
off_number pid m (PayloadContent other n start payload) off = λ y. absurd (let h = rw y at off in let no : ⊥ = cc in no)
off_number pid m (PcrContent other pcr) off = elim (cases_Bool (other == pid)) [
  | inl y ↦ absurd (let h = rw y at off in let no : ⊥ = cc in no)
  | inr k ↦ k
]
off_number pid m NullContent off = tt

own_number : (l : OwnedStream) (us : List AccessUnit) (i sent : ℕ) (o : Option UnitPlace) → PlaceHas l 0 us i sent o →
    HasNumber l.parameters.pid (content_of l o) sent
own_number l us i sent None h = tt
own_number l us i sent (Some x) h = λ y. h.number_is

put_count : (l : OwnedStream) (s : ℕ) (o : Option UnitPlace) → length (put s (piece_of l o)) ≡ one_of o
put_count l s None = refl
put_count l s (Some x) = refl

abbrev count_at : OwnedStream → List AccessUnit → ℕ → ℕ
count_at l us s = sent_before l 0 0 us (own_before l.own s)

slot_payload : (l : OwnedStream) (us : List AccessUnit) (content : ℕ → Content) (t : ℕ) → StreamIsAlone l us content →
    payload_in l.parameters.pid t (content t) ≡ cond (l.own t) (put t (piece_of l (place_at l 0 0 us (own_before l.own t)))) []
slot_payload l us content t alone = elim (cases_Bool (l.own t)) [
  | inl y ↦ rw (y, alone.own t y) (on_own l t (place_at l 0 0 us (own_before l.own t)))
  | inr k ↦ rw k (off_own l.parameters.pid t (content t) (alone.others t k))
]

count_more : (l : OwnedStream) (us : List AccessUnit) (content : ℕ → Content) (s : ℕ) → StreamIsAlone l us content →
    count_at l us (suc s) ≡ count_at l us s + length (payload_in l.parameters.pid s (content s))
count_more l us content s alone =
    let i = own_before l.own s in
    let o = place_at l 0 0 us (own_before l.own s) in
    elim (cases_Bool (l.own s)) [
      | inl y ↦
          let next : own_before l.own (suc s) ≡ suc (own_before l.own s) = omega (arith, own_before_own l.own s y) in
          rw (next, slot_payload l us content s alone, y) (sent_next l 0 0 us i ∙ ap (λ (n : ℕ). sent_before l 0 0 us i + n) (sym (put_count l s o)))
      | inr k ↦
          rw (own_before_other l.own s k, slot_payload l us content s alone, k) (omega arith)
    ]

has_number : (l : OwnedStream) (us : List AccessUnit) (content : ℕ → Content) (s : ℕ) → StreamIsAlone l us content →
    HasNumber l.parameters.pid (content s) (count_at l us s)
has_number l us content s alone = elim (cases_Bool (l.own s)) [
  | inl y ↦ rw (alone.own s y)
      (own_number l us (own_before l.own s) (sent_before l 0 0 us (own_before l.own s)) (place_at l 0 0 us (own_before l.own s))
      (place_has l 0 0 us (own_before l.own s)))
  | inr k ↦ off_number l.parameters.pid (sent_before l 0 0 us (own_before l.own s)) (content s) (alone.others s k)
]

numbered : (l : OwnedStream) (us : List AccessUnit) (content : ℕ → Content) (n : ℕ) → StreamIsAlone l us content → Numbered l.parameters.pid content 0 n 0
numbered l us content n alone =
    payload_count_law l.parameters.pid n content (count_at l us)
    (record { none = unfold own_before in (sent_fresh l 0 0 us 0 (omega arith)); more = λ s lt. count_more l us content s alone })
    (λ s lt. has_number l us content s alone)

payloads_are : (l : OwnedStream) (us : List AccessUnit) (content : ℕ → Content) (n : ℕ) → StreamIsAlone l us content →
    payloads_in l.parameters.pid content 0 n ≡ stream_payloads l us n
payloads_are l us content n alone =
    run_by_number l.parameters.pid n content l.own (λ i. piece_of l (place_at l 0 0 us i)) (λ t lt. slot_payload l us content t alone)

pub list_is : (l : OwnedStream) (us : List AccessUnit) (content : ℕ → Content) (n : ℕ) → StreamIsAlone l us content →
    pid_list l.parameters.pid (run_bytes content 0 n) ≡ payload_entries l.parameters.pid 0 (stream_payloads l us n)
list_is l us content n alone =
    run_payload_entries l.parameters.pid n content alone.fits alone.no_null (numbered l us content n alone)
    ∙ ap (λ (ps : List Payload). payload_entries l.parameters.pid 0 ps) (payloads_are l us content n alone)

-- Packet number j of the PID

pub record Found (l : OwnedStream) (us : List AccessUnit) (number : ℕ) (p : Payload) : Type 0 where
  pub place : UnitPlace
  pub mine : l.own p.index ≡ true
  pub has : PlaceIs l 0 us (own_before l.own p.index) number place
  pub is : piece_in p ≡ record { start = piece_start place; bytes = piece_bytes l place }

found_first : (l : OwnedStream) (us : List AccessUnit) (s sent j : ℕ) (o : Option UnitPlace) (rest : List Payload) (p : Payload) → l.own s ≡ true →
    PlaceHas l 0 us (own_before l.own s) sent o → ((k : ℕ) → slice_get rest k ≡ Some p → Found l us (sent + one_of o + k) p) →
    slice_get (put s (piece_of l o) ++ rest) j ≡ Some p → Found l us (sent + j) p
found_first l us s sent j None rest p mine h later is =
    let e : sent + 0 + j ≡ sent + j = omega arith in subst (λ (m : ℕ). Found l us m p) e (later j is)
found_first l us s sent zero (Some x) rest p mine h later is =
    let same : record { index = s; start = piece_start x; bytes = piece_bytes l x } ≡ p = cc in
    let none : sent + 0 ≡ sent = omega arith in
    rw none (subst (λ (q : Payload). Found l us sent q) same (record { place = x; mine = mine; has = h; is = refl }))
found_first l us s sent (suc j) (Some x) rest p mine h later is =
    let e : sent + 1 + j ≡ sent + suc j = omega arith in subst (λ (m : ℕ). Found l us m p) e (later j is)

found_in : (l : OwnedStream) (us : List AccessUnit) (s n j : ℕ) (p : Payload) →
    slice_get (flat_map (λ (t : ℕ). put t (piece_of l (place_at l 0 0 us (own_before l.own t)))) (own_slots l.own s n)) j ≡ Some p →
    Found l us (count_at l us s + j) p
unfolding own_slots
found_in l us s zero j p is = absurd (let no : ⊥ = cc in no)
found_in l us s (suc n) j p is =
    let i = own_before l.own s in
    let o = place_at l 0 0 us (own_before l.own s) in
    elim (cases_Bool (l.own s)) [
      | inl y ↦
          let next : own_before l.own (suc s) ≡ suc (own_before l.own s) = omega (arith, own_before_own l.own s y) in
          let count : sent_before l 0 0 us (own_before l.own (suc s)) ≡ sent_before l 0 0 us (own_before l.own s)
          + one_of (place_at l 0 0 us (own_before l.own s)) =
          ap (λ (k : ℕ). sent_before l 0 0 us k) next ∙ sent_next l 0 0 us i in
          let cons = flat_map-cons (λ (t : ℕ). put t (piece_of l (place_at l 0 0 us (own_before l.own t)))) s (own_slots l.own (suc s) n) in
          found_first l us s (sent_before l 0 0 us i) j o
          (flat_map (λ (t : ℕ). put t (piece_of l (place_at l 0 0 us (own_before l.own t)))) (own_slots l.own (suc s) n)) p y (place_has l 0 0 us i)
          (λ k at'. subst (λ (m : ℕ). Found l us (m + k) p) count (found_in l us (suc s) n k p at'))
          (rw cons at (rw y at is))
      | inr k ↦
          let same : own_before l.own (suc s) ≡ own_before l.own s = own_before_other l.own s k in
          subst (λ (m : ℕ). Found l us (sent_before l 0 0 us m + j) p) same (found_in l us (suc s) n j p (rw k at is))
    ]

-- The packet that carries payload number j has that payload and its continuity_counter.
pub record CarriedAs (pid number : ℕ) (ps : List Payload) (j : ℕ) (e : Entry) : Type 0 where
  pub payload : slice_get ps j ≡ Some (payload_at e)
  pub counter : e.packet.header.continuity_counter ≡ (number + j) % 16

carried_at : (pid number : ℕ) (ps : List Payload) (j : ℕ) (e : Entry) → slice_get (payload_entries pid number ps) j ≡ Some e → CarriedAs pid number ps j e
unfolding payload_entries view_of
carried_at pid number [] j e is = absurd (let no : ⊥ = cc in no)
carried_at pid number (p ∷ ps) zero e is =
    let same : payload_entry pid number p ≡ e = cc in
    let none : number + 0 ≡ number = omega arith in
    subst (λ (x : Entry). CarriedAs pid number (p ∷ ps) zero x) same (record {
      payload = ap (λ (q : Payload). Some q) (sym (payload_again p.index p.start pid (number % 16) p.bytes));
      counter = ap (λ (m : ℕ). m % 16) (sym none);
    })
carried_at pid number (p ∷ ps) (suc j) e is =
    let rest = carried_at pid (number + 1) ps j e is in
    let on : number + suc j ≡ number + 1 + j = omega arith in
    record { payload = rest.payload; counter = rw on rest.counter }

pub listed_at : (l : OwnedStream) (us : List AccessUnit) (content : ℕ → Content) (n j : ℕ) (e : Entry) → StreamIsAlone l us content →
    slice_get (pid_list l.parameters.pid (run_bytes content 0 n)) j ≡ Some e → CarriedAs l.parameters.pid 0 (stream_payloads l us n) j e
listed_at l us content n j e alone is =
    carried_at l.parameters.pid 0 (stream_payloads l us n) j e (subst (λ (es : List Entry). slice_get es j ≡ Some e) (list_is l us content n alone) is)

pub found_at : (l : OwnedStream) (us : List AccessUnit) (content : ℕ → Content) (n j : ℕ) (e : Entry) → StreamIsAlone l us content →
    slice_get (pid_list l.parameters.pid (run_bytes content 0 n)) j ≡ Some e → Found l us j (payload_at e)
found_at l us content n j e alone is =
    let start : count_at l us 0 ≡ 0 = unfold own_before in (sent_fresh l 0 0 us 0 (omega arith)) in
    let whole : count_at l us 0 + j ≡ j = omega (arith, start) in
    subst (λ (m : ℕ). Found l us m (payload_at e)) whole (found_in l us 0 n j (payload_at e) (listed_at l us content n j e alone is).payload)

-- No payload is early: the release is the first slot that does not begin before the DTS minus the lead

spread_scale : (a b c : ℕ) → (a + b) * c ≡ a * c + b * c
spread_scale a b c = omega arith

scale_le : (a b c : ℕ) → a ≤ b → a * c ≤ b * c
scale_le a b c le = grind (arith, common_steps)

release_reached : (rate lead dts slot : ℕ) → release rate lead dts ≤ slot → dts * rate ≤ slot * slot_units_at_1bps + lead * rate
release_reached rate lead dts slot le =
    let reached : (dts - lead) * rate ≤ slot * 135360000 = omega (arith, le) in
    let most : dts ≤ (dts - lead) + lead = omega arith in
    omega (arith, reached, scale_le dts ((dts - lead) + lead) rate most, spread_scale (dts - lead) lead rate)

pub found_released : (l : OwnedStream) (us : List AccessUnit) (number : ℕ) (p : Payload) (u : AccessUnit) → Found l us number p →
    slice_get (all_senders l us) number ≡ Some u → IsReleased l u p.index
found_released l us number p u f is =
    let place : f.place.number - 0 ≡ number = omega (arith, f.has.number_is) in
    let sender : slice_get (all_senders l us) number ≡ Some f.place.unit = rw place at f.has.sender in
    let same : f.place.unit ≡ u = cc in
    let r = release l.parameters.rate l.parameters.lead f.place.unit.dts in
    let reached : release l.parameters.rate l.parameters.lead f.place.unit.dts ≤ p.index = elim (cases_lt p.index r) [
      | inl early ↦ absurd (omega (arith, f.has.released, own_before_lt l.own p.index r f.mine early))
      | inr le ↦ le
    ] in
    subst (λ (v : AccessUnit). IsReleased l v p.index) same (release_reached l.parameters.rate l.parameters.lead f.place.unit.dts p.index reached)

pub found_piece : (l : OwnedStream) (us : List AccessUnit) (number : ℕ) (p : Payload) → Found l us number p →
    slice_get (all_pieces l us) number ≡ Some (piece_in p)
found_piece l us number p f =
    let place : f.place.number - 0 ≡ number = omega (arith, f.has.number_is) in
    (rw place at f.has.piece) ∙ ap (λ (x : Piece). Some x) (sym f.is)
