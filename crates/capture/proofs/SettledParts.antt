-- The parts that bytes settle, whatever input follows.
use Rattle.std.proofs.Common.{◌≡◌, ◌≤◌, ◌<◌, ◌⊎◌, inl, inr, ℕ, zero, suc, ◌+◌, ◌*◌, ◌-◌, ◌/◌, ◌%◌, ◌==◌, min, nat_lt, Bool, true, false, if◌then◌else◌, refl}
use Rattle.std.proofs.Common.{sym, ap, ap₂, subst, arith, ◌∙◌, List, [], ◌∷◌, ◌++◌, length, length-append, length-drop, length-take-le, map, take, drop}
use Rattle.std.proofs.Common.{slice_range, Option, None, Some, Result, Ok, Err, append_assoc, append-nil, drop-drop, take-add}
use Rattle.std.proofs.Math.Seq.{take-length}
use Rattle.std.proofs.lemmas.List.{drop_at, drop-append-le, take_all, take-append-drop, take-append-le}
use Rattle.std.specs.Prelude.{IfOk, OnOk}
use Rattle.packet_sync.specs.declared.file_form.FileForm.{FileForm}
use Rattle.packet_sync.specs.OtherPackets.{front_of, other_packets, size_of}
use Rattle.packet_sync.specs.Slips.{slip_size}
use Rattle.packet_sync.specs.Stretches.{IsOfPackets, IsStepped}
use Rattle.packet_sync.specs.declared.packet_sizes.OtherPackets.{OtherPackets}
use Rattle.packet_sync.specs.declared.packet_sizes.OtherPackets.TheVariants.{Timed, Corrected}
use Rattle.packet_sync.specs.declared.stretch.Stretch.{Stretch}
use Rattle.packet_sync.proofs.FrontBytes.{other_front}
use Rattle.packet_sync.proofs.Stretches.{Steady, slip_later}
use Rattle.ts_packet.specs.PidList.{cut_packets}
use Rattle.ts_packet.proofs.Listing.{first_cut}
use Rattle.capture.specs.Captures.{Capture, IsPacket, Part, after_packets, after_slip, capture_at, capture_from, head_in, no_parts, number_of}
use Rattle.capture.specs.Captures.{packet_in, packet_with, part_in, size_parts, slip_at, with_parts}
use Rattle.packet_sync.specs.FrontForms.{form_in, form_of}
use Rattle.capture.specs.Reading.{IsLast, ReaderView, Settles, SettlesFrom, Takes, TakesLast, after_stretch, capture_after, capture_by, capture_left, decisive}
use Rattle.capture.specs.Reading.{front_in, known_form, place_if, slip_parts, stretch_parts, stretch_size, whole_size, with_front}
use Rattle.capture.specs.declared.place.Place.{Place}
use Rattle.capture.specs.declared.reader.CaptureEnd.{CaptureEnd}
use Rattle.capture.specs.declared.settled.Front.{Front}
use Rattle.capture.specs.declared.settled.Settled.{Settled}
use Rattle.capture.proofs.Parts.{both_parts, none_before, other_few, other_first, packet_first, plain_few, slip_first}

-- 1. Packets in step

pub one_cut : (bytes : List ℕ) → length bytes ≡ 188 → cut_packets bytes ≡ bytes ∷ []
one_cut bytes size = ap (λ (x : List ℕ). cut_packets x) (sym (append-nil bytes)) ∙ first_cut bytes [] size

cut_more : (k : ℕ) (bs : List ℕ) → 188 ≤ length bs → cut_packets (take (188 * suc k) bs) ≡ take 188 bs ∷ cut_packets (take (188 * k) (drop 188 bs))
cut_more k bs long =
    let e : 188 * suc k ≡ 188 + 188 * k = omega arith in
    let size : length (take 188 bs) ≡ 188 = length-take-le 188 bs long in
    ap (λ (n : ℕ). cut_packets (take n bs)) e
    ∙ ap (λ (x : List ℕ). cut_packets x) (take-add 188 (188 * k) bs)
    ∙ first_cut (take 188 bs) (take (188 * k) (drop 188 bs)) size

abbrev place : ℕ → ℕ → Place
place i j = record { packet = i; start = j }

after_none : (p : Place) → after_packets 0 p ≡ p
after_none p =
    let e : p.packet + 0 / 188 ≡ p.packet = omega arith in
    let f : p.start + 0 ≡ p.start = omega arith in
    ap₂ place e f

after_more : (k : ℕ) (p : Place) → after_packets (188 * k) (after_packets 188 p) ≡ after_packets (188 * suc k) p
after_more k p =
    let e : p.packet + 188 / 188 + 188 * k / 188 ≡ p.packet + 188 * suc k / 188 = omega arith in
    let f : p.start + 188 + 188 * k ≡ p.start + 188 * suc k = omega arith in
    ap₂ place e f

pub steady_parts : (k : ℕ) (form : FileForm) (p : Place) (bs : List ℕ) → 188 * k ≤ length bs → Steady bs (188 * k) →
    capture_from form None p bs ≡ with_parts (map IsPacket (cut_packets (take (188 * k) bs)))
    (capture_from form None (after_packets (188 * k) p) (drop (188 * k) bs))
steady_parts zero form p bs within steady = ap (λ (q : Place). capture_from form None q bs) (sym (after_none p))
steady_parts (suc k) form p bs within steady =
    let long : 188 ≤ length bs = omega (arith, within) in
    let first : slip_size bs 0 ≡ None = steady 0 (omega arith) in
    let rest : 188 * k ≤ length (drop 188 bs) = omega (arith, within, length-drop 188 bs) in
    let later : Steady (drop 188 bs) (188 * k) =
    λ i less. let e : 188 * suc i ≡ 188 + 188 * i = omega arith in
    sym (slip_later bs 188 (188 * i)) ∙ subst (λ (j : ℕ). slip_size bs j ≡ None) e (steady (suc i) (omega (arith, less))) in
    let packets = map IsPacket (cut_packets (take (188 * k) (drop 188 bs))) in
    let h : 188 + 188 * k ≡ 188 * suc k = omega arith in
    packet_first form p bs long first
    ∙ ap (with_parts (IsPacket (take 188 bs) ∷ [])) (steady_parts k form (after_packets 188 p) (drop 188 bs) rest later)
    ∙ both_parts (IsPacket (take 188 bs) ∷ []) packets (capture_from form None (after_packets (188 * k) (after_packets 188 p)) (drop (188 * k) (drop 188 bs)))
    ∙ ap₂ with_parts (ap (map IsPacket) (sym (cut_more k bs long)))
    (ap₂ (λ (q : Place) (r : List ℕ). capture_from form None q r) (after_more k p) (drop-drop (188 * k) 188 bs ∙ ap (λ (n : ℕ). drop n bs) h))

in_step_parts : (form : FileForm) (p : Place) (bytes more : List ℕ) (at k : ℕ) → at ≡ 188 * k → at ≤ length bytes → Steady (bytes ++ more) at →
    capture_from form None p (bytes ++ more) ≡ with_parts (map IsPacket (cut_packets (take at bytes)))
    (capture_from form None (after_packets at p) (drop at bytes ++ more))
in_step_parts form p bytes more at k e within steady =
    let all : at ≤ length (bytes ++ more) = omega (arith, within, length-append bytes more) in
    steady_parts k form p (bytes ++ more) (subst (λ (n : ℕ). n ≤ length (bytes ++ more)) e all) (subst (λ (n : ℕ). Steady (bytes ++ more) n) e steady)
    ∙ ap (λ (n : ℕ). with_parts (map IsPacket (cut_packets (take n (bytes ++ more)))) (capture_from form None (after_packets n p) (drop n (bytes ++ more))))
    (sym e)
    ∙ ap₂ (λ (x y : List ℕ). with_parts (map IsPacket (cut_packets x)) (capture_from form None (after_packets at p) y)) (take-append-le at bytes more within)
    (drop-append-le at bytes more within)

-- 2. A slip after packets in step

slip_by : (form : FileForm) (p : Place) (rest : List ℕ) (size : ℕ) → (0 < size → (188 ≤ length rest) × (slip_size rest 0 ≡ Some size)) → (b : Bool) →
    (size == 0) ≡ b →
    capture_from form None p rest ≡ with_parts (slip_parts size p) (capture_from form None (place_if size p) (drop size rest))
slip_by form p rest size lost true is =
    let none : size ≡ 0 = search (arith, is) in
    subst (λ (n : ℕ). capture_from form None p rest ≡ with_parts (slip_parts n p) (capture_from form None (place_if n p) (drop n rest))) (sym none) refl
slip_by form p rest size lost false is =
    let some : 0 < size = search (arith, is) in
    let h = lost some in
    rw is (slip_first form p rest size h.0 h.1)

slip_after : (form : FileForm) (p : Place) (rest : List ℕ) (size : ℕ) → (0 < size → (188 ≤ length rest) × (slip_size rest 0 ≡ Some size)) →
    capture_from form None p rest ≡ with_parts (slip_parts size p) (capture_from form None (place_if size p) (drop size rest))
slip_after form p rest size lost = slip_by form p rest size lost (size == 0) refl

-- If bytes are left out, the bytes before them are whole packets.
whole_is : (length_is : ℕ) (ended : Bool) (s : Stretch) → IsOfPackets length_is ended s → 0 < s.slipped → whole_size s.in_step ≡ s.in_step
whole_is length_is ended s (inl n) some = omega (arith, n.1)
whole_is length_is ended s (inr all) some = absurd (let no : ⊥ = omega (arith, all.2, some) in no)

lost_after : (bytes more : List ℕ) (ended : Bool) (s : Stretch) → IsStepped (bytes ++ more) s → IsOfPackets (length bytes) ended s →
    whole_size s.in_step ≤ length bytes → 0 < s.slipped →
    (188 ≤ length (drop (whole_size s.in_step) bytes ++ more)) × (slip_size (drop (whole_size s.in_step) bytes ++ more) 0 ≡ Some s.slipped)
lost_after bytes more ended s stepped whole within some =
    let at = whole_size s.in_step in
    let e : at ≡ s.in_step = whole_is (length bytes) ended s whole some in
    let h = stepped.lost some in
    let f : at + 0 ≡ s.in_step = omega (arith, e) in
    let dropped : drop at (bytes ++ more) ≡ drop at bytes ++ more = drop-append-le at bytes more within in
    let here : slip_size (bytes ++ more) (at + 0) ≡ Some s.slipped = subst (λ (i : ℕ). slip_size (bytes ++ more) i ≡ Some s.slipped) (sym f) h.0 in (
      omega (arith, h.1, e, length-append (drop at bytes) more, length-append bytes more, length-drop at bytes, within),
      ap (λ (r : List ℕ). slip_size r 0) (sym dropped) ∙ sym (slip_later (bytes ++ more) at 0) ∙ here,
    )

steady_whole : (bs : List ℕ) (s : Stretch) → IsStepped bs s → Steady bs (whole_size s.in_step)
steady_whole bs s stepped = λ k less. stepped.steady k (omega (arith, less))

pub stretch_step : (form : FileForm) (p : Place) (bytes more : List ℕ) (ended : Bool) (s : Stretch) → IsStepped (bytes ++ more) s →
    IsOfPackets (length bytes) ended s → s.in_step + s.slipped ≤ length bytes →
    capture_from form None p (bytes ++ more) ≡ with_parts (stretch_parts bytes s p)
    (capture_from form None (after_stretch s p) (drop (stretch_size s) bytes ++ more))
stretch_step form p bytes more ended s stepped whole within =
    let at = whole_size s.in_step in
    let front : at ≤ length bytes = omega (arith, within) in
    let e : at ≡ 188 * (s.in_step / 188) = omega arith in
    let q = after_packets at p in
    let fits : s.slipped ≤ length (drop at bytes) = omega (arith, within, length-drop at bytes) in
    in_step_parts form p bytes more at (s.in_step / 188) e front (steady_whole (bytes ++ more) s stepped)
    ∙ ap (with_parts (map IsPacket (cut_packets (take at bytes))))
    (slip_after form q (drop at bytes ++ more) s.slipped (lost_after bytes more ended s stepped whole front))
    ∙ both_parts (map IsPacket (cut_packets (take at bytes))) (slip_parts s.slipped q)
    (capture_from form None (place_if s.slipped q) (drop s.slipped (drop at bytes ++ more)))
    ∙ ap (λ (r : List ℕ). with_parts (stretch_parts bytes s p) (capture_from form None (after_stretch s p) r))
    (drop-append-le s.slipped (drop at bytes) more fits ∙ ap (λ (r : List ℕ). r ++ more) (drop-drop s.slipped at bytes))

-- A stretch over enough bytes is not empty.
pub some_size : (size : ℕ) (ended : Bool) (s : Stretch) → IsOfPackets size ended s → (if ended then 188 else 1128) ≤ size →
    ((if ended then 1 else 1128) ≤ size → 0 < s.in_step + s.slipped) → 0 < stretch_size s
some_size size true s (inl n) long some = let k : 0 < s.in_step + s.slipped = some (omega (arith, long)) in omega (arith, n.1, k)
some_size size true s (inr all) long some = omega (arith, all.1, long)
some_size size false s (inl n) long some = let k : 0 < s.in_step + s.slipped = some (omega (arith, long)) in omega (arith, n.1, k)
some_size size false s (inr all) long some = absurd (let e : false ≡ true = all.0 in cc)

-- 3. Successive parts

pub from_none : (HasTaken : List Part → Type 0) (other : Option OtherPackets) (p : Place) (bytes : List ℕ) (ended : Bool) → HasTaken [] →
    SettlesFrom HasTaken other p bytes ended p 0
from_none HasTaken other p bytes ended taken = record { found = []; taken = taken; is = λ form more last. refl }

pub from_more : (HasTaken Onward : List Part → Type 0) (other : Option OtherPackets) (old mid new : Place) (bytes : List ℕ) (ended : Bool) (at size : ℕ)
    (parts : List Part) →
    SettlesFrom HasTaken other old bytes ended mid at → ((found : List Part) → HasTaken found → Onward (found ++ parts)) →
    ((form : FileForm) (more : List ℕ) → (ended ≡ true → more ≡ []) →
    capture_from form other mid (drop at bytes ++ more) ≡ with_parts parts (capture_from form other new (drop (at + size) bytes ++ more))) →
    SettlesFrom Onward other old bytes ended new (at + size)
from_more HasTaken Onward other old mid new bytes ended at size parts s onward step = record {
  found = s.found ++ parts;
  taken = onward s.found s.taken;
  is = λ form more last. s.is form more last ∙ ap (with_parts s.found) (step form more last)
      ∙ both_parts s.found parts (capture_from form other new (drop (at + size) bytes ++ more));
}

-- The parts found here follow any parts that were taken before.
abbrev pub Keeps : {T : Type 0} → (T → List Part → T → Type 0) → Option OtherPackets → Place → List ℕ → Bool → T → Place → T → ℕ → Type 0
Keeps {T} HasTaken other old bytes ended before new after used =
    (first : T) (parts : List Part) → HasTaken first parts before → SettlesFrom (λ found. HasTaken first (parts ++ found) after) other old bytes ended new used

pub keeps_none : {T : Type 0} (HasTaken : T → List Part → T → Type 0) (other : Option OtherPackets) (p : Place) (bytes : List ℕ) (ended : Bool) (t : T) →
    Keeps HasTaken other p bytes ended t p t 0
keeps_none {T} HasTaken other p bytes ended t = λ first parts taken.
    from_none (λ found. HasTaken first (parts ++ found) t) other p bytes ended (subst (λ (q : List Part). HasTaken first q t) (sym (append-nil parts)) taken)

pub keeps_more : {T : Type 0} (HasTaken : T → List Part → T → Type 0) (other : Option OtherPackets) (old mid new : Place) (bytes : List ℕ) (ended : Bool)
    (before middle after : T) (at size : ℕ) (parts : List Part) →
    Keeps HasTaken other old bytes ended before mid middle at →
    ((first : T) (some : List Part) → HasTaken first some middle → HasTaken first (some ++ parts) after) →
    ((form : FileForm) (more : List ℕ) → (ended ≡ true → more ≡ []) →
    capture_from form other mid (drop at bytes ++ more) ≡ with_parts parts (capture_from form other new (drop (at + size) bytes ++ more))) →
    Keeps HasTaken other old bytes ended before new after (at + size)
keeps_more {T} HasTaken other old mid new bytes ended before middle after at size parts keeps onward step = λ first some taken.
    from_more (λ found. HasTaken first (some ++ found) middle) (λ found. HasTaken first (some ++ found) after) other old mid new bytes ended at size parts
    (keeps first some taken)
    (λ found t. subst (λ (q : List Part). HasTaken first q after) (append_assoc some found parts) (onward first (some ++ found) t)) step

-- The rest of the bytes from a place on
pub rest_at : (at : ℕ) (bytes : List ℕ) → take (length bytes - at) (drop at bytes) ≡ drop at bytes
rest_at at bytes = take_all (length bytes - at) (drop at bytes) (omega (arith, length-drop at bytes))

pub stretch_rest : (form : FileForm) (p : Place) (bytes more : List ℕ) (at : ℕ) (ended : Bool) (s : Stretch) → at ≤ length bytes →
    IsStepped (drop at bytes ++ more) s →
    IsOfPackets (length (drop at bytes)) ended s → s.in_step + s.slipped ≤ length (drop at bytes) →
    capture_from form None p (drop at bytes ++ more) ≡ with_parts (stretch_parts (drop at bytes) s p)
    (capture_from form None (after_stretch s p) (drop (at + stretch_size s) bytes ++ more))
stretch_rest form p bytes more at ended s within stepped whole fits =
    stretch_step form p (drop at bytes) more ended s stepped whole fits
    ∙ ap (λ (r : List ℕ). with_parts (stretch_parts (drop at bytes) s p) (capture_from form None (after_stretch s p) (r ++ more)))
    (drop-drop (stretch_size s) at bytes)

-- A packet of another size has at least four bytes.
size_four : (other : OtherPackets) → 4 ≤ size_of other
unfolding size_of
size_four Timed = omega arith
size_four Corrected = omega arith

front_within : (other : OtherPackets) → front_of other + 188 ≤ size_of other
unfolding front_of size_of
front_within Timed = omega arith
front_within Corrected = omega arith

head_front : (bs more : List ℕ) → 4 ≤ length bs → head_in (bs ++ more) ≡ head_in bs
head_front bs more long = ap number_of (take-append-le 4 bs more long)

pub take_whole : (bs : List ℕ) → length bs ≡ 188 → take 188 bs ≡ bs
take_whole bs size = ap (λ (n : ℕ). take n bs) (sym size) ∙ take-length bs

packet_front : (other : OtherPackets) (bs more : List ℕ) → size_of other ≤ length bs → packet_in other (bs ++ more) ≡ packet_in other bs
packet_front other bs more long =
    let f = front_of other in
    let within = front_within other in
    let front : f ≤ length bs = omega (arith, within, long) in
    let rest : f + 188 - f ≤ length (drop f bs) = omega (arith, within, long, length-drop f bs) in
    ap (take (f + 188 - f)) (drop-append-le f bs more front) ∙ take-append-le (f + 188 - f) (drop f bs) more rest

pub other_rest : (form : FileForm) (other : OtherPackets) (p : Place) (bytes more : List ℕ) (at : ℕ) → at + size_of other ≤ length bytes →
    capture_from form (Some other) p (drop at bytes ++ more) ≡ with_parts (part_in other (drop at bytes) ∷ [])
    (capture_from form (Some other) p (drop (at + size_of other) bytes ++ more))
other_rest form other p bytes more at within =
    let rest = drop at bytes in
    let long : size_of other ≤ length rest = omega (arith, within, length-drop at bytes) in
    let all : size_of other ≤ length (rest ++ more) = omega (arith, long, length-append rest more) in
    other_first form other p (rest ++ more) all
    ∙ ap (λ (n : ℕ). with_parts (packet_with other n (packet_in other (rest ++ more)) ∷ []) (capture_from form (Some other) p
    (drop (size_of other) (rest ++ more)))) (head_front rest more (omega (arith, long, size_four other)))
    ∙ ap₂ (λ (x y : List ℕ). with_parts (packet_with other (head_in rest) x ∷ []) (capture_from form (Some other) p y)) (packet_front other rest more long)
    (drop-append-le (size_of other) rest more long ∙ ap (λ (r : List ℕ). r ++ more) (drop-drop (size_of other) at bytes))

-- The bytes of a packet from a place on
pub packet_at : (other : OtherPackets) (bytes : List ℕ) (at : ℕ) →
    slice_range bytes (at + front_of other) (at + front_of other + 188) ≡ packet_in other (drop at bytes)
packet_at other bytes at =
    let f = front_of other in
    let e : at + f + 188 - (at + f) ≡ f + 188 - f = omega arith in
    ap₂ (λ (n : ℕ) (r : List ℕ). take n r) e (sym (drop-drop f at bytes))

pub packet_size : (other : OtherPackets) (bytes : List ℕ) (at : ℕ) → at + size_of other ≤ length bytes → length (packet_in other (drop at bytes)) ≡ 188
packet_size other bytes at within =
    let f = front_of other in
    let fits = front_within other in
    let rest : f + 188 - f ≤ length (drop f (drop at bytes)) = omega (arith, within, fits, length-drop at bytes, length-drop f (drop at bytes)) in
    let e : f + 188 - f ≡ 188 = omega arith in
    length-take-le (f + 188 - f) (drop f (drop at bytes)) rest ∙ e

-- 4. The first bytes

known_of : (f : Option Front) (front : Front) (p : Place) (bs : List ℕ) → f ≡ Some front → capture_by f p bs ≡ capture_from front.form front.other p bs
unfolding capture_by
known_of f front p bs e = rw e refl

pub known : (HasTaken : List Part → Type 0) (old new : Settled) (front : Front) (other : Option OtherPackets) (bytes : List ℕ) (ended : Bool) (used : ℕ) →
    old.front ≡ Some front → new.front ≡ Some front → front.other ≡ other →
    SettlesFrom HasTaken other old.place bytes ended new.place used → Settles HasTaken old bytes ended new used
known HasTaken old new front other bytes ended used before after is s = record {
  found = s.found;
  taken = s.taken;
  is = λ more last. known_of old.front front old.place (bytes ++ more) before
      ∙ ap (λ (o : Option OtherPackets). capture_from front.form o old.place (bytes ++ more)) is
      ∙ s.is front.form more last
      ∙ ap (λ (o : Option OtherPackets). with_parts s.found (capture_from front.form o new.place (drop used bytes ++ more))) (sym is)
      ∙ ap (with_parts s.found) (sym (known_of new.front front new.place (drop used bytes ++ more) after));
}

form_of_known : (f : Option Front) (front : Front) → f ≡ Some front → known_form f ≡ front.form
unfolding known_form
form_of_known f front e = rw e refl

pub plain_last : (s : Settled) (front : Front) (bs : List ℕ) → s.front ≡ Some front → front.other ≡ None → length bs < 188 → IsLast s bs
plain_last s front bs e is short =
    known_of s.front front s.place bs e ∙ ap (λ (o : Option OtherPackets). capture_from front.form o s.place bs) is ∙ plain_few front.form s.place bs short
    ∙ ap (λ (f : FileForm). no_parts f bs) (sym (form_of_known s.front front e))

pub other_last : (s : Settled) (front : Front) (other : OtherPackets) (bs : List ℕ) → s.front ≡ Some front → front.other ≡ Some other →
    length bs < size_of other → IsLast s bs
other_last s front other bs e is short =
    known_of s.front front s.place bs e ∙ ap (λ (o : Option OtherPackets). capture_from front.form o s.place bs) is
    ∙ other_few front.form other s.place bs short
    ∙ ap (λ (f : FileForm). no_parts f bs) (sym (form_of_known s.front front e))

same_size : (bytes more : List ℕ) → (1128 ≤ length bytes) ⊎ (more ≡ []) → other_packets (bytes ++ more) ≡ other_packets bytes
same_size bytes more (inl long) = sym (other_front bytes more (omega (arith, long)))
same_size bytes more (inr none) = rw (none, append-nil bytes) refl

same_form : (bytes more : List ℕ) → (1128 ≤ length bytes) ⊎ (more ≡ []) → form_of (bytes ++ more) ≡ form_of bytes
same_form bytes more (inl long) = ap form_in (take-append-le 188 bytes more (omega (arith, long)))
same_form bytes more (inr none) = rw (none, append-nil bytes) refl

begun_by : (f : Option Front) (p : Place) (bytes more : List ℕ) → f ≡ None → (1128 ≤ length bytes) ⊎ (more ≡ []) →
    capture_by f p (bytes ++ more) ≡ with_parts (size_parts (other_packets bytes)) (capture_by (Some (front_in bytes)) p (bytes ++ more))
unfolding capture_by
begun_by f p bytes more e enough =
    rw e (ap₂ (λ (o : Option OtherPackets) (form : FileForm). with_parts (size_parts o) (capture_from form o p (bytes ++ more))) (same_size bytes more enough)
    (same_form bytes more enough))

-- Either there are 1,128 bytes, or these bytes are all.
pub enough : (ended : Bool) (bytes more : List ℕ) → (ended ≡ false → 1128 ≤ length bytes) → (ended ≡ true → more ≡ []) → (1128 ≤ length bytes) ⊎ (more ≡ [])
enough true bytes more long last = inr (last refl)
enough false bytes more long last = inl (long refl)

pub begun : (HasTaken Onward : List Part → Type 0) (old new : Settled) (bytes : List ℕ) (ended : Bool) (used : ℕ) → old.front ≡ None →
    (ended ≡ false → 1128 ≤ length bytes) →
    ((found : List Part) → Onward found → HasTaken (size_parts (other_packets bytes) ++ found)) →
    Settles Onward (with_front old (front_in bytes)) bytes ended new used → Settles HasTaken old bytes ended new used
begun HasTaken Onward old new bytes ended used none long onward s = record {
  found = size_parts (other_packets bytes) ++ s.found;
  taken = onward s.found s.taken;
  is = λ more last. begun_by old.front old.place bytes more none (enough ended bytes more long last)
      ∙ ap (with_parts (size_parts (other_packets bytes))) (s.is more last)
      ∙ both_parts (size_parts (other_packets bytes)) s.found (capture_after new (drop used bytes ++ more));
}

-- At first no bytes are settled.
pub none_yet : (HasTaken : List Part → Type 0) (s : Settled) (bytes : List ℕ) (ended : Bool) → HasTaken [] → Settles HasTaken s bytes ended s 0
none_yet HasTaken s bytes ended taken = record { found = []; taken = taken; is = λ more last. refl }

-- 5. A piece

-- If not all kept bytes are settled, the whole piece is kept after them.
pub kept_all : (HasTaken : List Part → Type 0) (old : ReaderView) (new : Settled) (piece : List ℕ) (size used : ℕ) → size ≡ min (length piece) 1315 →
    length (old.kept ++ take size piece) < used + 1128 →
    used < length old.kept → Settles HasTaken old.settled (old.kept ++ take size piece) false new used →
    Takes HasTaken old piece (record { settled = new; kept = drop used (old.kept ++ take size piece) })
kept_all HasTaken old new piece size used is most less s =
    let part : length (take size piece) ≡ size = length-take-le size piece (omega (arith, is)) in
    let few : length piece ≤ size = omega (arith, is, most, less, part, length-append old.kept (take size piece)) in
    let whole : take size piece ≡ piece = take_all size piece few in
    record {
      found = s.found;
      taken = s.taken;
      is = λ more. ap (λ (r : List ℕ). capture_after old.settled (old.kept ++ (r ++ more))) (sym whole)
          ∙ ap (capture_after old.settled) (sym (append_assoc old.kept (take size piece) more))
          ∙ s.is more (λ (e : false ≡ true). absurd cc);
    }

settled_rest : (kept piece more : List ℕ) (size used : ℕ) → size ≤ length piece → length kept ≤ used → used ≤ length (kept ++ take size piece) →
    drop used (kept ++ take size piece) ++ (drop size piece ++ more) ≡ drop (used - length kept) piece ++ more
settled_rest kept piece more size used within past all =
    let part : length (take size piece) ≡ size = length-take-le size piece within in
    let both : length (kept ++ take size piece) ≡ length kept + length (take size piece) = length-append kept (take size piece) in
    let d = used - length kept in
    let e : length kept + d ≡ used = omega (arith, past) in
    let fits : d ≤ length piece = omega (arith, part, both, all, within) in
    let joined : (kept ++ take size piece) ++ (drop size piece ++ more) ≡ kept ++ (piece ++ more) =
    append_assoc kept (take size piece) (drop size piece ++ more)
    ∙ ap (λ (r : List ℕ). kept ++ r)
    (sym (append_assoc (take size piece) (drop size piece) more) ∙ ap (λ (r : List ℕ). r ++ more) (take-append-drop size piece)) in
    sym (drop-append-le used (kept ++ take size piece) (drop size piece ++ more) all)
    ∙ ap (drop used) joined
    ∙ ap (λ (n : ℕ). drop n (kept ++ (piece ++ more))) (sym e)
    ∙ sym (drop-drop d (length kept) (kept ++ (piece ++ more)))
    ∙ ap (drop d) (drop_at kept (piece ++ more) (length kept) refl)
    ∙ drop-append-le d piece more fits

-- If all kept bytes are settled, the reader continues with the rest of the piece.
pub kept_none : (HasTaken Onward Last : List Part → Type 0) (old new : ReaderView) (mid : Settled) (piece : List ℕ) (size used : ℕ) →
    size ≡ min (length piece) 1315 → length old.kept ≤ used →
    used ≤ length (old.kept ++ take size piece) → (s : Settles HasTaken old.settled (old.kept ++ take size piece) false mid used) →
    Takes Onward (record { settled = mid; kept = [] }) (drop (used - length old.kept) piece) new →
    ((found : List Part) → Onward found → Last (s.found ++ found)) → Takes Last old piece new
kept_none HasTaken Onward Last old new mid piece size used is past all s rest last =
    let within : size ≤ length piece = omega (arith, is) in
    record {
      found = s.found ++ rest.found;
      taken = last rest.found rest.taken;
      is = λ more. ap (λ (r : List ℕ). capture_after old.settled (old.kept ++ (r ++ more))) (sym (take-append-drop size piece))
          ∙ ap (λ (r : List ℕ). capture_after old.settled (old.kept ++ r)) (append_assoc (take size piece) (drop size piece) more)
          ∙ ap (capture_after old.settled) (sym (append_assoc old.kept (take size piece) (drop size piece ++ more)))
          ∙ s.is (drop size piece ++ more) (λ (e : false ≡ true). absurd cc)
          ∙ ap (λ (r : List ℕ). with_parts s.found (capture_after mid r)) (settled_rest old.kept piece more size used within past all)
          ∙ ap (with_parts s.found) (rest.is more)
          ∙ both_parts s.found rest.found (capture_left new more);
    }

-- The rest of a piece settles some bytes, and the reader keeps the remaining bytes.
pub rest_kept : (HasTaken : List Part → Type 0) (old new : Settled) (rest : List ℕ) (used : ℕ) → Settles HasTaken old rest false new used →
    Takes HasTaken (record { settled = old; kept = [] }) rest (record { settled = new; kept = drop used rest })
rest_kept HasTaken old new rest used s = record { found = s.found; taken = s.taken; is = λ more. s.is more (λ (e : false ≡ true). absurd cc) }

-- 6. The end

last_is : (HasTaken : List Part → Type 0) (old : ReaderView) (new : Settled) (used : ℕ) → (s : Settles HasTaken old.settled old.kept true new used) →
    IsLast new (drop used old.kept) →
    capture_left old [] ≡ with_parts s.found (no_parts (known_form new.front) (drop used old.kept))
last_is HasTaken old new used s last =
    s.is [] (λ (e : true ≡ true). refl) ∙ ap (λ (r : List ℕ). with_parts s.found (capture_after new r)) (append-nil (drop used old.kept))
    ∙ ap (with_parts s.found) last

pub ends : (HasTaken : List Part → Type 0) (old : ReaderView) (new : Settled) (used : ℕ) (end : CaptureEnd) →
    (s : Settles HasTaken old.settled old.kept true new used) → IsLast new (drop used old.kept) →
    end.left ≡ length old.kept - used → end.form ≡ known_form new.front → TakesLast HasTaken (capture_left old []) end
ends HasTaken old new used end s last left form =
    let e = last_is HasTaken old new used s last in
    record {
      taken = subst HasTaken (sym (append-nil s.found) ∙ ap (λ (c : Capture). c.parts) (sym e)) s.taken;
      left_is = left ∙ sym (length-drop used old.kept) ∙ ap (λ (c : Capture). length c.rest) (sym e);
      form_is = form ∙ ap (λ (c : Capture). c.form) (sym e);
    }

-- 7. Results if memory suffices

pub if_map : {V E : Type 0} (P Q : V → Type 0) (r : Result V E) → ((v : V) → P v → Q v) → IfOk r P → IfOk r Q
if_map P Q (Ok v) f p = f v p
if_map P Q (Err e) f p = tt

pub on_map : {V E A B : Type 0} (r : Result V E) → (A → B) → OnOk r A → OnOk r B
on_map (Ok v) f a = f a
on_map (Err e) f a = tt

pub last_short : (ended : Bool) (bytes : List ℕ) (used : ℕ) → length bytes < used + decisive ended → ended ≡ true → length (drop used bytes) < 188
last_short true bytes used most e = omega (arith, most, length-drop used bytes)
last_short false bytes used most e = absurd cc

pub size_most : (other : OtherPackets) → size_of other ≤ 204
unfolding size_of
size_most Timed = omega arith
size_most Corrected = omega arith

pub size_least : (other : OtherPackets) → 1 ≤ size_of other
unfolding size_of
size_least Timed = omega arith
size_least Corrected = omega arith
