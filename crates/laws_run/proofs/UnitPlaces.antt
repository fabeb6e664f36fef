-- The packets of a stream's PID carry its units in their own slots.
use Rattle.std.proofs.Common.{◌≡◌, ℕ, zero, suc, ◌-◌, ◌≤◌, min, List, [], ◌∷◌, ◌++◌, length, map, take, drop, refl, sym, ap, ap₂, ◌∙◌, inl, inr, arith}
use Rattle.std.proofs.Common.{append-nil}
use Rattle.std.proofs.Math.Seq.{take-append_seam, drop-append_seam}
use Rattle.std.proofs.lemmas.List.{map-append, length-take, length-drop}
use Rattle.std.proofs.lemmas.Bool.{cases_lt}
use Rattle.own_slots.specs.Slots.{own_slots}
use Rattle.pes_packet.specs.AccessUnits.{AccessUnit}
use Rattle.ts_packet.specs.PidList.{Entry, pid_list, payload_of}
use Rattle.slot_contents.specs.Contents.{Content, run_bytes}
use Rattle.unit_timing.specs.Schedule.{Packet, cut, packets_in_slots}
use Rattle.unit_queue.specs.OwnedStreams.{OwnedStream, timed, packet_count, first_slot, end_slot}
use Rattle.unit_queue.specs.Payloads.{StreamIsAlone}
use Rattle.unit_queue.proofs.CarriedBytes.{carried_law}
use Rattle.laws_run.specs.Sent.{Sending, sendings}
use Rattle.laws_run.specs.Units.{unit_packets}
use Rattle.laws_run.specs.PidLaws.{packets_on}
use Rattle.laws_run.specs.Placed.{units_placed, sent_units}
use Rattle.unit_queue.proofs.Leftover.{first_free}

-- Lists

take_all : (n : ℕ) (xs : List ℕ) → length xs ≤ n → take n xs ≡ xs
take_all zero [] le = refl
take_all (suc n) [] le = refl
take_all zero (x ∷ xs) le = absurd (omega (arith, le))
take_all (suc n) (x ∷ xs) le = ap (λ (ys : List ℕ). x ∷ ys) (take_all n xs (omega (arith, le)))

drop_all : (n : ℕ) (xs : List ℕ) → length xs ≤ n → drop n xs ≡ []
drop_all zero [] le = refl
drop_all (suc n) [] le = refl
drop_all zero (x ∷ xs) le = absurd (omega (arith, le))
drop_all (suc n) (x ∷ xs) le = drop_all n xs (omega (arith, le))

take_none : (n : ℕ) → ◌≡◌ {A = List ℕ} (take n []) []
take_none zero = refl
take_none (suc n) = refl

-- The slots of packets

abbrev slots_in : List Packet → List ℕ
slots_in ps = map (λ p. p.slot) ps

slots_of_cut : (front size : ℕ) (slots : List ℕ) → slots_in (cut front size slots) ≡ slots
unfolding cut
slots_of_cut front size [] = refl
slots_of_cut front size (s ∷ slots) = ap (λ (xs : List ℕ). s ∷ xs) (slots_of_cut (front - 184) (size - (184 - front)) slots)

slots_of_entries : (es : List Entry) → map (λ e. e.index) es ≡ slots_in (map (λ e. record { slot = e.index; size = length (payload_of e.packet) }) es)
slots_of_entries [] = refl
slots_of_entries (e ∷ es) = ap (λ (xs : List ℕ). e.index ∷ xs) (slots_of_entries es)

-- The slots of units, if the first `free` own slots are taken
abbrev slots_from : OwnedStream → ℕ → List AccessUnit → List ℕ → List ℕ
slots_from l free us slots = slots_in (packets_in_slots l.own l.parameters.rate l.parameters.lead free (map (timed l) us) slots)

-- The slots of the first unit
abbrev first_slots : OwnedStream → ℕ → AccessUnit → List ℕ → List ℕ
first_slots l free u slots = take (packet_count l u) (drop (first_slot l free u) slots)

slots_more : (l : OwnedStream) (free : ℕ) (u : AccessUnit) (us : List AccessUnit) (slots : List ℕ) →
    slots_from l free (u ∷ us) slots ≡ first_slots l free u slots ++ slots_from l (end_slot l free u) us slots
unfolding packets_in_slots first_slot
slots_more l free u us slots =
    let one : List ℕ = first_slots l free u slots in
    let rest : List Packet = packets_in_slots l.own l.parameters.rate l.parameters.lead (end_slot l free u) (map (timed l) us) slots in
    map-append (λ (p : Packet). p.slot) (cut (timed l u).front (timed l u).size one) rest
    ∙ ap (λ (xs : List ℕ). xs ++ slots_in rest) (slots_of_cut (timed l u).front (timed l u).size one)

-- If all slots are taken, no unit has slots.
none_left : (l : OwnedStream) (free : ℕ) (us : List AccessUnit) (slots : List ℕ) → length slots ≤ free → slots_from l free us slots ≡ []
unfolding packets_in_slots
none_left l free [] slots le = refl
none_left l free (u ∷ us) slots le =
    let from : free ≤ first_slot l free u = first_free l free u in
    let none : first_slots l free u slots ≡ [] =
    ap (take (packet_count l u)) (drop_all (first_slot l free u) slots (omega (arith, le, from))) ∙ take_none (packet_count l u) in
    slots_more l free u us slots ∙ ap₂ (λ (xs ys : List ℕ). xs ++ ys) none (none_left l (end_slot l free u) us slots (omega (arith, le, from)))

-- The first unit has the first slots, and the units after it have the remaining slots.
parted : (l : OwnedStream) (free : ℕ) (u : AccessUnit) (us : List AccessUnit) (slots : List ℕ) →
    (take (packet_count l u) (slots_from l free (u ∷ us) slots) ≡ first_slots l free u slots)
    × (drop (packet_count l u) (slots_from l free (u ∷ us) slots) ≡ slots_from l (end_slot l free u) us slots)
parted l free u us slots =
    let c : ℕ = packet_count l u in
    let one : List ℕ = first_slots l free u slots in
    let rest : List ℕ = slots_from l (end_slot l free u) us slots in
    let all : slots_from l free (u ∷ us) slots ≡ one ++ rest = slots_more l free u us slots in
    let size : length one ≡ min c (length slots - first_slot l free u) =
    length-take c (drop (first_slot l free u) slots) ∙ ap (min c) (length-drop (first_slot l free u) slots) in
    elim (cases_lt (length slots) (end_slot l free u)) [
      | inr enough ↦
          let full : length one ≡ c = omega (arith, size, enough) in (
            ap (take c) all ∙ ap (λ (n : ℕ). take n (one ++ rest)) (sym full) ∙ take-append_seam one rest,
            ap (drop c) all ∙ ap (λ (n : ℕ). drop n (one ++ rest)) (sym full) ∙ drop-append_seam one rest,
          )
      | inl less ↦
          let none : rest ≡ [] = none_left l (end_slot l free u) us slots (omega (arith, less)) in
          let few : length one ≤ c = omega (arith, size) in
          let alone : slots_from l free (u ∷ us) slots ≡ one = all ∙ ap (λ (xs : List ℕ). one ++ xs) none ∙ append-nil one in (
            ap (take c) alone ∙ take_all c one few,
            ap (drop c) alone ∙ drop_all c one few ∙ sym none,
          )
    ]

placed : (l : OwnedStream) (free : ℕ) (us : List AccessUnit) (slots : List ℕ) →
    sendings (unit_packets l.parameters.stream_id l.parameters.base0) us (slots_from l free us slots) ≡ units_placed l free us slots
unfolding sendings units_placed
placed l free [] slots = refl
placed l free (u ∷ us) slots =
    let p = parted l free u us slots in
    ap₂ (λ (xs : List ℕ) (rest : List (Sending AccessUnit)). record { item = u; packets = xs } ∷ rest) p.0
    (ap (sendings (unit_packets l.parameters.stream_id l.parameters.base0) us) p.1 ∙ placed l (end_slot l free u) us slots)

-- The packets of the PID of a stream that is alone on it carry the stream's units.
pub units_are_placed : (l : OwnedStream) (n : ℕ) (us : List AccessUnit) (content : ℕ → Content) → StreamIsAlone l us content →
    sendings (unit_packets l.parameters.stream_id l.parameters.base0) us (packets_on l.parameters.pid (run_bytes content 0 n)) ≡ sent_units l n us
units_are_placed l n us content alone =
    let es : List Entry = pid_list l.parameters.pid (run_bytes content 0 n) in
    let slots : packets_on l.parameters.pid (run_bytes content 0 n) ≡ slots_from l 0 us (own_slots l.own 0 n) =
    slots_of_entries es ∙ ap slots_in (carried_law l us content n alone).packets in
    ap (sendings (unit_packets l.parameters.stream_id l.parameters.base0) us) slots ∙ placed l 0 us (own_slots l.own 0 n)
