-- One own slot of a stream.
use Rattle.std.proofs.Common.{◌≡◌, ℕ, suc, ◌+◌, ◌-◌, ◌*◌, ◌%◌, ◌<◌, ◌≤◌, ◌==◌, true, false, List, [], ◌∷◌, length, refl, inl, inr, arith}
use Rattle.std.proofs.lemmas.Bool.{cases_lt, lt-ltb, le-ltb, ne_eqb}
use Rattle.clock27.specs.Release.{release}
use Rattle.own_slots.specs.Slots.{own_before}
use Rattle.own_slots.proofs.Counts.{own_before_own, own_before_le}
use Rattle.pes_packet.specs.AccessUnits.{AccessUnit}
use Rattle.pes_packet.specs.Encoding.{pes_packet_bytes}
use Rattle.pes_packet.specs.Marks.{field_size}
use Rattle.pes_packet.specs.Payloads.{part_of}
use Rattle.ts_packet.specs.declared.start.Start.{Start}
use Rattle.ts_packet.specs.Beginnings.{start_by}
use Rattle.slot_contents.specs.Contents.{PayloadContent, packet_of}
use Rattle.unit_queue.specs.OwnedStreams.{OwnedStream, pes_bytes, has_access, packet_count, first_slot, end_slot}
use Rattle.unit_queue.specs.Places.{place_at, content_of, left_at, begun}
use Rattle.unit_queue.specs.Tallies.{Tally}
use Rattle.unit_queue.specs.Queues.{queue_at}
use Rattle.unit_queue.specs.QueueSteps.{payload_or_null, part_content, front_content, front_sent, queue_content, sent_in, stepped}
use Rattle.unit_queue.proofs.PieceBytes.{part_some, start_same}
use Rattle.unit_queue.proofs.Leftover.{text_some, count_some, first_free, first_released, first_least, left_stop, left_on, place_before, place_in, Unfinished}

-- The packet in an own slot, and the queue after the slot.
pub record Steps (l : OwnedStream) (slots p free number : ℕ) (us : List AccessUnit) (capacity min_next_dts : ℕ) (tally : Tally) : Type 0 where
  pub packet : packet_of (queue_content slots (queue_at l number (begun l p free us) us capacity min_next_dts tally)) ≡ packet_of
      (content_of l (place_at l free number us p))
  pub state : sent_in slots (queue_at l number (begun l p free us) us capacity min_next_dts tally)
      ≡ queue_at l (left_at l (suc p) free number us).number (begun l (suc p) (left_at l (suc p) free number us).free (left_at l (suc p) free number us).units)
      (left_at l (suc p) free number us).units capacity min_next_dts tally

-- No unit waits.
step_none : (l : OwnedStream) (slots p free number capacity min_next_dts : ℕ) (tally : Tally) → Steps l slots p free number [] capacity min_next_dts tally
unfolding front_content front_sent left_at place_at begun
step_none l slots p free number capacity min_next_dts tally = record { packet = refl; state = refl }

-- The first unit is not released.
step_idle : (l : OwnedStream) (slots p free number : ℕ) (u : AccessUnit) (us : List AccessUnit) (capacity min_next_dts : ℕ) (tally : Tally) →
    slots < release l.parameters.rate l.parameters.lead u.dts → suc p ≤ first_slot l free u → Steps l slots p free number (u ∷ us) capacity min_next_dts tally
unfolding front_content front_sent begun
step_idle l slots p free number u us capacity min_next_dts tally early before =
    let none : p - first_slot l free u ≡ 0 = omega arith in
    let still : suc p - first_slot l free u ≡ 0 = omega arith in
    let stop = left_stop l (suc p) free number u us (omega (arith, before, count_some l u)) in
    record {
      packet = rw (place_before l free number p u us (omega (arith, before)), lt-ltb slots (release l.parameters.rate l.parameters.lead u.dts) early) refl;
      state = rw (stop, none, still, lt-ltb slots (release l.parameters.rate l.parameters.lead u.dts) early) refl;
    }

-- A piece with bytes is a payload.
pub some_is : (pid number : ℕ) (start : Start) (bytes : List ℕ) → 0 < length bytes →
    payload_or_null pid number start bytes ≡ PayloadContent pid number start bytes
unfolding payload_or_null
some_is pid number start bytes some =
    let not_empty : length bytes ≡ 0 → ⊥ = λ e. omega (arith, e, some) in
    rw (ne_eqb (length bytes) 0 not_empty) refl

counter_same : (n : ℕ) → n % 256 % 16 ≡ n % 16
counter_same n = omega arith

counter_next : (n b : ℕ) → ((n + b) % 256 + 1) % 256 ≡ (n + (b + 1)) % 256
counter_next n b = omega arith

piece_packet : (l : OwnedStream) (u : AccessUnit) (number b : ℕ) → 184 * b < field_size (has_access u) + length (pes_bytes l u) →
    packet_of (part_content l.parameters.pid ((number + b) % 256) (has_access u) (pes_bytes l u) (184 * b))
    ≡ packet_of (PayloadContent l.parameters.pid (number + b) (start_by (b == 0) (has_access u))
    (part_of (field_size (has_access u)) (184 * b) (pes_bytes l u)))
unfolding packet_of
piece_packet l u number b inside =
    let part = part_of (field_size (has_access u)) (184 * b) (pes_bytes l u) in
    let some : 0 < length (part_of (field_size (has_access u)) (184 * b) (pes_bytes l u)) =
    part_some (has_access u) (184 * b) (pes_bytes l u) (omega (arith, text_some l u)) inside in
    rw (some_is l.parameters.pid ((number + b) % 256) (start_by (184 * b == 0) (has_access u)) part some, start_same b, counter_same (number + b)) refl

-- The queue after one more piece, if the unit has more pieces and if it ends.
step_more : (l : OwnedStream) (number b : ℕ) (u : AccessUnit) (us : List AccessUnit) (capacity min_next_dts : ℕ) (tally : Tally) →
    stepped true (queue_at l number b (u ∷ us) capacity min_next_dts tally) ≡ queue_at l number (b + 1) (u ∷ us) capacity min_next_dts tally
step_more l number b u us capacity min_next_dts tally =
    let size : 184 * b + 184 ≡ 184 * (b + 1) = omega arith in
    rw (size, counter_next number b) refl

step_last : (l : OwnedStream) (number b : ℕ) (u : AccessUnit) (us : List AccessUnit) (capacity min_next_dts : ℕ) (tally : Tally) → b + 1 ≡ packet_count l u →
    stepped false (queue_at l number b (u ∷ us) capacity min_next_dts tally) ≡ queue_at l (number + packet_count l u) 0 us capacity min_next_dts tally
step_last l number b u us capacity min_next_dts tally ends =
    let count : number + packet_count l u + 0 ≡ number + (b + 1) = omega (arith, ends) in
    rw (counter_next number b, count) refl

-- If the units before have just ended, all further units remain.
fresh_left : (l : OwnedStream) (p number : ℕ) (us : List AccessUnit) → left_at l p p number us ≡ record { free = p; number = number; units = us }
fresh_left l p number [] = unfold left_at in refl
fresh_left l p number (u ∷ us) = left_stop l p p number u us (omega (arith, first_free l p u, count_some l u))

fresh_begun : (l : OwnedStream) (p : ℕ) (us : List AccessUnit) → begun l p p us ≡ 0
unfolding begun
fresh_begun l p [] = refl
fresh_begun l p (u ∷ us) = omega (arith, first_free l p u)

-- The first unit is released.
step_busy : (l : OwnedStream) (slots p free number : ℕ) (u : AccessUnit) (us : List AccessUnit) (capacity min_next_dts : ℕ) (tally : Tally) →
    release l.parameters.rate l.parameters.lead u.dts ≤ slots → first_slot l free u ≤ p → p < end_slot l free u →
    Steps l slots p free number (u ∷ us) capacity min_next_dts tally
unfolding front_content front_sent begun pes_packet_bytes
step_busy l slots p free number u us capacity min_next_dts tally released from below =
    let b = p - first_slot l free u in
    let all = field_size (has_access u) + length (pes_bytes l u) in
    let inside : 184 * (p - first_slot l free u) < field_size (has_access u) + length (pes_bytes l u) = omega arith in
    let sent = le-ltb slots (release l.parameters.rate l.parameters.lead u.dts) released in
    let next : suc p - first_slot l free u ≡ (p - first_slot l free u) + 1 = omega arith in
    record {
      packet = rw (place_in l free number p u us from below, sent) (piece_packet l u number b inside);
      state = elim (cases_lt (suc p) (end_slot l free u)) [
        | inl on ↦
            let more : 184 < field_size (has_access u) + length (pes_bytes l u) - 184 * (p - first_slot l free u) = omega arith in
            rw (left_stop l (suc p) free number u us on, sent, lt-ltb 184 (all - 184 * b) more, next) (step_more l number b u us capacity min_next_dts tally)
        | inr end ↦
            let last : field_size (has_access u) + length (pes_bytes l u) - 184 * (p - first_slot l free u) ≤ 184 = omega arith in
            let ends : (p - first_slot l free u) + 1 ≡ packet_count l u = omega arith in
            let here : end_slot l free u ≡ suc p = omega arith in
            rw (
              left_on l (suc p) free number u us end,
              here,
              fresh_left l (suc p) (number + packet_count l u) us,
              fresh_begun l (suc p) us,
              sent,
              le-ltb 184 (all - 184 * b) last,
            )
            (step_last l number b u us capacity min_next_dts tally ends)
      ];
    }

pub step : (l : OwnedStream) (slots free number : ℕ) (us : List AccessUnit) (capacity min_next_dts : ℕ) (tally : Tally) → l.own slots ≡ true →
    free ≤ own_before l.own slots → Unfinished l (own_before l.own slots) free us →
    Steps l slots (own_before l.own slots) free number us capacity min_next_dts tally
unfolding Unfinished
step l slots free number [] capacity min_next_dts tally mine le open' = step_none l slots (own_before l.own slots) free number capacity min_next_dts tally
step l slots free number (u ∷ us) capacity min_next_dts tally mine le open' =
    let r = release l.parameters.rate l.parameters.lead u.dts in
    elim (cases_lt slots r) [
      | inl early ↦ step_idle l slots (own_before l.own slots) free number u us capacity min_next_dts tally early
          (omega (arith, own_before_own l.own slots mine, own_before_le l.own (suc slots) r early, first_released l free u))
      | inr released ↦ step_busy l slots (own_before l.own slots) free number u us capacity min_next_dts tally released
          (first_least l free (own_before l.own slots) u le (own_before_le l.own r slots released)) open'
    ]
