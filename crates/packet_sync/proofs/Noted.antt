-- The notes on a stream, computed from its rest.
use Rattle.std.proofs.Common.{◌≡◌, ◌≤◌, ◌<◌, inl, inr, ℕ, zero, suc, ◌+◌, ◌*◌, ◌-◌, ◌/◌, ◌==◌, nat_lt, Bool, true, false, refl, sym, ap, ap₂, subst, arith, ◌∙◌}
use Rattle.std.proofs.Common.{List, [], ◌∷◌, ◌++◌, length, length-append, length-drop, map, take, drop, Option, None, Some, append_assoc, append-nil, drop-drop}
use Rattle.std.proofs.lemmas.Bool.Decides.{nat_tests}
use Rattle.std.proofs.lemmas.List.{drop_all, drop-append-le, take-append-le}
use Rattle.packet_sync.specs.Slips.{slips, slips_from, slip_size}
use Rattle.packet_sync.specs.FieldsLeftOut.{fields_from, fields_left_out, packet_at, with_packet, with_packets}
use Rattle.packet_sync.specs.Notes.{NotesView, later_slip, no_notes, SayAlike, IsNoted, with_stretch, with_slip}
use Rattle.packet_sync.specs.Stretches.{IsOfPackets, IsStepped, IsSteppedSoFar}
use Rattle.packet_sync.specs.declared.left_out.FieldLeftOut.{FieldLeftOut}
use Rattle.packet_sync.specs.declared.slip.Slip.{Slip}
use Rattle.packet_sync.specs.declared.stretch.Stretch.{Stretch}
use Rattle.packet_sync.proofs.SlipSteps.{at_end, one_packet, one_slip, with_packet as packet_passed, with_slip as slip_passed}
use Rattle.packet_sync.proofs.FieldSteps.{fields_end, packet_next, slip_next, after_packet, after_slip}
use Rattle.packet_sync.proofs.Stretches.{Steady, slip_later, slip_some}

-- 1. The slips of the rest of a stream

later_step : (n m : ℕ) (bs : List ℕ) (p q a b : ℕ) → length bs ≤ suc n + (a + b) → length bs ≤ suc m + (a + b) → a + b + 188 ≤ length bs → (o : Option ℕ) →
    slip_size bs (a + b) ≡ o →
    ((q b : ℕ) → length bs ≤ n + (a + b) → length bs ≤ m + (a + b) → slips_from n bs (p + q) (a + b) ≡ map (later_slip p a) (slips_from m (drop a bs) q b)) →
    slips_from (suc n) bs (p + q) (a + b) ≡ map (later_slip p a) (slips_from (suc m) (drop a bs) q b)
later_step n m bs p q a b some more long None is rest =
    let many : b + 188 ≤ length (drop a bs) = omega (arith, length-drop a bs, long) in
    let e : p + q + 1 ≡ p + (q + 1) = omega arith in
    let f : a + b + 188 ≡ a + (b + 188) = omega arith in
    one_packet n bs (p + q) (a + b) long is
    ∙ ap₂ (λ (i j : ℕ). slips_from n bs i j) e f
    ∙ rest (q + 1) (b + 188) (omega (arith, some)) (omega (arith, more))
    ∙ ap (map (later_slip p a)) (sym (one_packet m (drop a bs) q b many (sym (slip_later bs a b) ∙ is)))
later_step n m bs p q a b some more long (Some size) is rest =
    let many : b + 188 ≤ length (drop a bs) = omega (arith, length-drop a bs, long) in
    let least = slip_some bs (a + b) size is in
    let f : a + b + size ≡ a + (b + size) = omega arith in
    one_slip n bs (p + q) (a + b) size long is
    ∙ ap (λ (ss : List Slip). record { packet = p + q; start = a + b; size = size } ∷ ss)
    (ap (λ (j : ℕ). slips_from n bs (p + q) j) f ∙ rest q (b + size) (omega (arith, some, least)) (omega (arith, more, least)))
    ∙ ap (map (later_slip p a)) (sym (one_slip m (drop a bs) q b size many (sym (slip_later bs a b) ∙ is)))

later_end : (n m : ℕ) (bs : List ℕ) (p q a b : ℕ) → length bs < a + b + 188 →
    slips_from n bs (p + q) (a + b) ≡ map (later_slip p a) (slips_from m (drop a bs) q b)
later_end n m bs p q a b short =
    let few : length (drop a bs) < b + 188 = omega (arith, length-drop a bs, short) in
    at_end n bs (p + q) (a + b) short ∙ ap (map (later_slip p a)) (sym (at_end m (drop a bs) q b few))

later_place : (n m : ℕ) (bs : List ℕ) (p q a b : ℕ) → length bs ≤ suc n + (a + b) → length bs ≤ suc m + (a + b) → (t : Bool) →
    nat_lt (length bs) (a + b + 188) ≡ t →
    ((q b : ℕ) → length bs ≤ n + (a + b) → length bs ≤ m + (a + b) → slips_from n bs (p + q) (a + b) ≡ map (later_slip p a) (slips_from m (drop a bs) q b)) →
    slips_from (suc n) bs (p + q) (a + b) ≡ map (later_slip p a) (slips_from (suc m) (drop a bs) q b)
later_place n m bs p q a b some more true is rest = let short : length bs < a + b + 188 = search (arith, is) in later_end (suc n) (suc m) bs p q a b short
later_place n m bs p q a b some more false is rest =
    let long : a + b + 188 ≤ length bs = search (arith, is) in later_step n m bs p q a b some more long (slip_size bs (a + b)) refl rest

later : (n m : ℕ) (bs : List ℕ) (p q a b : ℕ) → length bs ≤ n + (a + b) → length bs ≤ m + (a + b) →
    slips_from n bs (p + q) (a + b) ≡ map (later_slip p a) (slips_from m (drop a bs) q b)
later zero m bs p q a b some more = later_end zero m bs p q a b (omega (arith, some))
later (suc n) zero bs p q a b some more = later_end (suc n) zero bs p q a b (omega (arith, more))
later (suc n) (suc m) bs p q a b some more =
    later_place n m bs p q a b some more (nat_lt (length bs) (a + b + 188)) refl (λ q b some more. later n m bs p q a b some more)

-- All slips from byte a on are the slips of the rest.
later_all : (n : ℕ) (bs : List ℕ) (p a : ℕ) → length bs ≤ n + a → slips_from n bs p a ≡ map (later_slip p a) (slips (drop a bs))
unfolding slips
later_all n bs p a some =
    let e : p ≡ p + 0 = omega arith in
    let f : a ≡ a + 0 = omega arith in
    ap₂ (λ (i j : ℕ). slips_from n bs i j) e f
    ∙ later n (length (drop a bs)) bs p 0 a 0 (omega (arith, some)) (omega (arith, length-drop a bs))

later_twice : (p a q b : ℕ) (ss : List Slip) → map (later_slip p a) (map (later_slip q b) ss) ≡ map (later_slip (p + q) (a + b)) ss
later_twice p a q b [] = refl
later_twice p a q b (s ∷ ss) =
    let e : p + (q + s.packet) ≡ p + q + s.packet = omega arith in
    let f : a + (b + s.start) ≡ a + b + s.start = omega arith in
    let one : later_slip p a (later_slip q b s) ≡ later_slip (p + q) (a + b) s = ap₂ (λ (i j : ℕ). record { packet = i; start = j; size = s.size }) e f in
    ap₂ (λ (x : Slip) (xs : List Slip). x ∷ xs) one (later_twice p a q b ss)

later_none : (ss : List Slip) → map (later_slip 0 0) ss ≡ ss
later_none [] = refl
later_none (s ∷ ss) =
    let e : 0 + s.packet ≡ s.packet = omega arith in
    let f : 0 + s.start ≡ s.start = omega arith in
    let one : later_slip 0 0 s ≡ s = ap₂ (λ (i j : ℕ). record { packet = i; start = j; size = s.size }) e f in
    ap₂ (λ (x : Slip) (xs : List Slip). x ∷ xs) one (later_none ss)

-- 2. After some packets in step

-- If the first k packets are in step, all slips are after them.
steady_slips : (k : ℕ) (bs : List ℕ) → 188 * k ≤ length bs → Steady bs (188 * k) → slips bs ≡ slips_from (length bs - k) bs k (188 * k)
unfolding slips
steady_slips zero bs within steady = let e : length bs ≡ length bs - 0 = omega arith in ap (λ (n : ℕ). slips_from n bs 0 0) e
steady_slips (suc k) bs within steady =
    let long : 188 * k + 188 ≤ length bs = omega (arith, within) in
    let front : 188 * k ≤ length bs = omega (arith, within) in
    let left : length bs ≤ length bs - k + 188 * k = omega arith in
    let is : slip_size bs (188 * k) ≡ None = steady k (omega arith) in
    let e : length bs - k - 1 ≡ length bs - suc k = omega arith in
    let f : k + 1 ≡ suc k = omega arith in
    let h : 188 * k + 188 ≡ 188 * suc k = omega arith in
    steady_slips k bs front (λ i less. steady i (omega (arith, less)))
    ∙ packet_passed (length bs - k) bs k (188 * k) left long (sym is)
    ∙ ap₂ (λ (n i : ℕ). slips_from n bs i (188 * k + 188)) e f
    ∙ ap (λ (j : ℕ). slips_from (length bs - suc k) bs (suc k) j) h

rest_slips : (k : ℕ) (bs : List ℕ) → 188 * k ≤ length bs → Steady bs (188 * k) → slips bs ≡ map (later_slip k (188 * k)) (slips (drop (188 * k) bs))
rest_slips k bs within steady = steady_slips k bs within steady ∙ later_all (length bs - k) bs k (188 * k) (omega arith)

lost_slips : (k size : ℕ) (bs : List ℕ) → 188 * k + 188 ≤ length bs → Steady bs (188 * k) → slip_size bs (188 * k) ≡ Some size →
    slips bs ≡ record { packet = k; start = 188 * k; size = size } ∷ map (later_slip k (188 * k + size)) (slips (drop (188 * k + size) bs))
lost_slips k size bs long steady is =
    let least = slip_some bs (188 * k) size is in
    let left : length bs ≤ length bs - k + 188 * k = omega arith in
    steady_slips k bs (omega (arith, long)) steady
    ∙ slip_passed (length bs - k) bs k (188 * k) size left long (sym is)
    ∙ ap (λ (ss : List Slip). record { packet = k; start = 188 * k; size = size } ∷ ss)
    (later_all (length bs - k - 1) bs k (188 * k + size) (omega (arith, least)))

-- 3. Fields

same_packet : (bs : List ℕ) (a b : ℕ) → packet_at bs (a + b) ≡ packet_at (drop a bs) b
same_packet bs a b =
    let e : a + b + 188 - (a + b) ≡ b + 188 - b = omega arith in
    ap₂ (λ (n : ℕ) (r : List ℕ). take n r) e (sym (drop-drop b a bs))

fields_step : (n m : ℕ) (bs : List ℕ) (a b : ℕ) (found : List FieldLeftOut) → length bs ≤ suc n + (a + b) → length bs ≤ suc m + (a + b) →
    a + b + 188 ≤ length bs → (o : Option ℕ) → slip_size bs (a + b) ≡ o →
    ((b : ℕ) (found : List FieldLeftOut) → length bs ≤ n + (a + b) → length bs ≤ m + (a + b) →
    fields_from n bs (a + b) found ≡ fields_from m (drop a bs) b found) →
    fields_from (suc n) bs (a + b) found ≡ fields_from (suc m) (drop a bs) b found
fields_step n m bs a b found some more long None is rest =
    let many : b + 188 ≤ length (drop a bs) = omega (arith, length-drop a bs, long) in
    let f : a + b + 188 ≡ a + (b + 188) = omega arith in
    packet_next n bs (a + b) found long is
    ∙ ap₂ (λ (j : ℕ) (p : List ℕ). fields_from n bs j (with_packet p found)) f (same_packet bs a b)
    ∙ rest (b + 188) (with_packet (packet_at (drop a bs) b) found) (omega (arith, some)) (omega (arith, more))
    ∙ sym (packet_next m (drop a bs) b found many (sym (slip_later bs a b) ∙ is))
fields_step n m bs a b found some more long (Some size) is rest =
    let many : b + 188 ≤ length (drop a bs) = omega (arith, length-drop a bs, long) in
    let least = slip_some bs (a + b) size is in
    let f : a + b + size ≡ a + (b + size) = omega arith in
    slip_next n bs (a + b) size found long is
    ∙ ap (λ (j : ℕ). fields_from n bs j found) f
    ∙ rest (b + size) found (omega (arith, some, least)) (omega (arith, more, least))
    ∙ sym (slip_next m (drop a bs) b size found many (sym (slip_later bs a b) ∙ is))

fields_short : (n m : ℕ) (bs : List ℕ) (a b : ℕ) (found : List FieldLeftOut) → length bs < a + b + 188 →
    fields_from n bs (a + b) found ≡ fields_from m (drop a bs) b found
fields_short n m bs a b found short =
    let few : length (drop a bs) < b + 188 = omega (arith, length-drop a bs, short) in
    fields_end n bs (a + b) found short ∙ sym (fields_end m (drop a bs) b found few)

fields_place : (n m : ℕ) (bs : List ℕ) (a b : ℕ) (found : List FieldLeftOut) → length bs ≤ suc n + (a + b) → length bs ≤ suc m + (a + b) → (t : Bool) →
    nat_lt (length bs) (a + b + 188) ≡ t →
    ((b : ℕ) (found : List FieldLeftOut) → length bs ≤ n + (a + b) → length bs ≤ m + (a + b) →
    fields_from n bs (a + b) found ≡ fields_from m (drop a bs) b found) →
    fields_from (suc n) bs (a + b) found ≡ fields_from (suc m) (drop a bs) b found
fields_place n m bs a b found some more true is rest = let short : length bs < a + b + 188 = search (arith, is) in
    fields_short (suc n) (suc m) bs a b found short
fields_place n m bs a b found some more false is rest =
    let long : a + b + 188 ≤ length bs = search (arith, is) in fields_step n m bs a b found some more long (slip_size bs (a + b)) refl rest

fields_later : (n m : ℕ) (bs : List ℕ) (a b : ℕ) (found : List FieldLeftOut) → length bs ≤ n + (a + b) → length bs ≤ m + (a + b) →
    fields_from n bs (a + b) found ≡ fields_from m (drop a bs) b found
fields_later zero m bs a b found some more = fields_short zero m bs a b found (omega (arith, some))
fields_later (suc n) zero bs a b found some more = fields_short (suc n) zero bs a b found (omega (arith, more))
fields_later (suc n) (suc m) bs a b found some more =
    fields_place n m bs a b found some more (nat_lt (length bs) (a + b + 188)) refl (λ b found some more. fields_later n m bs a b found some more)

fields_all : (n : ℕ) (bs : List ℕ) (a : ℕ) (found : List FieldLeftOut) → length bs ≤ n + a →
    fields_from n bs a found ≡ fields_from (length (drop a bs)) (drop a bs) 0 found
fields_all n bs a found some =
    let f : a ≡ a + 0 = omega arith in
    ap (λ (j : ℕ). fields_from n bs j found) f
    ∙ fields_later n (length (drop a bs)) bs a 0 found (omega (arith, some)) (omega (arith, length-drop a bs))

steady_fields : (k : ℕ) (bs : List ℕ) (found : List FieldLeftOut) → 188 * k ≤ length bs → Steady bs (188 * k) →
    fields_from (length bs) bs 0 found ≡ fields_from (length bs - k) bs (188 * k) (with_packets k bs found)
unfolding with_packets
steady_fields zero bs found within steady = let e : length bs ≡ length bs - 0 = omega arith in ap (λ (n : ℕ). fields_from n bs 0 found) e
steady_fields (suc k) bs found within steady =
    let long : 188 * k + 188 ≤ length bs = omega (arith, within) in
    let front : 188 * k ≤ length bs = omega (arith, within) in
    let left : length bs ≤ length bs - k + 188 * k = omega arith in
    let is : slip_size bs (188 * k) ≡ None = steady k (omega arith) in
    let e : length bs - k - 1 ≡ length bs - suc k = omega arith in
    let h : 188 * k + 188 ≡ 188 * suc k = omega arith in
    steady_fields k bs found front (λ i less. steady i (omega (arith, less)))
    ∙ sym (after_packet (length bs - k) bs (188 * k) (with_packets k bs found) (with_packets (suc k) bs found) left long (sym is) refl)
    ∙ ap₂ (λ (n j : ℕ). fields_from n bs j (with_packets (suc k) bs found)) e h

rest_fields : (k : ℕ) (bs : List ℕ) (found : List FieldLeftOut) → 188 * k ≤ length bs → Steady bs (188 * k) →
    fields_from (length bs) bs 0 found ≡ fields_from (length (drop (188 * k) bs)) (drop (188 * k) bs) 0 (with_packets k bs found)
rest_fields k bs found within steady = steady_fields k bs found within steady ∙ fields_all (length bs - k) bs (188 * k) (with_packets k bs found) (omega arith)

lost_fields : (k size : ℕ) (bs : List ℕ) (found : List FieldLeftOut) → 188 * k + 188 ≤ length bs → Steady bs (188 * k) → slip_size bs (188 * k) ≡ Some size →
    fields_from (length bs) bs 0 found ≡ fields_from (length (drop (188 * k + size) bs)) (drop (188 * k + size) bs) 0 (with_packets k bs found)
lost_fields k size bs found long steady is =
    let least = slip_some bs (188 * k) size is in
    let left : length bs ≤ length bs - k + 188 * k = omega arith in
    steady_fields k bs found (omega (arith, long)) steady
    ∙ sym (after_slip (length bs - k) bs (188 * k) size (with_packets k bs found) left long (sym is))
    ∙ fields_all (length bs - k - 1) bs (188 * k + size) (with_packets k bs found) (omega (arith, least))

-- A packet within the first bytes is the same if more bytes follow.
packet_front : (bs more : List ℕ) (at : ℕ) → at + 188 ≤ length bs → packet_at (bs ++ more) at ≡ packet_at bs at
packet_front bs more at within =
    let fits : at ≤ length bs = omega (arith, within) in
    let many : at + 188 - at ≤ length (drop at bs) = omega (arith, length-drop at bs, within) in
    ap (take (at + 188 - at)) (drop-append-le at bs more fits) ∙ take-append-le (at + 188 - at) (drop at bs) more many

packets_front : (k : ℕ) (bs more : List ℕ) (found : List FieldLeftOut) → 188 * k ≤ length bs → with_packets k (bs ++ more) found ≡ with_packets k bs found
unfolding with_packets
packets_front zero bs more found within = refl
packets_front (suc k) bs more found within =
    ap₂ with_packet (packet_front bs more (188 * k) (omega (arith, within))) (packets_front k bs more found (omega (arith, within)))

-- 4. The notes after a stretch

-- Some packets without a slip
packets_alike : (k : ℕ) (bytes more : List ℕ) (old : NotesView) → 188 * k ≤ length bytes → Steady (bytes ++ more) (188 * k) →
    SayAlike old (bytes ++ more)
    (record { slips = old.slips; fields = with_packets k bytes old.fields; packet = old.packet + k; start = old.start + 188 * k })
    (drop (188 * k) bytes ++ more)
packets_alike k bytes more old within steady =
    let bs = bytes ++ more in
    let long : 188 * k ≤ length bs = omega (arith, within, length-append bytes more) in
    let rest : drop (188 * k) bs ≡ drop (188 * k) bytes ++ more = drop-append-le (188 * k) bytes more within in
    record {
      slips = ap (λ (ss : List Slip). old.slips ++ ss)
          (ap (map (later_slip old.packet old.start)) (rest_slips k bs long steady)
          ∙ later_twice old.packet old.start k (188 * k) (slips (drop (188 * k) bs))
          ∙ ap (λ (r : List ℕ). map (later_slip (old.packet + k) (old.start + 188 * k)) (slips r)) rest);
      fields = rest_fields k bs old.fields long steady
          ∙ ap₂ (λ (r : List ℕ) (f : List FieldLeftOut). fields_from (length r) r 0 f) rest (packets_front k bytes more old.fields within);
    }

-- Some packets, and then a slip
lost_alike : (k size : ℕ) (bytes more : List ℕ) (old : NotesView) → 188 * k + size ≤ length bytes → 188 * k + 188 ≤ length (bytes ++ more) →
    Steady (bytes ++ more) (188 * k) →
    slip_size (bytes ++ more) (188 * k) ≡ Some size →
    SayAlike old (bytes ++ more)
    (record {
      slips = old.slips ++ record { packet = old.packet + k; start = old.start + 188 * k; size = size } ∷ [];
      fields = with_packets k bytes old.fields;
      packet = old.packet + k;
      start = old.start + 188 * k + size;
    })
    (drop (188 * k + size) bytes ++ more)
lost_alike k size bytes more old within long steady is =
    let bs = bytes ++ more in
    let front : 188 * k ≤ length bytes = omega (arith, within) in
    let rest : drop (188 * k + size) bs ≡ drop (188 * k + size) bytes ++ more = drop-append-le (188 * k + size) bytes more within in
    let e : old.start + (188 * k + size) ≡ old.start + 188 * k + size = omega arith in
    let s : Slip = record { packet = old.packet + k; start = old.start + 188 * k; size = size } in
    record {
      slips = ap (λ (ss : List Slip). old.slips ++ map (later_slip old.packet old.start) ss) (lost_slips k size bs long steady is)
          ∙ ap (λ (ss : List Slip). old.slips ++ s ∷ ss)
          (later_twice old.packet old.start k (188 * k + size) (slips (drop (188 * k + size) bs))
          ∙ ap₂ (λ (r : List ℕ) (j : ℕ). map (later_slip (old.packet + k) j) (slips r)) rest e)
          ∙ sym (append_assoc old.slips (s ∷ [])
          (map (later_slip (old.packet + k) (old.start + 188 * k + size)) (slips (drop (188 * k + size) bytes ++ more))));
      fields = lost_fields k size bs old.fields long steady is
          ∙ ap₂ (λ (r : List ℕ) (f : List FieldLeftOut). fields_from (length r) r 0 f) rest (packets_front k bytes more old.fields front);
    }

-- The last bytes of a stream that has ended
last_alike : (k size : ℕ) (bytes : List ℕ) (old : NotesView) → size ≡ length bytes → 188 * k ≤ size → size < 188 * k + 188 → Steady bytes (188 * k) →
    SayAlike old bytes (record { slips = old.slips; fields = with_packets k bytes old.fields; packet = old.packet + k; start = old.start + size }) []
unfolding slips slips_from fields_from
last_alike k size bytes old whole within short steady =
    let few : length bytes < 188 * k + 188 = omega (arith, whole, short) in
    let front : 188 * k ≤ length bytes = omega (arith, whole, within) in
    record {
      slips = ap (λ (ss : List Slip). old.slips ++ map (later_slip old.packet old.start) ss)
          (steady_slips k bytes front steady ∙ at_end (length bytes - k) bytes k (188 * k) few);
      fields = steady_fields k bytes old.fields front steady ∙ fields_end (length bytes - k) bytes (188 * k) (with_packets k bytes old.fields) few;
    }

-- Equal notes and equal rests give the same notes on the stream.
alike_as : (old a b : NotesView) (before rest left : List ℕ) → b ≡ a → left ≡ rest → SayAlike old before a rest → SayAlike old before b left
alike_as old a b before rest left e f so =
    subst (λ (n : NotesView). SayAlike old before n left) (sym e) (subst (λ (r : List ℕ). SayAlike old before a r) (sym f) so)

stretch_is : (size k : ℕ) (bytes : List ℕ) (old : NotesView) → size ≡ 188 * k →
    with_stretch size bytes old ≡ record { slips = old.slips; fields = with_packets k bytes old.fields; packet = old.packet + k; start = old.start + 188 * k }
stretch_is size k bytes old is =
    let e : size / 188 ≡ k = omega (arith, is) in
    ap₂ (λ (i j : ℕ). record { slips = old.slips; fields = with_packets i bytes old.fields; packet = old.packet + i; start = old.start + j }) e is

no_slip : (n : NotesView) (size : ℕ) → (size == 0) ≡ true → with_slip size n ≡ n
no_slip n size e = rw e refl

a_slip : (n : NotesView) (size : ℕ) → (size == 0) ≡ false →
    with_slip size n ≡ record {
      slips = n.slips ++ record { packet = n.packet; start = n.start; size = size } ∷ [];
      fields = n.fields;
      packet =
          n.packet;
      start = n.start + size;
    }
a_slip n size e = rw e refl

whole_noted : (k : ℕ) (bytes more : List ℕ) (s : Stretch) (old new : NotesView) → s.in_step ≡ 188 * k → s.in_step + s.slipped ≤ length bytes →
    IsStepped (bytes ++ more) s →
    new ≡ with_slip s.slipped (with_stretch s.in_step bytes old) → (b : Bool) → (s.slipped == 0) ≡ b →
    SayAlike old (bytes ++ more) new (drop (s.in_step + s.slipped) bytes ++ more)
whole_noted k bytes more s old new is within st e true t =
    let none : s.slipped ≡ 0 = search (arith, nat_tests, t) in
    let at : s.in_step + s.slipped ≡ 188 * k = omega (arith, none, is) in
    alike_as old (record { slips = old.slips; fields = with_packets k bytes old.fields; packet = old.packet + k; start = old.start + 188 * k }) new
    (bytes ++ more) (drop (188 * k) bytes ++ more) (drop (s.in_step + s.slipped) bytes ++ more)
    (e ∙ no_slip (with_stretch s.in_step bytes old) s.slipped t ∙ stretch_is s.in_step k bytes old is)
    (ap (λ (i : ℕ). drop i bytes ++ more) at)
    (packets_alike k bytes more old (omega (arith, within, is)) (λ i less. st.steady i (omega (arith, less, is))))
whole_noted k bytes more s old new is within st e false t =
    let some : 0 < s.slipped = search (arith, nat_tests, t) in
    let lost = st.lost some in
    let at : s.in_step + s.slipped ≡ 188 * k + s.slipped = omega (arith, is) in
    alike_as old _ new
    (bytes ++ more) (drop (188 * k + s.slipped) bytes ++ more) (drop (s.in_step + s.slipped) bytes ++ more)
    (e ∙ a_slip (with_stretch s.in_step bytes old) s.slipped t
    ∙ ap (λ (n : NotesView). record {
      slips = n.slips ++ record { packet = n.packet; start = n.start; size = s.slipped } ∷ [];
      fields = n.fields;
      packet =
          n.packet;
      start = n.start + s.slipped;
    })
    (stretch_is s.in_step k bytes old is))
    (ap (λ (i : ℕ). drop i bytes ++ more) at)
    (lost_alike k s.slipped bytes more old (omega (arith, within, is)) (omega (arith, lost.1, is)) (λ i less. st.steady i (omega (arith, less, is)))
    (subst (λ (i : ℕ). slip_size (bytes ++ more) i ≡ Some s.slipped) is lost.0))

last_noted : (bytes more : List ℕ) (s : Stretch) (old new : NotesView) → s.in_step ≡ length bytes → s.slipped ≡ 0 → more ≡ [] → IsStepped (bytes ++ more) s →
    new ≡ with_slip s.slipped (with_stretch s.in_step bytes old) →
    SayAlike old (bytes ++ more) new (drop (s.in_step + s.slipped) bytes ++ more)
last_noted bytes more s old new whole none ends st e =
    let k = s.in_step / 188 in
    let t : (s.slipped == 0) ≡ true = grind (arith, nat_tests) in
    let front : bytes ++ more ≡ bytes = ap (λ (r : List ℕ). bytes ++ r) ends ∙ append-nil bytes in
    let past : drop (s.in_step + s.slipped) bytes ≡ [] = drop_all (s.in_step + s.slipped) bytes (omega (arith, whole)) in
    subst (λ (r : List ℕ). SayAlike old r new (drop (s.in_step + s.slipped) bytes ++ more)) (sym front)
    (alike_as old (with_stretch s.in_step bytes old) new bytes [] (drop (s.in_step + s.slipped) bytes ++ more)
    (e ∙ no_slip (with_stretch s.in_step bytes old) s.slipped t)
    (ap₂ (λ (r m : List ℕ). r ++ m) past ends)
    (last_alike k s.in_step bytes old whole (omega arith) (omega arith)
    (λ i less. subst (λ (r : List ℕ). slip_size r (188 * i) ≡ None) front (st.steady i (omega (arith, less))))))

noted_by : (bytes more : List ℕ) (ended : Bool) (s : Stretch) (old new : NotesView) → s.in_step + s.slipped ≤ length bytes → IsStepped (bytes ++ more) s →
    IsOfPackets (length bytes) ended s →
    (ended ≡ true → more ≡ []) → new ≡ with_slip s.slipped (with_stretch s.in_step bytes old) →
    SayAlike old (bytes ++ more) new (drop (s.in_step + s.slipped) bytes ++ more)
noted_by bytes more ended s old new within st (inl whole) none e = whole_noted whole.0 bytes more s old new whole.1 within st e (s.slipped == 0) refl
noted_by bytes more ended s old new within st (inr last) none e = last_noted bytes more s old new last.1 last.2 (none last.0) st e

pub stretch_noted : (bytes : List ℕ) (ended : Bool) (s : Stretch) (old middle new : NotesView) → s.in_step + s.slipped ≤ length bytes →
    IsSteppedSoFar bytes ended s → IsOfPackets (length bytes) ended s →
    middle ≡ with_stretch s.in_step bytes old → new ≡ with_slip s.slipped middle → IsNoted old new bytes ended s
stretch_noted bytes ended s old middle new within stepped packets e f =
    λ more none. noted_by bytes more ended s old new within (stepped more none) packets none (f ∙ ap (with_slip s.slipped) e)

-- 5. A whole stream

-- If the notes begin empty and no bytes are left, they have the slips and the fields of the whole stream.
pub all_noted : (bytes : List ℕ) (n : NotesView) → SayAlike no_notes bytes n [] → (n.slips ≡ slips bytes) × (n.fields ≡ fields_left_out bytes)
unfolding slips slips_from fields_from fields_left_out
all_noted bytes n so = (
  sym (append-nil n.slips) ∙ sym so.slips ∙ later_none (slips bytes),
  sym so.fields,
)
