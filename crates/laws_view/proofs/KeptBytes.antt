-- The bytes of a stream's packets in its main buffer, each with the unit of its packet
use Rattle.std.proofs.Common.{◌≡◌, ◌∙◌, ◌⊎◌, sym, ℕ, suc, ◌+◌, ◌-◌, ◌*◌, ◌≤◌, ◌<◌, cond, true, false, nat_lt, nat_le, List, [], ◌∷◌, length, map, take, drop}
use Rattle.std.proofs.Common.{Option, Some, None, refl, ap, subst, inl, inr, arith, All}
use Rattle.std.proofs.lemmas.Bool.{le-ltb, and_right}
use Rattle.std.proofs.lemmas.List.{length-append, length-drop, take_at, drop_at}
use Rattle.std.proofs.lemmas.List.Elements.{All-head, All-tail}
use Rattle.std.proofs.lemmas.List.Sums.{sum_by-cons}
use Rattle.clock27.specs.Arrival.{bytes_from}
use Rattle.clock27.specs.Departure.{departures, last_left}
use Rattle.clock27.proofs.Departures.{length-departures}
use Rattle.tstd.proofs.ByteRows.{length-row}
use Rattle.pes_packet.specs.AccessUnits.{AccessUnit}
use Rattle.unit_timing.specs.MainBuffer.{is_in_main_buffer}
use Rattle.unit_timing.specs.Schedule.{Packet}
use Rattle.unit_timing.specs.Transport.{of_payloads, pes_left}
use Rattle.unit_timing.proofs.MainBufferBytes.{kept}
use Rattle.unit_timing.proofs.TransportBuffer.{pes_left-cons}
use Rattle.tstd.specs.Removal.{removal_time}
use Rattle.tstd.proofs.EntryPeaks.{gone_test}
use Rattle.tstd_rows.specs.RowEntry.{entered, has_entered}
use Rattle.arrival.specs.declared.arrival.Arrival.TheVariants.{AtRate}
use Rattle.tstd_rows.specs.ConstantRate.{due_time}
use Rattle.tstd_rows.specs.History.{arrivals_of, last_of, main_fullness, until_of}
use Rattle.tstd_rows.specs.declared.unit_seen.DueTime.{DueTime}
use Rattle.tstd_rows.specs.declared.arriving.Arriving.{Arriving}
use Rattle.tstd_rows.specs.Held.{Held}
use Rattle.tstd_rows.specs.Entering.{after}
use Rattle.laws_view.specs.StreamPackets.{after_each, most_packets}
use Rattle.laws_view.proofs.EnteredBytes.{ComeFrom, packet_arrives, taken_in}
use Rattle.laws_view.proofs.MainBytes.{due_with, packet_enters, payload_of_packet, timed_packet, until_at}

-- Each packet goes with its unit, or no unit has begun.
unfoldable pub Follows : ℕ → ℕ → Option DueTime → List Arriving → List AccessUnit → Type 0
Follows rate rx before [] us = Unit {0}
Follows rate rx before (p ∷ ps) [] = ⊥
Follows rate rx before (p ∷ ps) (u ∷ us) = (p.enters ≡ true)
    × ((due_with p.begins before ≡ None) ⊎ (due_with p.begins before ≡ Some (due_time rate rx u.dts)))
    × Follows rate rx (due_with p.begins before) ps us

-- The number of bytes in the main buffer at x, from packets of these units
unfoldable pub kept_each : ℕ → ℕ → ℕ → List AccessUnit → List Packet → List ℕ → ℕ
kept_each rate r x us [] left = 0
kept_each rate r x [] (p ∷ ps) left = 0
kept_each rate r x (u ∷ us) (p ∷ ps) left = kept rate r x u.dts (take p.size left) + kept_each rate r x us ps (drop p.size left)

-- The sum of sizes
unfoldable pub total : List ℕ → ℕ
total [] = 0
total (n ∷ ns) = n + total ns

none_entered : (x : ℕ) (ds : List ℕ) → entered 0 x ds ≡ 0
none_entered x [] = refl
none_entered x (d ∷ ds) =
    let out : has_entered 0 x d ≡ false = and_right (nat_le d x) (nat_lt x 0) (le-ltb x 0 (omega arith)) in
    rw (sum_by-cons (λ s. cond (has_entered 0 x s) 1 0) d ds, out) (omega (arith, none_entered x ds))

pub entered_kept : (rate r due x : ℕ) (ds : List ℕ) → entered (removal_time rate r due) x ds ≡ kept rate r x due ds
unfolding kept
entered_kept rate r due x [] = refl
entered_kept rate r due x (d ∷ ds) =
    rw (
      sum_by-cons (λ s. cond (has_entered (removal_time rate r due) x s) 1 0) d ds,
      sum_by-cons (λ s. cond (is_in_main_buffer rate r x due s) 1 0) d ds,
      gone_test x (due * rate * r),
    )
    (omega (arith, entered_kept rate r due x ds))

pub no_more : (rate r x due : ℕ) (o : Option DueTime) (ds : List ℕ) → (o ≡ None) ⊎ (o ≡ Some (due_time rate r due)) →
    entered (until_at o) x ds ≤ kept rate r x due ds
unfolding until_at
no_more rate r x due o ds (inl none) = rw none (omega (arith, none_entered x ds))
no_more rate r x due o ds (inr some) = rw some (omega (arith, entered_kept rate r due x ds))

-- The departures of a packet, and of the packets after it
pub left_packet : (rate r prev : ℕ) (p : Packet) → p.size ≤ 188 → length (payload_of_packet rate r prev p) ≡ p.size
left_packet rate r prev p le =
    omega (
      arith,
      le,
      length-drop (188 - p.size) (departures rate prev (bytes_from r (188 * p.slot) 188)),
      length-departures rate prev (bytes_from r (188 * p.slot) 188),
      length-row r (188 * p.slot) 188,
    )

pub first_left : (rate r prev : ℕ) (p : Packet) (ps : List Packet) → p.size ≤ 188 →
    take p.size (pes_left rate r prev (p ∷ ps)) ≡ payload_of_packet rate r prev p
first_left rate r prev p ps le =
    ap (λ (l : List ℕ). take p.size l) (pes_left-cons rate r prev p ps)
    ∙ take_at (payload_of_packet rate r prev p) (pes_left rate r (last_left rate prev (bytes_from r (188 * p.slot) 188)) ps) p.size
    (left_packet rate r prev p le)

pub later_left : (rate r prev : ℕ) (p : Packet) (ps : List Packet) → p.size ≤ 188 →
    drop p.size (pes_left rate r prev (p ∷ ps)) ≡ pes_left rate r (last_left rate prev (bytes_from r (188 * p.slot) 188)) ps
later_left rate r prev p ps le =
    ap (λ (l : List ℕ). drop p.size l) (pes_left-cons rate r prev p ps)
    ∙ drop_at (payload_of_packet rate r prev p) (pes_left rate r (last_left rate prev (bytes_from r (188 * p.slot) 188)) ps) p.size
    (left_packet rate r prev p le)

-- One more packet: its bytes in the main buffer, and the bytes of the packets after it
pub record OneMore (rate : ℕ) (h h' : Held) (p : Arriving) (due : Option DueTime) (qs : List Packet) : Type 0 where
  pub rx : h'.rx ≡ h.rx
  pub until : until_of h'.parts ≡ until_at due
  pub few : length (arrivals_of h'.parts) ≤ 188 * suc p.index
  pub main : (x : ℕ) → main_fullness rate h'.parts x
      ≡ main_fullness rate h.parts x + entered (until_at due) x (take (timed_packet p).size (pes_left rate h.rx (last_of rate h.parts) (timed_packet p ∷ qs)))
  pub later : (x : ℕ) (us : List AccessUnit) → kept_each rate h'.rx x us qs (pes_left rate h'.rx (last_of rate h'.parts) qs)
      ≡ kept_each rate h.rx x us qs (drop (timed_packet p).size (pes_left rate h.rx (last_of rate h.parts) (timed_packet p ∷ qs)))

pub one_more : (rate low : ℕ) (h : Held) (p : Arriving) (qs : List Packet) (before : Option DueTime) → low ≤ p.index → p.index < most_packets →
    length (arrivals_of h.parts) ≤ 188 * low →
    p.enters ≡ true → until_of h.parts ≡ until_at before → OneMore rate h (after h (AtRate rate) p) p (due_with p.begins before) qs
one_more rate low h p qs before first early few enters e =
    let takes = taken_in h rate p early (omega (arith, few, first)) in
    let arrives = packet_arrives h rate p takes in
    let one = packet_enters rate h p before takes enters e in
    let h' : Held = after h (AtRate rate) p in
    let q : Packet = timed_packet p in
    let prev : ℕ = last_of rate h.parts in
    let le : q.size ≤ 188 = omega arith in
    let due : Option DueTime = due_with p.begins before in
    let after_it : pes_left rate h'.rx (last_of rate h'.parts) qs ≡ drop q.size (pes_left rate h.rx prev (q ∷ qs)) =
    ap (λ (r : ℕ). pes_left rate r (last_of rate h'.parts) qs) one.alike.rx ∙ ap (λ (n : ℕ). pes_left rate h.rx n qs) one.last
    ∙ sym (later_left rate h.rx prev q qs le) in
    record {
      rx = one.alike.rx;
      until = one.until;
      few = omega (
        arith,
        few,
        first,
        ap (λ (l : List ℕ). length l) arrives.arrivals,
        length-append (arrivals_of h.parts) (bytes_from h.rx (188 * p.index) 188),
        length-row h.rx (188 * p.index) 188,
      );
      main = λ x. one.main x ∙ ap (λ (l : List ℕ). main_fullness rate h.parts x + entered (until_at due) x l) (sym (first_left rate h.rx prev q qs le));
      later = λ x us. rw (after_it, one.alike.rx) refl;
    }

-- The packets leave no more bytes in the main buffer than their units have there.
pub main_each : (rate low x : ℕ) (h : Held) (ps : List Arriving) (us : List AccessUnit) (before : Option DueTime) → ComeFrom low ps →
    length (arrivals_of h.parts) ≤ 188 * low →
    Follows rate h.rx before ps us → until_of h.parts ≡ until_at before →
    main_fullness rate (after_each h (AtRate rate) ps).parts x
    ≤ main_fullness rate h.parts x + kept_each rate h.rx x us (map timed_packet ps) (pes_left rate h.rx (last_of rate h.parts) (map timed_packet ps))
unfolding after_each ComeFrom Follows kept_each
main_each rate low x h [] us before come few follows e = omega arith
main_each rate low x h (p ∷ ps) [] before come few follows e = absurd follows
main_each rate low x h (p ∷ ps) (u ∷ us) before come few follows e =
    let qs : List Packet = map timed_packet ps in
    let m = one_more rate low h p qs before come.0 come.1 few follows.0 e in
    let due : Option DueTime = due_with p.begins before in
    let rest = main_each rate (suc p.index) x (after h (AtRate rate) p) ps us due come.2 m.few
    (subst (λ (r : ℕ). Follows rate r due ps us) (sym m.rx) follows.2) m.until in
    omega (
      arith,
      rest,
      m.later x us,
      m.main x,
      no_more rate h.rx x u.dts due (take (timed_packet p).size (pes_left rate h.rx (last_of rate h.parts) (timed_packet p ∷ qs))) follows.1,
    )

-- A unit is open from the first packet on: then the packets leave exactly as many bytes.
unfoldable pub UnderWay : Option DueTime → List Arriving → Type 0
UnderWay before [] = Unit {0}
UnderWay before (p ∷ ps) = due_with p.begins before ≡ None → ⊥

still_under_way : (due : Option DueTime) (ps : List Arriving) → (due ≡ None → ⊥) → UnderWay due ps
unfolding UnderWay
still_under_way due [] some = tt
still_under_way due (p ∷ ps) some = λ none. some (of_both p.begins due none)
  where
    of_both : (a b : Option DueTime) → due_with a b ≡ None → b ≡ None
    of_both None b e = e
    of_both (Some t) b e = absurd (let no : ⊥ = cc in no)

same_entered : (rate r x due : ℕ) (o : Option DueTime) (ds : List ℕ) → (o ≡ None → ⊥) → (o ≡ None) ⊎ (o ≡ Some (due_time rate r due)) →
    entered (until_at o) x ds ≡ kept rate r x due ds
unfolding until_at
same_entered rate r x due o ds under_way (inl none) = absurd (under_way none)
same_entered rate r x due o ds under_way (inr some) = rw some (entered_kept rate r due x ds)

pub main_each_is : (rate low x : ℕ) (h : Held) (ps : List Arriving) (us : List AccessUnit) (before : Option DueTime) → ComeFrom low ps →
    length (arrivals_of h.parts) ≤ 188 * low →
    Follows rate h.rx before ps us → UnderWay before ps → until_of h.parts ≡ until_at before →
    main_fullness rate (after_each h (AtRate rate) ps).parts x
    ≡ main_fullness rate h.parts x + kept_each rate h.rx x us (map timed_packet ps) (pes_left rate h.rx (last_of rate h.parts) (map timed_packet ps))
unfolding after_each ComeFrom Follows UnderWay kept_each
main_each_is rate low x h [] us before come few follows under_way e = omega arith
main_each_is rate low x h (p ∷ ps) [] before come few follows under_way e = absurd follows
main_each_is rate low x h (p ∷ ps) (u ∷ us) before come few follows under_way e =
    let qs : List Packet = map timed_packet ps in
    let m = one_more rate low h p qs before come.0 come.1 few follows.0 e in
    let due : Option DueTime = due_with p.begins before in
    let rest = main_each_is rate (suc p.index) x (after h (AtRate rate) p) ps us due come.2 m.few
    (subst (λ (r : ℕ). Follows rate r due ps us) (sym m.rx) follows.2)
    (still_under_way due ps under_way) m.until in
    omega (
      arith,
      rest,
      m.later x us,
      m.main x,
      same_entered rate h.rx x u.dts due (take (timed_packet p).size (pes_left rate h.rx (last_of rate h.parts) (timed_packet p ∷ qs))) under_way follows.1,
    )

-- As many bytes leave as the packets have.
pub many_left : (rate r prev : ℕ) (ps : List Packet) → All (λ p. p.size ≤ 188) ps → length (pes_left rate r prev ps) ≡ total (map (λ (p : Packet). p.size) ps)
unfolding total of_payloads
many_left rate r prev [] small = refl
many_left rate r prev (p ∷ ps) small =
    let le : p.size ≤ 188 = All-head (λ p. p.size ≤ 188) p ps small in
    let next : ℕ = last_left rate prev (bytes_from r (188 * p.slot) 188) in
    omega (
      arith,
      ap (λ (l : List ℕ). length l) (pes_left-cons rate r prev p ps),
      length-append (payload_of_packet rate r prev p) (pes_left rate r next ps),
      left_packet rate r prev p le,
      many_left rate r next ps (All-tail (λ p. p.size ≤ 188) p ps small),
    )
