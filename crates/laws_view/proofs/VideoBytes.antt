-- What the packets of a video stream leave in its elementary stream buffer, as the bytes of each come (ISO/IEC 13818-1, 2.4.2.3)
use Rattle.std.proofs.Common.{◌≡◌, ◌∙◌, sym, ℕ, suc, ◌+◌, ◌-◌, ◌*◌, ◌≤◌, ◌<◌, true, false, List, [], ◌∷◌, ◌++◌, length, map, take, drop, Option, Some, None}
use Rattle.std.proofs.Common.{refl, ap, ap₂, subst, inl, inr, arith, All}
use Rattle.std.proofs.lemmas.Bool.Decides.{eqb_tells}
use Rattle.std.proofs.lemmas.List.{append_assoc, append-nil, length-append, take_at, drop_at}
use Rattle.clock27.specs.Arrival.{bytes_from}
use Rattle.clock27.specs.Departure.{departures, last_left}
use Rattle.clock27.proofs.Departures.{departures-append, last_left-append, length-departures}
use Rattle.tstd.proofs.ByteRows.{length-row}
use Rattle.pes_packet.specs.AccessUnits.{AccessUnit}
use Rattle.unit_timing.specs.MainBuffer.{mb_fullness}
use Rattle.unit_timing.specs.Schedule.{Packet}
use Rattle.unit_timing.specs.Transport.{of_payloads, pes_left}
use Rattle.unit_timing.proofs.TransportBuffer.{pes_left-cons}
use Rattle.tstd.specs.Carried.{timed_pes_packets}
use Rattle.arrival.specs.declared.arrival.Arrival.TheVariants.{AtRate}
use Rattle.arrival.specs.Arrivals.{times_at}
use Rattle.tstd_rows.specs.RowEntry.{entered}
use Rattle.tstd_rows.specs.History.{arrivals_of, last_of, left_after, payload_left, until_of}
use Rattle.tstd_rows.specs.VideoViewed.{elementary_held, last_leaked, leaked_after}
use Rattle.tstd_rows.specs.declared.unit_seen.DueTime.{DueTime}
use Rattle.tstd_rows.specs.declared.arriving.Arriving.{Arriving}
use Rattle.tstd_rows.specs.Held.{Held, empty}
use Rattle.tstd_rows.specs.Entering.{after, after_begin, after_header, after_lead, after_payload, after_unit, size_of, takes_in, with_packet}
use Rattle.laws_view.specs.StreamPackets.{after_each, most_packets}
use Rattle.laws_view.specs.CarriedStreams.{CutUnit, IsCut, cut_pieces, cut_senders, cut_units}
use Rattle.laws_view.proofs.EnteredBytes.{ComeFrom, no_times, taken_in}
use Rattle.laws_view.proofs.MainBytes.{due_with, headed, no_lead, packet_enters, payload_of_packet, timed_packet, until_at}
use Rattle.laws_view.proofs.KeptBytes.{Follows, kept_each, left_packet, many_left, no_more, one_more, total}
use Rattle.laws_view.proofs.SentBytes.{kept_later, kept_units, packet_sizes, sizes_of, total_two}

-- Bytes that do not pass on from the transport buffer, and a unit that begins

pub same_passed : (h : Held) (n : ℕ) (times : List ℕ) (rate leak x : ℕ) →
    elementary_held rate leak (after_payload h false n times).parts x ≡ elementary_held rate leak h.parts x
unfolding after_payload elementary_held
same_passed h n times rate leak x = elim (eqb_tells n 0) [
  | inl none ↦ rw none.0 refl
  | inr some ↦ rw some.0 refl
]

pub passed_left : (h : Held) (n : ℕ) (times : List ℕ) (rate : ℕ) → payload_left rate (after_payload h false n times).parts ≡ payload_left rate h.parts
unfolding after_payload payload_left
passed_left h n times rate = elim (eqb_tells n 0) [
  | inl none ↦ rw none.0 refl
  | inr some ↦ rw some.0 refl
]

pub begin_held : (h : Held) (due : Option DueTime) (rate leak x : ℕ) →
    elementary_held rate leak (after_begin h due).parts x ≡ elementary_held rate leak h.parts x
unfolding after_begin elementary_held
begin_held h None rate leak x = refl
begin_held h (Some due) rate leak x = refl

pub begin_left : (h : Held) (due : Option DueTime) (rate : ℕ) → payload_left rate (after_begin h due).parts ≡ payload_left rate h.parts
unfolding after_begin payload_left
begin_left h None rate = refl
begin_left h (Some due) rate = refl

-- Bytes that pass on to the multiplexing buffer

carried_held : (h : Held) (n : ℕ) (times : List ℕ) (rate leak x : ℕ) → length times ≡ n →
    elementary_held rate leak (after_payload h true n times).parts x
    ≡ elementary_held rate leak h.parts x + entered (until_of h.parts) x (leaked_after rate leak h.parts times)
unfolding after_payload elementary_held departures
carried_held h n times rate leak x e = elim (eqb_tells n 0) [
  | inl none ↦
      let empty : times ≡ [] = no_times times (e ∙ none.1) in
      rw (none.0, empty) (let nil : elementary_held rate leak h.parts x ≡ elementary_held rate leak h.parts x + 0 = omega arith in nil)
  | inr some ↦ rw some.0 refl
]

pub carried_left : (h : Held) (n : ℕ) (times : List ℕ) (rate : ℕ) → length times ≡ n →
    payload_left rate (after_payload h true n times).parts ≡ payload_left rate h.parts ++ left_after rate h.parts times
unfolding after_payload payload_left departures
carried_left h n times rate e = elim (eqb_tells n 0) [
  | inl none ↦
      let empty : times ≡ [] = no_times times (e ∙ none.1) in
      rw (none.0, empty) (sym (append-nil (payload_left rate h.parts)))
  | inr some ↦ rw some.0 refl
]

-- One packet of a video stream

packet_parts : (rate leak : ℕ) (h : Held) (p : Arriving) (before : Option DueTime) (size : ℕ) → size ≤ 188 → p.enters ≡ true →
    until_of h.parts ≡ until_at before → (x : ℕ) →
    (elementary_held rate leak (with_packet h (AtRate rate) p size 0).parts x
    ≡ elementary_held rate leak h.parts x + entered (until_at (due_with p.begins before)) x
    (departures leak (last_leaked rate leak h.parts) (payload_of_packet rate h.rx (last_of rate h.parts) (record { slot = p.index; size = size }))))
    × (payload_left rate (with_packet h (AtRate rate) p size 0).parts
    ≡ payload_left rate h.parts ++ payload_of_packet rate h.rx (last_of rate h.parts) (record { slot = p.index; size = size }))
unfolding times_at
packet_parts rate leak h p before size le enters e x =
    let a : Held = after_lead h (AtRate rate) p 0 in
    let b : Held = after_header h (AtRate rate) p size 0 in
    let c : Held = after_unit h (AtRate rate) p size 0 in
    let k = headed rate h p before size le e in
    let one : List ℕ = times_at (AtRate rate) h.rx (188 * p.index) 0 in
    let two : List ℕ = times_at (AtRate rate) a.rx (188 * p.index + 0) (188 - size - 0) in
    let ds : List ℕ = payload_of_packet rate h.rx (last_of rate h.parts) (record { slot = p.index; size = size }) in
    let held : elementary_held rate leak c.parts x ≡ elementary_held rate leak h.parts x =
    begin_held b p.begins rate leak x ∙ same_passed a (188 - size - 0) two rate leak x ∙ same_passed h 0 one rate leak x in
    let so_far : payload_left rate c.parts ≡ payload_left rate h.parts =
    begin_left b p.begins rate ∙ passed_left a (188 - size - 0) two rate ∙ passed_left h 0 one rate in
    let times : List ℕ = bytes_from c.rx (188 * p.index + (188 - size)) size in
    let same : times ≡ bytes_from h.rx (188 * p.index + (188 - size)) size = ap (λ (r : ℕ). bytes_from r (188 * p.index + (188 - size)) size) k.alike.rx in
    let many : length times ≡ size = length-row c.rx (188 * p.index + (188 - size)) size in
    let left : left_after rate c.parts times ≡ ds = ap (λ (l : List ℕ). left_after rate c.parts l) same ∙ k.left in
    let leaked : leaked_after rate leak c.parts times ≡ departures leak (last_leaked rate leak h.parts) ds =
    ap₂ (λ (l m : List ℕ). departures leak (last_left leak 0 l) m) so_far left in
    let sum : elementary_held rate leak c.parts x + entered (until_of c.parts) x (leaked_after rate leak c.parts times)
    ≡ elementary_held rate leak h.parts x + entered (until_at (due_with p.begins before)) x (departures leak (last_leaked rate leak h.parts) ds) =
    ap₂ (λ (m n : ℕ). m + n) held (ap₂ (λ (u : ℕ) (l : List ℕ). entered u x l) k.until leaked) in (
      rw enters (carried_held c size times rate leak x many ∙ sum),
      rw enters (carried_left c size times rate many ∙ ap₂ (λ (l m : List ℕ). l ++ m) so_far left),
    )

pub record Leaks (rate leak : ℕ) (h h' : Held) (p : Arriving) (before : Option DueTime) : Type 0 where
  pub held : (x : ℕ) → elementary_held rate leak h'.parts x
      ≡ elementary_held rate leak h.parts x + entered (until_at (due_with p.begins before)) x
      (departures leak (last_leaked rate leak h.parts) (payload_of_packet rate h.rx (last_of rate h.parts) (timed_packet p)))
  pub left : payload_left rate h'.parts ≡ payload_left rate h.parts ++ payload_of_packet rate h.rx (last_of rate h.parts) (timed_packet p)

packet_leaks : (rate leak : ℕ) (h : Held) (p : Arriving) (before : Option DueTime) → takes_in h (AtRate rate) p ≡ true → p.enters ≡ true →
    until_of h.parts ≡ until_at before → Leaks rate leak h (after h (AtRate rate) p) p before
unfolding after
packet_leaks rate leak h p before takes enters e = record {
  held = λ x. rw (takes, no_lead rate p) (packet_parts rate leak h p before (size_of p) (omega arith) enters e x).0;
  left = rw (takes, no_lead rate p) (packet_parts rate leak h p before (size_of p) (omega arith) enters e 0).1;
}

-- One more packet: its bytes in the elementary stream buffer, and the bytes of the packets after it
record OneLeaks (rate leak : ℕ) (h h' : Held) (p : Arriving) (due : Option DueTime) (qs : List Packet) : Type 0 where
  held : (x : ℕ) → elementary_held rate leak h'.parts x
      ≡ elementary_held rate leak h.parts x + entered (until_at due) x
      (take (timed_packet p).size (departures leak (last_leaked rate leak h.parts) (pes_left rate h.rx (last_of rate h.parts) (timed_packet p ∷ qs))))
  later : (x : ℕ) (us : List AccessUnit) →
      kept_each rate h'.rx x us qs (departures leak (last_leaked rate leak h'.parts) (pes_left rate h'.rx (last_of rate h'.parts) qs))
      ≡ kept_each rate h.rx x us qs
      (drop (timed_packet p).size (departures leak (last_leaked rate leak h.parts) (pes_left rate h.rx (last_of rate h.parts) (timed_packet p ∷ qs))))
  left : payload_left rate h'.parts ++ pes_left rate h'.rx (last_of rate h'.parts) qs
      ≡ payload_left rate h.parts ++ pes_left rate h.rx (last_of rate h.parts) (timed_packet p ∷ qs)

one_leaks : (rate leak low : ℕ) (h : Held) (p : Arriving) (qs : List Packet) (before : Option DueTime) → low ≤ p.index → p.index < most_packets →
    length (arrivals_of h.parts) ≤ 188 * low → p.enters ≡ true → until_of h.parts ≡ until_at before →
    OneLeaks rate leak h (after h (AtRate rate) p) p (due_with p.begins before) qs
one_leaks rate leak low h p qs before first early few enters e =
    let takes = taken_in h rate p early (omega (arith, few, first)) in
    let one = packet_enters rate h p before takes enters e in
    let leaks = packet_leaks rate leak h p before takes enters e in
    let h' : Held = after h (AtRate rate) p in
    let q : Packet = timed_packet p in
    let prev : ℕ = last_of rate h.parts in
    let so_far : ℕ = last_leaked rate leak h.parts in
    let le : q.size ≤ 188 = omega arith in
    let ds : List ℕ = payload_of_packet rate h.rx prev q in
    let next : ℕ = last_left rate prev (bytes_from h.rx (188 * p.index) 188) in
    let es : List ℕ = pes_left rate h.rx next qs in
    let mine : List ℕ = departures leak so_far ds in
    let others : List ℕ = departures leak (last_left leak so_far ds) es in
    let many : length mine ≡ q.size = length-departures leak so_far ds ∙ left_packet rate h.rx prev q le in
    let two : departures leak so_far (pes_left rate h.rx prev (q ∷ qs)) ≡ mine ++ others =
    ap (λ (l : List ℕ). departures leak so_far l) (pes_left-cons rate h.rx prev q qs) ∙ departures-append leak so_far ds es in
    let here : take q.size (departures leak so_far (pes_left rate h.rx prev (q ∷ qs))) ≡ mine =
    ap (λ (l : List ℕ). take q.size l) two ∙ take_at mine others q.size many in
    let rest : drop q.size (departures leak so_far (pes_left rate h.rx prev (q ∷ qs))) ≡ others =
    ap (λ (l : List ℕ). drop q.size l) two ∙ drop_at mine others q.size many in
    let last : last_leaked rate leak h'.parts ≡ last_left leak so_far ds =
    ap (λ (l : List ℕ). last_left leak 0 l) leaks.left ∙ last_left-append leak 0 (payload_left rate h.parts) ds in
    let after_it : pes_left rate h'.rx (last_of rate h'.parts) qs ≡ es =
    ap₂ (λ (r n : ℕ). pes_left rate r n qs) one.alike.rx one.last in
    let all : departures leak (last_leaked rate leak h'.parts) (pes_left rate h'.rx (last_of rate h'.parts) qs) ≡ others =
    ap₂ (λ (n : ℕ) (l : List ℕ). departures leak n l) last after_it in
    record {
      held = λ x. leaks.held x ∙ ap (λ (l : List ℕ). elementary_held rate leak h.parts x + entered (until_at (due_with p.begins before)) x l) (sym here);
      later = λ x us. ap₂ (λ (r : ℕ) (l : List ℕ). kept_each rate r x us qs l) one.alike.rx (all ∙ sym rest);
      left = ap₂ (λ (l m : List ℕ). l ++ m) leaks.left after_it ∙ append_assoc (payload_left rate h.parts) ds es
          ∙ ap (λ (l : List ℕ). payload_left rate h.parts ++ l) (sym (pes_left-cons rate h.rx prev q qs));
    }

-- The packets leave no more bytes in the elementary stream buffer than their units have there.
pub leaked_each : (rate leak low x : ℕ) (h : Held) (ps : List Arriving) (us : List AccessUnit) (before : Option DueTime) → ComeFrom low ps →
    length (arrivals_of h.parts) ≤ 188 * low → Follows rate h.rx before ps us → until_of h.parts ≡ until_at before →
    elementary_held rate leak (after_each h (AtRate rate) ps).parts x
    ≤ elementary_held rate leak h.parts x + kept_each rate h.rx x us (map timed_packet ps)
    (departures leak (last_leaked rate leak h.parts) (pes_left rate h.rx (last_of rate h.parts) (map timed_packet ps)))
unfolding after_each ComeFrom Follows kept_each
leaked_each rate leak low x h [] us before come few follows e = omega arith
leaked_each rate leak low x h (p ∷ ps) [] before come few follows e = absurd follows
leaked_each rate leak low x h (p ∷ ps) (u ∷ us) before come few follows e =
    let qs : List Packet = map timed_packet ps in
    let m = one_more rate low h p qs before come.0 come.1 few follows.0 e in
    let k = one_leaks rate leak low h p qs before come.0 come.1 few follows.0 e in
    let due : Option DueTime = due_with p.begins before in
    let rest = leaked_each rate leak (suc p.index) x (after h (AtRate rate) p) ps us due come.2 m.few
    (subst (λ (r : ℕ). Follows rate r due ps us) (sym m.rx) follows.2) m.until in
    let ds : List ℕ = departures leak (last_leaked rate leak h.parts) (pes_left rate h.rx (last_of rate h.parts) (timed_packet p ∷ qs)) in
    omega (arith, rest, k.later x us, k.held x, no_more rate h.rx x u.dts due (take (timed_packet p).size ds) follows.1)

-- The bytes that the packets bring to the multiplexing buffer, one packet after another
pub payload_each : (rate low : ℕ) (h : Held) (ps : List Arriving) (us : List AccessUnit) (before : Option DueTime) → ComeFrom low ps →
    length (arrivals_of h.parts) ≤ 188 * low → Follows rate h.rx before ps us → until_of h.parts ≡ until_at before →
    payload_left rate (after_each h (AtRate rate) ps).parts ≡ payload_left rate h.parts ++ pes_left rate h.rx (last_of rate h.parts) (map timed_packet ps)
unfolding after_each ComeFrom Follows of_payloads
payload_each rate low h [] us before come few follows e = sym (append-nil (payload_left rate h.parts))
payload_each rate low h (p ∷ ps) [] before come few follows e = absurd follows
payload_each rate low h (p ∷ ps) (u ∷ us) before come few follows e =
    let qs : List Packet = map timed_packet ps in
    let m = one_more rate low h p qs before come.0 come.1 few follows.0 e in
    let k = one_leaks rate 0 low h p qs before come.0 come.1 few follows.0 e in
    let due : Option DueTime = due_with p.begins before in
    payload_each rate (suc p.index) (after h (AtRate rate) p) ps us due come.2 m.few (subst (λ (r : ℕ). Follows rate r due ps us) (sym m.rx) follows.2) m.until
    ∙ k.left

-- The packets leave no more bytes in the elementary stream buffer than a model has in a main buffer that the bytes of all packets enter as late.
pub later_leaked : (rate rx size low x leak id base0 : ℕ) (cuts : List CutUnit) (ps : List Arriving) (front back : List Packet) → ComeFrom low ps →
    Follows rate rx None ps (drop (length front) (cut_senders cuts)) → map timed_packet ps ≡ back → All (λ p. p.size ≤ 188) front →
    All (λ p. p.size ≤ 188) back →
    All (IsCut id base0) cuts → packet_sizes (front ++ back) ≡ take (length (front ++ back)) (sizes_of (cut_pieces cuts)) →
    elementary_held rate leak (after_each (empty rate rx size) (AtRate rate) ps).parts x
    ≤ mb_fullness rate rx x (timed_pes_packets id base0 (cut_units cuts)) (pes_left rate rx 0 front ++ departures leak 0 (pes_left rate rx 0 back))
unfolding elementary_held payload_left arrivals_of last_left until_of until_at
later_leaked rate rx size low x leak id base0 cuts ps front back come follows same small small_too cut sizes =
    let vs : List AccessUnit = drop (length front) (cut_senders cuts) in
    let before : List ℕ = pes_left rate rx 0 front in
    let after_it : List ℕ = departures leak 0 (pes_left rate rx 0 back) in
    let all = leaked_each rate leak low x (empty rate rx size) ps (drop (length front) (cut_senders cuts)) None come (omega arith) follows refl in
    let here : kept_each rate rx x vs (map timed_packet ps) (departures leak 0 (pes_left rate rx 0 (map timed_packet ps))) ≡ kept_each rate rx x vs back
    after_it =
    ap (λ (xs : List Packet). kept_each rate rx x vs xs (departures leak 0 (pes_left rate rx 0 xs))) same in
    let more = kept_later rate rx x (cut_senders cuts) front back before after_it (many_left rate rx 0 front small) in
    let many : length (before ++ after_it) ≡ total (packet_sizes (front ++ back)) =
    omega (
      arith,
      length-append before after_it,
      length-departures leak 0 (pes_left rate rx 0 back),
      many_left rate rx 0 front small,
      many_left rate rx 0 back small_too,
      total_two front back,
    ) in
    omega (arith, all, here, more, kept_units rate rx x id base0 cuts (front ++ back) (before ++ after_it) cut sizes many)
