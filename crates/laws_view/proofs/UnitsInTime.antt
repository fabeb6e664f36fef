-- Units whose bytes leave the transport buffer in time are not late in a view.
use Rattle.std.proofs.Common.{◌≡◌, ◌∙◌, ◌⊎◌, sym, ℕ, zero, suc, ◌+◌, ◌-◌, ◌*◌, ◌/◌, ◌≤◌, ◌==◌, max, cond, true, false, List, [], ◌∷◌, ◌++◌, length, map, drop}
use Rattle.std.proofs.Common.{Option, Some, None, refl, ap, subst, inl, inr, arith, All}
use Rattle.std.specs.Prelude.{count_by}
use Rattle.std.specs.Option.{option_to_list}
use Rattle.std.proofs.lemmas.Bool.{le-ltb}
use Rattle.std.proofs.lemmas.Bool.Decides.{eqb_tells}
use Rattle.std.proofs.lemmas.List.{length-append}
use Rattle.std.proofs.lemmas.List.Elements.{All-cons, All-head, All-nil, All-tail, All-weaker}
use Rattle.std.proofs.lemmas.List.Sums.{sum_by-cons}
use Rattle.clock27.specs.Arrival.{bytes_from}
use Rattle.clock27.specs.Departure.{departures, last_left}
use Rattle.clock27.specs.Units.{slot_units_at_1bps}
use Rattle.clock27.proofs.Departures.{last_left-append}
use Rattle.tstd.proofs.ByteRows.{length-row}
use Rattle.pes_packet.specs.AccessUnits.{AccessUnit}
use Rattle.unit_timing.specs.Schedule.{Packet}
use Rattle.unit_timing.specs.Transport.{pes_left}
use Rattle.arrival.specs.declared.arrival.Arrival.TheVariants.{AtRate}
use Rattle.arrival.specs.Arrivals.{times_at}
use Rattle.tstd_rows.specs.ConstantRate.{due_time}
use Rattle.tstd_rows.specs.History.{arrivals_of, last_of, left_after, unit_of, until_of, with_bytes}
use Rattle.tstd_rows.specs.declared.unit_seen.DueTime.{DueTime}
use Rattle.tstd_rows.specs.declared.unit_seen.UnitSeen.{UnitSeen}
use Rattle.tstd_rows.specs.declared.arriving.Arriving.{Arriving}
use Rattle.tstd_rows.specs.Held.{Held, unit_before}
use Rattle.tstd_rows.specs.Entering.{after, after_begin, after_header, after_lead, after_payload, after_unit, entered, size_of, takes_in, unit_ended}
use Rattle.tstd_rows.specs.Entering.{with_packet}
use Rattle.es_events.specs.Tallies.{is_late}
use Rattle.laws_view.specs.StreamPackets.{after_each}
use Rattle.laws_view.specs.StreamUnits.{all_units, units_ended}
use Rattle.laws_view.proofs.EnteredBytes.{ComeFrom, packet_arrives, payload_alike, taken_in}
use Rattle.laws_view.proofs.Lists.{some_is}
use Rattle.laws_view.proofs.Units.{count_two, packet_units}
use Rattle.laws_view.proofs.MainBytes.{due_with, headed, no_lead, packet_enters, payload_of_packet, same_unit, timed_packet, until_at}
use Rattle.laws_view.proofs.KeptBytes.{Follows, first_left, later_left}
use Rattle.laws_view.proofs.SentBytes.{TimelyEach}

-- The bytes of each packet leave by the decoding time of its unit.

unfoldable pub LeaveInTime : ℕ → ℕ → ℕ → List AccessUnit → List Packet → Type 0
LeaveInTime rate r prev us [] = Unit {0}
LeaveInTime rate r prev [] (p ∷ ps) = Unit {0}
LeaveInTime rate r prev (u ∷ us) (p ∷ ps) =
    All (λ d. d * 720000 ≤ u.dts * rate * r) (payload_of_packet rate r prev p) × LeaveInTime rate r (last_left rate prev (bytes_from r (188 * p.slot) 188)) us
    ps

-- If all units are due in the run, the bytes of each packet leave in time.
pub leave_timely : (rate r n prev : ℕ) (us : List AccessUnit) (ps more : List Packet) → All (λ p. p.size ≤ 188) ps →
    All (λ u. u.dts * rate ≤ n * slot_units_at_1bps) us →
    TimelyEach rate r n us ps (pes_left rate r prev (ps ++ more)) → LeaveInTime rate r prev us ps
unfolding TimelyEach LeaveInTime
leave_timely rate r n prev us [] more sized due timely = tt
leave_timely rate r n prev [] (p ∷ ps) more sized due timely = tt
leave_timely rate r n prev (u ∷ us) (p ∷ ps) more sized due timely =
    let le : p.size ≤ 188 = All-head (λ p. p.size ≤ 188) p ps sized in
    let next : ℕ = last_left rate prev (bytes_from r (188 * p.slot) 188) in (
      subst (λ (l : List ℕ). All (λ d. d * 720000 ≤ u.dts * rate * r) l) (first_left rate r prev p (ps ++ more) le)
          (timely.0 (All-head (λ u. u.dts * rate ≤ n * slot_units_at_1bps) u us due)),
      leave_timely rate r n next us ps more (All-tail (λ p. p.size ≤ 188) p ps sized) (All-tail (λ u. u.dts * rate ≤ n * slot_units_at_1bps) u us due)
          (subst (λ (l : List ℕ). TimelyEach rate r n us ps l) (later_left rate r prev p (ps ++ more) le) timely.1),
    )

-- If the byte before them leaves earlier, the bytes leave no later.
earlier_last : (step p q : ℕ) (ts : List ℕ) → p ≤ q → last_left step p ts ≤ last_left step q ts
unfolding last_left
earlier_last step p q [] le = le
earlier_last step p q (t ∷ ts) le = earlier_last step (max t p + step) (max t q + step) ts (omega (arith, le))

earlier_left : (m step p q k : ℕ) (ts : List ℕ) → p ≤ q → All (λ d. d * 720000 ≤ m) (drop k (departures step q ts)) →
    All (λ d. d * 720000 ≤ m) (drop k (departures step p ts))
unfolding departures
earlier_left m step p q zero [] le h = All-nil (λ d. d * 720000 ≤ m)
earlier_left m step p q (suc k) [] le h = All-nil (λ d. d * 720000 ≤ m)
earlier_left m step p q zero (t ∷ ts) le h =
    let later : max t p + step ≤ max t q + step = omega (arith, le) in
    let one : (max t q + step) * 720000 ≤ m = All-head (λ d. d * 720000 ≤ m) (max t q + step) (departures step (max t q + step) ts) h in
    All-cons (λ d. d * 720000 ≤ m) (max t p + step) (departures step (max t p + step) ts) (omega (arith, later, one))
    (earlier_left m step (max t p + step) (max t q + step) zero ts later
    (All-tail (λ d. d * 720000 ≤ m) (max t q + step) (departures step (max t q + step) ts) h))
earlier_left m step p q (suc k) (t ∷ ts) le h = earlier_left m step (max t p + step) (max t q + step) k ts (omega (arith, le)) h

pub leave_earlier : (rate r p q : ℕ) (us : List AccessUnit) (ps : List Packet) → p ≤ q → LeaveInTime rate r q us ps → LeaveInTime rate r p us ps
unfolding LeaveInTime
leave_earlier rate r p q us [] le h = tt
leave_earlier rate r p q [] (x ∷ ps) le h = tt
leave_earlier rate r p q (u ∷ us) (x ∷ ps) le h =
    let row : List ℕ = bytes_from r (188 * x.slot) 188 in (
      earlier_left (u.dts * rate * r) rate p q (188 - x.size) row le h.0,
      leave_earlier rate r (last_left rate p row) (last_left rate q row) us ps (earlier_last rate p q row le) h.1,
    )

-- The bytes of the last packets leave in time.
pub leave_last : (rate r prev : ℕ) (us : List AccessUnit) (ps qs : List Packet) → LeaveInTime rate r prev us (ps ++ qs) →
    LeaveInTime rate r 0 (drop (length ps) us) qs
unfolding LeaveInTime
leave_last rate r prev us [] qs h = leave_earlier rate r 0 prev us qs (omega arith) h
leave_last rate r prev [] (p ∷ ps) qs h = none qs
  where
    none : (qs : List Packet) → LeaveInTime rate r 0 [] qs
    none [] = unfold LeaveInTime in tt
    none (q ∷ qs) = unfold LeaveInTime in tt
leave_last rate r prev (u ∷ us) (p ∷ ps) qs h = leave_last rate r (last_left rate prev (bytes_from r (188 * p.slot) 188)) us ps qs h.1

-- The open unit

unfoldable pub UnitFine : Option DueTime → Option UnitSeen → Type 0
UnitFine due None = Unit {0}
UnitFine due (Some u) = (due ≡ Some u.due) × (u.left ≤ u.due.deadline)

-- A unit with `UnitFine` is not late when it ends.
fine_ended : (due : Option DueTime) (o : Option UnitSeen) → UnitFine due o → count_by is_late (option_to_list o) ≡ 0
unfolding UnitFine
fine_ended due None fine = refl
fine_ended due (Some u) fine =
    let in_time : is_late u ≡ false = le-ltb 0 (u.left - u.due.deadline) (omega (arith, fine.1)) in
    rw (sum_by-cons (λ v. cond (is_late v) 1 0) u [], in_time) refl

begun_fine : (rate : ℕ) (h : Held) (begins due : Option DueTime) → UnitFine due (unit_of rate h.parts) →
    UnitFine (due_with begins due) (unit_of rate (after_begin h begins).parts)
unfolding after_begin unit_of UnitFine
begun_fine rate h None due fine = fine
begun_fine rate h (Some d) due fine = (refl, omega arith)

last_within : (m step prev : ℕ) (ts : List ℕ) → prev ≤ m → All (λ d. d * 720000 ≤ m * 720000 + 719999) (departures step prev ts) → last_left step prev ts ≤ m
unfolding departures last_left
last_within m step prev [] le h = le
last_within m step prev (t ∷ ts) le h =
    let one : (max t prev + step) * 720000 ≤ m * 720000 + 719999 =
    All-head (λ d. d * 720000 ≤ m * 720000 + 719999) (max t prev + step) (departures step (max t prev + step) ts) h in
    last_within m step (max t prev + step) ts (omega (arith, one))
    (All-tail (λ d. d * 720000 ≤ m * 720000 + 719999) (max t prev + step) (departures step (max t prev + step) ts) h)

-- The last byte of a payload leaves by the decoding time.
last_byte : (y step prev : ℕ) (ts : List ℕ) → (length ts == 0) ≡ false → All (λ d. d * 720000 ≤ y) (departures step prev ts) →
    last_left step prev ts ≤ y / 720000
unfolding departures last_left
last_byte y step prev [] some h = absurd (let no : ⊥ = cc in no)
last_byte y step prev (t ∷ ts) some h =
    let one : (max t prev + step) * 720000 ≤ y = All-head (λ d. d * 720000 ≤ y) (max t prev + step) (departures step (max t prev + step) ts) h in
    let rest = All-tail (λ d. d * 720000 ≤ y) (max t prev + step) (departures step (max t prev + step) ts) h in
    last_within (y / 720000) step (max t prev + step) ts (omega (arith, one))
    (All-weaker (λ d. d * 720000 ≤ y) (λ d. d * 720000 ≤ y / 720000 * 720000 + 719999) (λ d le. omega (arith, le)) (departures step (max t prev + step) ts)
    rest)

with_fine : (rate rx dts count left : ℕ) (due : Option DueTime) (o : Option UnitSeen) → UnitFine due o → (due ≡ None) ⊎ (due ≡ Some (due_time rate rx dts)) →
    left ≤ dts * rate * rx / 720000 →
    UnitFine due (with_bytes o count left)
unfolding UnitFine
with_fine rate rx dts count left due None fine is le = tt
with_fine rate rx dts count left due (Some u) fine (inl none) le = absurd (let no : None ≡ Some u.due = sym none ∙ fine.0 in (let bad : ⊥ = cc in bad))
with_fine rate rx dts count left due (Some u) fine (inr some) le =
    let same : due_time rate rx dts ≡ u.due = some_is (due_time rate rx dts) u.due (sym some ∙ fine.0) in
    let deadline : dts * rate * rx / 720000 ≡ u.due.deadline = ap (λ (d : DueTime). d.deadline) same in
    (fine.0, omega (arith, le, deadline))

-- A payload keeps `UnitFine`.
payload_fine : (rate rx dts : ℕ) (h : Held) (n : ℕ) (times : List ℕ) (due : Option DueTime) → length times ≡ n → UnitFine due (unit_of rate h.parts) →
    (due ≡ None) ⊎ (due ≡ Some (due_time rate rx dts)) →
    All (λ d. d * 720000 ≤ dts * rate * rx) (left_after rate h.parts times) → UnitFine due (unit_of rate (after_payload h true n times).parts)
unfolding after_payload unit_of arrivals_of
payload_fine rate rx dts h n times due many fine is in_time = elim (eqb_tells n 0) [
  | inl none ↦ rw none.0 fine
  | inr some ↦
      let left : last_left rate 0 (arrivals_of h.parts ++ times) ≤ dts * rate * rx / 720000 =
      rw (last_left-append rate 0 (arrivals_of h.parts) times) (last_byte (dts * rate * rx) rate (last_of rate h.parts) times (rw many some.0) in_time) in
      rw some.0 (with_fine rate rx dts (length times) (last_left rate 0 (arrivals_of h.parts ++ times)) due (unit_of rate h.parts) fine is left)
]

-- A unit that ends with a packet is not late.
ended_fine : (rate : ℕ) (b : Held) (begins due : Option DueTime) (o : Option UnitSeen) → b.rate ≡ rate → unit_of rate b.parts ≡ o → UnitFine due o →
    count_by is_late (option_to_list (unit_ended b begins)) ≡ 0
unfolding unit_ended
ended_fine rate b None due o same is fine = refl
ended_fine rate b (Some d) due o same is fine =
    let ended : unit_before b ≡ o = ap (λ (r : ℕ). unit_of r b.parts) same ∙ is in
    ap (λ (x : Option UnitSeen). count_by is_late (option_to_list x)) ended ∙ fine_ended due o fine

parts_fine : (rate dts : ℕ) (h : Held) (p : Arriving) (before : Option DueTime) (size : ℕ) → size ≤ 188 → p.enters ≡ true → h.rate ≡ rate →
    until_of h.parts ≡ until_at before →
    UnitFine before (unit_of rate h.parts) → (due_with p.begins before ≡ None) ⊎ (due_with p.begins before ≡ Some (due_time rate h.rx dts)) →
    All (λ d. d * 720000 ≤ dts * rate * h.rx) (payload_of_packet rate h.rx (last_of rate h.parts) (record { slot = p.index; size = size })) →
    UnitFine (due_with p.begins before) (unit_of rate (with_packet h (AtRate rate) p size 0).parts)
    × (count_by is_late (option_to_list (unit_ended (after_header h (AtRate rate) p size 0) p.begins)) ≡ 0)
unfolding times_at
parts_fine rate dts h p before size le enters step until fine is in_time =
    let a : Held = after_lead h (AtRate rate) p 0 in
    let b : Held = after_header h (AtRate rate) p size 0 in
    let c : Held = after_unit h (AtRate rate) p size 0 in
    let one : List ℕ = bytes_from h.rx (188 * p.index) 0 in
    let two : List ℕ = bytes_from a.rx (188 * p.index + 0) (188 - size - 0) in
    let k = headed rate h p before size le until in
    let times : List ℕ = bytes_from c.rx (188 * p.index + (188 - size)) size in
    let same : times ≡ bytes_from h.rx (188 * p.index + (188 - size)) size = ap (λ (r : ℕ). bytes_from r (188 * p.index + (188 - size)) size) k.alike.rx in
    let left : left_after rate c.parts times ≡ payload_of_packet rate h.rx (last_of rate h.parts) (record { slot = p.index; size = size }) =
    ap (λ (l : List ℕ). left_after rate c.parts l) same ∙ k.left in
    let unit : unit_of rate b.parts ≡ unit_of rate h.parts = same_unit a (188 - size - 0) two rate ∙ same_unit h 0 one rate in
    let rate_is : b.rate ≡ rate = (payload_alike a false (188 - size - 0) two).rate ∙ (payload_alike h false 0 one).rate ∙ step in
    let begun = begun_fine rate b p.begins before (rw unit fine) in
    let all : All (λ d. d * 720000 ≤ dts * rate * h.rx) (left_after rate c.parts times) = rw left in_time in (
      rw enters (payload_fine rate h.rx dts c size times (due_with p.begins before) (length-row c.rx (188 * p.index + (188 - size)) size) begun is all),
      ended_fine rate b p.begins before (unit_of rate h.parts) rate_is unit fine,
    )

packet_fine : (rate dts : ℕ) (h : Held) (p : Arriving) (before : Option DueTime) → takes_in h (AtRate rate) p ≡ true → p.enters ≡ true → h.rate ≡ rate →
    until_of h.parts ≡ until_at before →
    UnitFine before (unit_of rate h.parts) → (due_with p.begins before ≡ None) ⊎ (due_with p.begins before ≡ Some (due_time rate h.rx dts)) →
    All (λ d. d * 720000 ≤ dts * rate * h.rx) (payload_of_packet rate h.rx (last_of rate h.parts) (timed_packet p)) →
    UnitFine (due_with p.begins before) (unit_of rate (after h (AtRate rate) p).parts) ×
    (count_by is_late (option_to_list (entered h (AtRate rate) p).unit) ≡ 0)
unfolding after entered
packet_fine rate dts h p before takes enters step until fine is in_time =
    let both = parts_fine rate dts h p before (size_of p) (omega arith) enters step until fine is in_time in
    (rw (takes, no_lead rate p) both.0, rw (takes, no_lead rate p) both.1)

-- All packets of a stream

pub fine_each : (rate low : ℕ) (h : Held) (ps : List Arriving) (us : List AccessUnit) (before : Option DueTime) → ComeFrom low ps →
    length (arrivals_of h.parts) ≤ 188 * low → h.rate ≡ rate →
    Follows rate h.rx before ps us → until_of h.parts ≡ until_at before → LeaveInTime rate h.rx (last_of rate h.parts) us (map timed_packet ps) →
    UnitFine before (unit_of rate h.parts) →
    count_by is_late (units_ended rate h.parts) ≡ 0 → count_by is_late (all_units rate (after_each h (AtRate rate) ps).parts) ≡ 0
unfolding after_each ComeFrom Follows LeaveInTime
fine_each rate low h [] us before come few step follows until in_time fine ended =
    omega (arith, count_two (units_ended rate h.parts) (option_to_list (unit_of rate h.parts)), ended, fine_ended before (unit_of rate h.parts) fine)
fine_each rate low h (p ∷ ps) [] before come few step follows until in_time fine ended = absurd follows
fine_each rate low h (p ∷ ps) (u ∷ us) before come few step follows until in_time fine ended =
    let takes = taken_in h rate p come.1 (omega (arith, few, come.0)) in
    let arrives = packet_arrives h rate p takes in
    let one = packet_enters rate h p before takes follows.0 until in
    let h' : Held = after h (AtRate rate) p in
    let more : length (arrivals_of h'.parts) ≤ 188 * suc p.index =
    omega (
      arith,
      few,
      come.0,
      ap (λ (l : List ℕ). length l) arrives.arrivals,
      length-append (arrivals_of h.parts) (bytes_from h.rx (188 * p.index) 188),
      length-row h.rx (188 * p.index) 188,
    ) in
    let due : Option DueTime = due_with p.begins before in
    let qs : List Packet = map timed_packet ps in
    let both = packet_fine rate u.dts h p before takes follows.0 step until fine follows.1 in_time.0 in
    let later : LeaveInTime rate h'.rx (last_of rate h'.parts) us qs =
    subst (λ (r : ℕ). LeaveInTime rate r (last_of rate h'.parts) us qs) (sym one.alike.rx)
    (subst (λ (n : ℕ). LeaveInTime rate h.rx n us qs) (sym one.last) in_time.1) in
    let none : count_by is_late (units_ended rate h'.parts) ≡ 0 =
    ap (λ (l : List UnitSeen). count_by is_late l) (packet_units rate h (AtRate rate) p step)
    ∙ omega (arith, count_two (units_ended rate h.parts) (option_to_list (entered h (AtRate rate) p).unit), ended, both.1) in
    fine_each rate (suc p.index) h' ps us due come.2 more (one.alike.rate ∙ step) (subst (λ (r : ℕ). Follows rate r due ps us) (sym one.alike.rx) follows.2)
    one.until later both.0 none
