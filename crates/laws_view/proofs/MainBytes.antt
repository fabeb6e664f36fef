-- What the packets of a stream leave in its main buffer, and its units, as the bytes of each come
use Rattle.std.proofs.Common.{◌≡◌, ◌∙◌, sym, ℕ, ◌+◌, ◌-◌, ◌*◌, ◌≤◌, Bool, true, false, List, [], ◌++◌, length, drop, Option, Some, None, if◌then◌else◌, refl}
use Rattle.std.proofs.Common.{ap, inl, inr, arith}
use Rattle.std.specs.Option.{option_or}
use Rattle.std.proofs.lemmas.Bool.Decides.{eqb_tells}
use Rattle.std.proofs.lemmas.List.{append-nil, drop_at}
use Rattle.clock27.specs.Arrival.{bytes_from}
use Rattle.clock27.specs.Departure.{departures, last_left}
use Rattle.clock27.proofs.Departures.{departures-append, last_left-append, length-departures}
use Rattle.unit_timing.specs.Schedule.{Packet}
use Rattle.tstd.proofs.ByteRows.{row_split, length-row}
use Rattle.tstd_rows.specs.RowEntry.{entered}
use Rattle.arrival.specs.declared.arrival.Arrival.TheVariants.{AtRate}
use Rattle.arrival.specs.Arrivals.{lead_of, times_at}
use Rattle.tstd_rows.specs.History.{arrivals_of, last_of, left_after, main_fullness, unit_of, until_of}
use Rattle.tstd_rows.specs.declared.unit_seen.DueTime.{DueTime}
use Rattle.tstd_rows.specs.declared.arriving.Arriving.{Arriving}
use Rattle.tstd_rows.specs.Held.{Held, carried, passed}
use Rattle.tstd_rows.specs.Entering.{after, after_begin, after_header, after_lead, after_payload, after_unit, lead_in, size_of, takes_in, with_packet}
use Rattle.laws_view.proofs.EnteredBytes.{Alike, Arrives, begin_arrives, bytes_arrive, no_times, packet_arrives}

-- The moment when the bytes of the open unit are gone: a unit that begins replaces the last one, and before the first unit no byte stays.
abbrev pub due_with : Option DueTime → Option DueTime → Option DueTime
due_with begins before = option_or begins before

unfoldable pub until_at : Option DueTime → ℕ
until_at None = 0
until_at (Some due) = due.until

-- A packet as timing sees it
abbrev pub timed_packet : Arriving → Packet
timed_packet p = record { slot = p.index; size = size_of p }

-- The bytes of a packet before its payload, and the bytes of its payload

in_two : (r i size : ℕ) → size ≤ 188 → bytes_from r i 188 ≡ bytes_from r i (188 - size) ++ bytes_from r (i + (188 - size)) size
in_two r i size le =
    let e : (188 - size) + size ≡ 188 = omega (arith, le) in
    rw e at (row_split r i (188 - size) size)

pub left_one : (rate r prev : ℕ) (p : Packet) → p.size ≤ 188 →
    departures rate (last_left rate prev (bytes_from r (188 * p.slot) (188 - p.size))) (bytes_from r (188 * p.slot + (188 - p.size)) p.size)
    ≡ drop (188 - p.size) (departures rate prev (bytes_from r (188 * p.slot) 188))
left_one rate r prev p le =
    let first : List ℕ = bytes_from r (188 * p.slot) (188 - p.size) in
    let payload : List ℕ = bytes_from r (188 * p.slot + (188 - p.size)) p.size in
    let many : length (departures rate prev first) ≡ 188 - p.size = length-departures rate prev first ∙ length-row r (188 * p.slot) (188 - p.size) in
    sym (ap (λ (l : List ℕ). drop (188 - p.size) (departures rate prev l)) (in_two r (188 * p.slot) p.size le)
    ∙ ap (λ (l : List ℕ). drop (188 - p.size) l) (departures-append rate prev first payload)
    ∙ drop_at (departures rate prev first) (departures rate (last_left rate prev first) payload) (188 - p.size) many)

-- The departures of the payload bytes
abbrev pub payload_of_packet : ℕ → ℕ → ℕ → Packet → List ℕ
payload_of_packet rate r prev p = drop (188 - p.size) (departures rate prev (bytes_from r (188 * p.slot) 188))

-- Bytes that do not pass on to the main buffer

same_passed : (h : Held) (n : ℕ) (times : List ℕ) (rate x : ℕ) → main_fullness rate (after_payload h false n times).parts x ≡ main_fullness rate h.parts x
unfolding after_payload main_fullness
same_passed h n times rate x = elim (eqb_tells n 0) [
  | inl none ↦ rw none.0 refl
  | inr some ↦ rw some.0 refl
]

until_goes : (h : Held) (enters : Bool) (times : List ℕ) → until_of (if enters then carried h times else passed h times).parts ≡ until_of h.parts
unfolding until_of
until_goes h true times = refl
until_goes h false times = refl

until_payload : (h : Held) (enters : Bool) (n : ℕ) (times : List ℕ) → until_of (after_payload h enters n times).parts ≡ until_of h.parts
unfolding after_payload
until_payload h enters n times = elim (eqb_tells n 0) [
  | inl none ↦ rw none.0 refl
  | inr some ↦ rw some.0 (until_goes h enters times)
]

pub same_unit : (h : Held) (n : ℕ) (times : List ℕ) (rate : ℕ) → unit_of rate (after_payload h false n times).parts ≡ unit_of rate h.parts
unfolding after_payload unit_of
same_unit h n times rate = elim (eqb_tells n 0) [
  | inl none ↦ rw none.0 refl
  | inr some ↦ rw some.0 refl
]

begin_main : (h : Held) (due : Option DueTime) (rate x : ℕ) → main_fullness rate (after_begin h due).parts x ≡ main_fullness rate h.parts x
unfolding after_begin main_fullness
begin_main h None rate x = refl
begin_main h (Some due) rate x = refl

begin_until : (h : Held) (due before : Option DueTime) → until_of h.parts ≡ until_at before →
    until_of (after_begin h due).parts ≡ until_at (due_with due before)
unfolding after_begin until_of until_at
begin_until h None before e = e
begin_until h (Some due) before e = refl

-- Bytes that pass on to the main buffer

carried_main : (h : Held) (n : ℕ) (times : List ℕ) (rate x : ℕ) → length times ≡ n →
    main_fullness rate (after_payload h true n times).parts x ≡ main_fullness rate h.parts x + entered (until_of h.parts) x (left_after rate h.parts times)
unfolding after_payload main_fullness departures
carried_main h n times rate x e = elim (eqb_tells n 0) [
  | inl none ↦ let empty : times ≡ [] = no_times times (e ∙ none.1) in
      rw (none.0, empty) (let nil : main_fullness rate h.parts x ≡ main_fullness rate h.parts x + 0 = omega arith in nil)
  | inr some ↦ rw some.0 refl
]

-- One packet in the main buffer

-- The payload of a packet enters the main buffer, and is gone when the open unit is.
pub record Enters (rate : ℕ) (h h' : Held) (p : Arriving) (before : Option DueTime) : Type 0 where
  pub alike : Alike h h'
  pub main : (x : ℕ) → main_fullness rate h'.parts x
      ≡ main_fullness rate h.parts x + entered (until_at (due_with p.begins before)) x (payload_of_packet rate h.rx (last_of rate h.parts) (timed_packet p))
  pub until : until_of h'.parts ≡ until_at (due_with p.begins before)
  pub last : last_of rate h'.parts ≡ last_left rate (last_of rate h.parts) (bytes_from h.rx (188 * p.index) 188)

last_after : (rate : ℕ) (h h' : Held) (times : List ℕ) → Arrives h h' times → last_of rate h'.parts ≡ last_left rate (last_of rate h.parts) times
last_after rate h h' times a = ap (λ (l : List ℕ). last_left rate 0 l) a.arrivals ∙ last_left-append rate 0 (arrivals_of h.parts) times

-- The bytes before a payload of this size have come, and its unit has begun.
pub record Headed (rate : ℕ) (h c : Held) (p : Arriving) (before : Option DueTime) (size : ℕ) : Type 0 where
  pub alike : Alike h c
  pub main : (x : ℕ) → main_fullness rate c.parts x ≡ main_fullness rate h.parts x
  pub until : until_of c.parts ≡ until_at (due_with p.begins before)
  pub left : left_after rate c.parts (bytes_from h.rx (188 * p.index + (188 - size)) size) ≡ payload_of_packet rate h.rx (last_of rate h.parts)
      (record { slot = p.index; size = size })

pub headed : (rate : ℕ) (h : Held) (p : Arriving) (before : Option DueTime) (size : ℕ) → size ≤ 188 → until_of h.parts ≡ until_at before →
    Headed rate h (after_unit h (AtRate rate) p size 0) p before size
headed rate h p before size le e =
    let a : Held = after_lead h (AtRate rate) p 0 in
    let b : Held = after_header h (AtRate rate) p size 0 in
    let c : Held = after_unit h (AtRate rate) p size 0 in
    let one : List ℕ = times_at (AtRate rate) h.rx (188 * p.index) 0 in
    let two : List ℕ = times_at (AtRate rate) a.rx (188 * p.index + 0) (188 - size - 0) in
    let first : Arrives h a (bytes_from h.rx (188 * p.index) 0) = bytes_arrive h rate h.rx false (188 * p.index) 0 refl in
    let second : Arrives a b (bytes_from h.rx (188 * p.index + 0) (188 - size - 0)) =
    bytes_arrive a rate h.rx false (188 * p.index + 0) (188 - size - 0) first.alike.rx in
    let third : Arrives b c [] = begin_arrives b p.begins in
    let none : bytes_from h.rx (188 * p.index) 0 ≡ [] = no_times (bytes_from h.rx (188 * p.index) 0) (length-row h.rx (188 * p.index) 0) in
    let place : 188 * p.index + 0 ≡ 188 * p.index = omega arith in
    let count : 188 - size - 0 ≡ 188 - size = omega arith in
    let row : List ℕ = bytes_from h.rx (188 * p.index) (188 - size) in
    let same_row : bytes_from h.rx (188 * p.index + 0) (188 - size - 0) ≡ row =
    ap (λ (i : ℕ). bytes_from h.rx i (188 - size - 0)) place ∙ ap (λ (n : ℕ). bytes_from h.rx (188 * p.index) n) count in
    let lead : arrivals_of a.parts ≡ arrivals_of h.parts =
    first.arrivals ∙ ap (λ (l : List ℕ). arrivals_of h.parts ++ l) none ∙ append-nil (arrivals_of h.parts) in
    let arrived : arrivals_of c.parts ≡ arrivals_of h.parts ++ row =
    third.arrivals ∙ append-nil (arrivals_of b.parts) ∙ second.arrivals
    ∙ ap (λ (l : List ℕ). l ++ bytes_from h.rx (188 * p.index + 0) (188 - size - 0)) lead ∙ ap (λ (l : List ℕ). arrivals_of h.parts ++ l) same_row in
    let last : last_of rate c.parts ≡ last_left rate (last_of rate h.parts) row =
    ap (λ (l : List ℕ). last_left rate 0 l) arrived ∙ last_left-append rate 0 (arrivals_of h.parts) row in
    record {
      alike = record {
        rate = third.alike.rate ∙ second.alike.rate ∙ first.alike.rate;
        rx = third.alike.rx ∙ second.alike.rx ∙ first.alike.rx;
        size = third.alike.size ∙ second.alike.size ∙ first.alike.size;
      };
      main = λ x. begin_main b p.begins rate x ∙ same_passed a (188 - size - 0) two rate x ∙ same_passed h 0 one rate x;
      until = begin_until b p.begins before (until_payload a false (188 - size - 0) two ∙ until_payload h false 0 one ∙ e);
      left = ap (λ (n : ℕ). departures rate n (bytes_from h.rx (188 * p.index + (188 - size)) size)) last
          ∙ left_one rate h.rx (last_of rate h.parts) (record { slot = p.index; size = size }) le;
    }

pub no_lead : (rate : ℕ) (p : Arriving) → lead_in (AtRate rate) p ≡ 0
unfolding lead_of
no_lead rate p = omega arith

packet_parts : (rate : ℕ) (h : Held) (p : Arriving) (before : Option DueTime) (size : ℕ) → size ≤ 188 → p.enters ≡ true → until_of h.parts ≡ until_at before →
    (x : ℕ) →
    (main_fullness rate (with_packet h (AtRate rate) p size 0).parts x
    ≡ main_fullness rate h.parts x
    + entered (until_at (due_with p.begins before)) x (payload_of_packet rate h.rx (last_of rate h.parts) (record { slot = p.index; size = size })))
    × (until_of (with_packet h (AtRate rate) p size 0).parts ≡ until_at (due_with p.begins before))
unfolding times_at
packet_parts rate h p before size le enters e x =
    let c : Held = after_unit h (AtRate rate) p size 0 in
    let k = headed rate h p before size le e in
    let times : List ℕ = bytes_from c.rx (188 * p.index + (188 - size)) size in
    let same : times ≡ bytes_from h.rx (188 * p.index + (188 - size)) size = ap (λ (r : ℕ). bytes_from r (188 * p.index + (188 - size)) size) k.alike.rx in
    let one = carried_main c size times rate x (length-row c.rx (188 * p.index + (188 - size)) size) in
    let left : left_after rate c.parts times ≡ payload_of_packet rate h.rx (last_of rate h.parts) (record { slot = p.index; size = size }) =
    ap (λ (l : List ℕ). left_after rate c.parts l) same ∙ k.left in (
      rw enters (one ∙ rw (k.main x, k.until, left) refl),
      rw enters (until_payload c true size times ∙ k.until),
    )

pub packet_enters : (rate : ℕ) (h : Held) (p : Arriving) (before : Option DueTime) → takes_in h (AtRate rate) p ≡ true → p.enters ≡ true →
    until_of h.parts ≡ until_at before →
    Enters rate h (after h (AtRate rate) p) p before
unfolding after
packet_enters rate h p before takes enters e =
    let arrives = packet_arrives h rate p takes in
    record {
      alike = arrives.alike;
      main = λ x. rw (takes, no_lead rate p) (packet_parts rate h p before (size_of p) (omega arith) enters e x).0;
      until = rw (takes, no_lead rate p) (packet_parts rate h p before (size_of p) (omega arith) enters e 0).1;
      last = last_after rate h (after h (AtRate rate) p) (bytes_from h.rx (188 * p.index) 188) arrives;
    }
