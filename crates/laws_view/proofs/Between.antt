-- The bytes between two clock references with a continuous clock lie on the line through both references.
use Rattle.std.proofs.Common.{◌≡◌, ◌∙◌, sym, ℕ, zero, suc, ◌+◌, ◌-◌, ◌*◌, ◌≤◌, ◌<◌, ◌⊎◌, ◌&&◌, not, is_some, Bool, true, false, nat_lt, List, [], ◌∷◌, ◌++◌}
use Rattle.std.proofs.Common.{length, Option, Some, None, refl, ap, subst, inl, inr, arith}
use Rattle.std.specs.Prelude.{IfSome, slice_get}
use Rattle.std.specs.Option.{option_map}
use Rattle.std.proofs.lemmas.Bool.{cases_lt, lt-ltb}
use Rattle.std.proofs.lemmas.List.{append_assoc, append-nil, length-append, length-map}
use Rattle.ts_packet.specs.Reading.{packet_at}
use Rattle.arrival.specs.declared.clock.PcrSample.{PcrSample}
use Rattle.arrival.specs.declared.clock.TimedSample.{TimedSample}
use Rattle.arrival.specs.declared.line.Line.{Line}
use Rattle.arrival.specs.Clock.{goes_on, step_after, step_from, timed_after}
use Rattle.arrival.specs.ArrivalClocks.{ArrivalClockState, line_from, line_to}
use Rattle.arrival.specs.ArrivalClocks as clocks
use Rattle.arrival.specs.Arrivals.{line_at}
use Rattle.arrival.specs.declared.arrival.Arrival.{Arrival}
use Rattle.arrival.specs.declared.arrival.Arrival.TheVariants.{OnLines}
use Rattle.arrival.specs.declared.arrival.ClockLines.{ClockLines}
use Rattle.packet_times.specs.Waiting.{QueueState, arrival_by, begun_by, clock_by, last_arrival, line_by, no_packet, reference_in, released, still_wait}
use Rattle.packet_times.specs.Waiting.{stepped_by}
use Rattle.laws_view.specs.Between.{AreQuiet, BetweenLaw, LiesOn, line_through, with_all}
use Rattle.laws_view.specs.TimedPackets.{Timed, arrived, arriving_so, timed_from, timed_packets, waiting, with_one}
use Rattle.laws_view.proofs.Leads.{at_here}
use Rattle.laws_view.proofs.Rising.{after_is, before_is}
use Rattle.laws_view.proofs.ClockStates.{IsAt, Meet, MeetsLast, Origin}
use Rattle.laws_view.proofs.TimedPackets.{many_arrive, once_from}
use Rattle.laws_view.proofs.Waits.{Comes, Waits, alone_waits, comes_with, one_waits, reference_at, waits_first}

-- Elements of concatenated lists

get_second : {A : Type 0} (xs ys : List A) (j : ℕ) → slice_get (xs ++ ys) (length xs + j) ≡ slice_get ys j
get_second {A = A} [] ys j = let e : 0 + j ≡ j = omega arith in ap (λ (i : ℕ). slice_get ys i) e
get_second {A = A} (x ∷ xs) ys j = let e : length (x ∷ xs) + j ≡ suc (length xs + j) = omega arith in ap (λ (i : ℕ). slice_get (x ∷ xs ++ ys) i) e
    ∙ get_second xs ys j

abbrev arrival_in : List Timed → ℕ → Option Arrival
arrival_in packets k = option_map (λ p. p.arrival) (slice_get packets k)

get_so : (a : Arrival) (packets : List (List ℕ)) (rest : List Timed) (j : ℕ) → j < length packets → arrival_in (arriving_so a packets ++ rest) j ≡ Some a
get_so a [] rest j few = absurd (let no : ⊥ = omega (arith, few) in no)
get_so a (bytes ∷ packets) rest zero few = refl
get_so a (bytes ∷ packets) rest (suc j) few = get_so a packets rest j (omega (arith, few))

-- Packets in two parts

with_two : (q : QueueState) (xs ys : List (List ℕ)) → with_all q (xs ++ ys) ≡ with_all (with_all q xs) ys
unfolding with_all
with_two q [] ys = refl
with_two q (x ∷ xs) ys = with_two (with_one q x) xs ys

with_last : (q : QueueState) (xs : List (List ℕ)) (a : List ℕ) → with_all q (xs ++ a ∷ []) ≡ with_one (with_all q xs) a
unfolding with_all
with_last q xs a = with_two q xs (a ∷ [])

-- The packets whose arrival becomes known during these packets
unfoldable left : QueueState → List (List ℕ) → List Timed
left q [] = []
left q (bytes ∷ packets) = arrived (released q bytes) q.held ++ left (with_one q bytes) packets

split : (q : QueueState) (xs ys : List (List ℕ)) → timed_from q (xs ++ ys) ≡ left q xs ++ timed_from (with_all q xs) ys
unfolding left with_all timed_from
split q [] ys = refl
split q (x ∷ xs) ys =
    let one : List Timed = arrived (released q x) q.held in
    ap (λ (l : List Timed). one ++ l) (split (with_one q x) xs ys)
    ∙ sym (append_assoc one (left (with_one q x) xs) (timed_from (with_all (with_one q x) xs) ys))

many_from : (q : QueueState) (packets : List (List ℕ)) → length (timed_from q packets) ≡ length q.held + length packets
many_from q packets =
    sym (length-map (timed_from q packets) (λ p. p.bytes)) ∙ ap (λ (l : List (List ℕ)). length l) (once_from q packets) ∙ length-append q.held packets

many_left : (q : QueueState) (xs : List (List ℕ)) → length (left q xs) + length (with_all q xs).held ≡ length q.held + length xs
many_left q xs =
    let whole = ap (λ (l : List Timed). length l) (split q xs []) ∙ length-append (left q xs) (timed_from (with_all q xs) []) in
    let same = length-append xs [] in
    omega (arith, whole, same, many_from q (xs ++ []), many_from (with_all q xs) [])

-- The waiting packets after these packets

pub record WaitsAfter (q : QueueState) (here : ℕ) : Type 0 where
  pub first : ℕ
  pub waits : Waits q first here

waits_one : (q : QueueState) (bytes : List ℕ) (first here : ℕ) → Waits q first here → (b : Bool) → still_wait q (reference_in q bytes) ≡ b →
    WaitsAfter (with_one q bytes) (here + 1)
waits_one q bytes first here w true h = record { first = first; waits = one_waits q bytes first here w (comes_with q bytes first here w) h }
waits_one q bytes first here w false h = record { first = here; waits = alone_waits q bytes first here w (comes_with q bytes first here w) h }

waits_all : (q : QueueState) (packets : List (List ℕ)) (first here : ℕ) → Waits q first here → WaitsAfter (with_all q packets) (here + length packets)
unfolding with_all
waits_all q [] first here w = let e : here + 0 ≡ here = omega arith in rw e (record { first = first; waits = w })
waits_all q (bytes ∷ packets) first here w =
    let e : here + 1 + length packets ≡ here + length (bytes ∷ packets) = omega arith in
    let one = waits_one q bytes first here w (still_wait q (reference_in q bytes)) refl in
    rw e at (waits_all (with_one q bytes) packets one.first (here + 1) one.waits)

-- Packets without a reference only wait

still_quiet : (q : QueueState) (o : Option (ℕ × PcrSample)) → o ≡ None → length q.held < 65536 → still_wait q o ≡ true
unfolding line_by
still_quiet q None e few = lt-ltb (length q.held) 65536 few
still_quiet q (Some r) e few = absurd (let no : ⊥ = cc in no)

quiet_clock : (q : QueueState) (o : Option (ℕ × PcrSample)) → o ≡ None → still_wait q o ≡ true → (stepped_by q o).clock ≡ q.clock
unfolding clock_by
quiet_clock q None e h = rw h refl
quiet_clock q (Some r) e h = absurd (let no : ⊥ = cc in no)

quiet_before : (q : QueueState) (o : Option (ℕ × PcrSample)) → still_wait q o ≡ true → (stepped_by q o).before ≡ q.before
quiet_before q o h = rw h refl

pub record Quieted (q q' : QueueState) (between ys : List (List ℕ)) (first here : ℕ) : Type 0 where
  pub same : timed_from q (between ++ ys) ≡ timed_from q' ys
  pub clock : q'.clock ≡ q.clock
  pub waits : Waits q' first (here + length between)

quiet_on : (between ys : List (List ℕ)) (q : QueueState) (first here : ℕ) → Waits q first here → AreQuiet q between → length q.held + length between ≤ 65536 →
    Quieted q (with_all q between) between ys first here
unfolding with_all AreQuiet timed_from
quiet_on [] ys q first here w quiet few = let e : here + 0 ≡ here = omega arith in record { same = refl; clock = refl; waits = rw e w }
quiet_on (bytes ∷ between) ys q first here w quiet few =
    let o = reference_in q bytes in
    let h : still_wait q o ≡ true = still_quiet q o quiet.0 (omega (arith, few)) in
    let none : released q bytes ≡ None = rw h refl in
    let one : Waits (with_one q bytes) first (here + 1) = one_waits q bytes first here w (comes_with q bytes first here w) h in
    let many : length (with_one q bytes).held + length between ≤ 65536 = omega (arith, few, w.held, one.held) in
    let rest = quiet_on between ys (with_one q bytes) first (here + 1) one quiet.1 many in
    let e : here + 1 + length between ≡ here + length (bytes ∷ between) = omega arith in
    record {
      same = ap (λ (a : Option Arrival). arrived a q.held ++ timed_from (with_one q bytes) (between ++ ys)) none ∙ none_first q.held _ ∙ rest.same;
      clock = rest.clock ∙ quiet_clock q o quiet.0 h;
      waits = rw e at rest.waits;
    }
  where
    none_first : (held : List (List ℕ)) (rest : List Timed) → arrived None held ++ rest ≡ rest
    none_first held rest = unfold arrived in refl

-- A reference, and the next reference

taken_clock : (q : QueueState) (r : ℕ × PcrSample) (b : Bool) → still_wait q (Some r) ≡ b → (stepped_by q (Some r)).clock ≡ clocks.after q.clock r.1
unfolding clock_by begun_by
taken_clock q r true h = rw h refl
taken_clock q r false h = rw h refl

one_clock : (q : QueueState) (bytes : List ℕ) (r : ℕ × PcrSample) → reference_in q bytes ≡ Some r → (with_one q bytes).clock ≡ clocks.after q.clock r.1
one_clock q bytes r is = ap (λ (o : Option (ℕ × PcrSample)). (stepped_by q o).clock) is ∙ taken_clock q r (still_wait q (Some r)) refl

line_is : (clock : ArrivalClockState) (before sample : PcrSample) (t : TimedSample) → clock.clock.last ≡ Some t → t.sample ≡ before →
    goes_on before sample ≡ true →
    line_to clock sample ≡ Some (line_through clock.moment before sample)
unfolding step_after step_from line_from
line_is clock before sample t last same e =
    let goes : goes_on t.sample sample ≡ true = rw same e in
    let line : line_to clock sample ≡ Some (line_through clock.moment t.sample sample) = rw (last, goes) refl in
    line ∙ ap (λ (s : PcrSample). Some (line_through clock.moment s sample)) same

-- The arrival of the first waiting packet, if its line is known

pub record FirstOn (packets : List Timed) (first : ℕ) (line : Line) : Type 0 where
  pub lines : ClockLines
  pub arrival : arrival_in packets 0 ≡ Some (OnLines lines)
  pub before : lines.before ≡ line
  pub next : (lines.line ≡ line) ⊎ (188 * first + 10 ≤ lines.line.byte)

first_so : (lines : ClockLines) (held : List (List ℕ)) (rest : List Timed) (first : ℕ) (line : Line) → 0 < length held → lines.before ≡ line →
    (lines.line ≡ line) ⊎ (188 * first + 10 ≤ lines.line.byte) → FirstOn (arriving_so (OnLines lines) held ++ rest) first line
first_so lines held rest first line some before next = record { lines = lines; arrival = get_so (OnLines lines) held rest 0 some; before = before; next = next }

-- The next line is the same line, or it begins no earlier than byte 10 of the first waiting packet.
begins_there : (q : QueueState) (o : Option (ℕ × PcrSample)) (first here : ℕ) (line l : Line) → Waits q first here → Comes q o first here →
    q.before ≡ Some line →
    (clock_by q o).line ≡ Some l → (l ≡ line) ⊎ (188 * first + 10 ≤ l.byte)
begins_there q o first here line l w c is then_line =
    let known : q.clock.line ≡ Some line = sym w.before ∙ is in
    let meets : Meet (Some line) (Some l) first =
    subst (λ (x : Option Line). Meet (Some line) x first) then_line (subst (λ (x : Option Line). Meet x (clock_by q o).line first) known c.meets) in
    let origin : Origin q.clock.clock.last first (Some l) = subst (λ (x : Option Line). Origin q.clock.clock.last first x) then_line c.origin in
    elim meets.1.same_or_within [
      | inl same ↦ inl same
      | inr within ↦ elim origin [
        | inl far ↦ absurd (let no : ⊥ = omega (arith, far, within) in no)
        | inr from ↦
            let last : IfSome (Some from.before) (MeetsLast 10 first q.clock.moment (Some line)) =
            subst (λ (x : Option TimedSample). IfSome x (MeetsLast 10 first q.clock.moment (Some line))) from.is
            (subst (λ (x : Option Line). IfSome q.clock.clock.last (MeetsLast 10 first q.clock.moment x)) known w.clock.meets) in
            inr (omega (arith, from.byte, last.0))
      ]
    ]

last_on : (q : QueueState) (first here : ℕ) (line : Line) → Waits q first here → q.before ≡ Some line → 0 < length q.held →
    FirstOn (arriving_so (last_arrival q) q.held) first line
unfolding arrival_by
last_on q first here line w is some =
    let known : q.clock.line ≡ Some line = sym w.before ∙ is in
    let lines : ClockLines = record { before = line; line = line } in
    let a : last_arrival q ≡ OnLines lines = rw (is, known) refl in
    let there = first_so lines q.held [] first line some refl (inl refl) in
    subst (λ (x : Arrival). FirstOn (arriving_so x q.held) first line) (sym a)
    (subst (λ (l : List Timed). FirstOn l first line) (append-nil (arriving_so (OnLines lines) q.held)) there)

one_on : (q : QueueState) (bytes : List ℕ) (rest : List Timed) (first here : ℕ) (line : Line) → Waits q first here → q.before ≡ Some line → 0 < length q.held →
    (still_wait q (reference_in q bytes) ≡ true → FirstOn rest first line) → (b : Bool) → still_wait q (reference_in q bytes) ≡ b → (o : Option Line) →
    (clock_by q (reference_in q bytes)).line ≡ o → FirstOn (arrived (released q bytes) q.held ++ rest) first line
unfolding arrived arrival_by
one_on q bytes rest first here line w is some later true h o then_line =
    let none : released q bytes ≡ None = rw h refl in
    subst (λ (a : Option Arrival). FirstOn (arrived a q.held ++ rest) first line) (sym none) (later h)
one_on q bytes rest first here line w is some later false h None then_line =
    let c = comes_with q bytes first here w in
    let no_line : Some line ≡ None = sym is ∙ w.before ∙ c.none then_line in
    absurd (let no : ⊥ = cc in no)
one_on q bytes rest first here line w is some later false h (Some l) then_line =
    let c = comes_with q bytes first here w in
    let lines : ClockLines = record { before = line; line = l } in
    let leave : released q bytes ≡ Some (arrival_by q.before (clock_by q (reference_in q bytes)).line) = rw h refl in
    let a : arrival_by q.before (clock_by q (reference_in q bytes)).line ≡ OnLines lines =
    ap (λ (x : Option Line). arrival_by x (clock_by q (reference_in q bytes)).line) is ∙ ap (λ (x : Option Line). arrival_by (Some line) x) then_line in
    let so : released q bytes ≡ Some (OnLines lines) = leave ∙ ap (λ (x : Arrival). Some x) a in
    subst (λ (x : Option Arrival). FirstOn (arrived x q.held ++ rest) first line) (sym so)
    (first_so lines q.held rest first line some refl (begins_there q (reference_in q bytes) first here line l w c is then_line))

first_on : (packets : List (List ℕ)) (q : QueueState) (first here : ℕ) (line : Line) → Waits q first here → q.before ≡ Some line → 0 < length q.held →
    FirstOn (timed_from q packets) first line
unfolding timed_from
first_on [] q first here line w is some = last_on q first here line w is some
first_on (bytes ∷ packets) q first here line w is some =
    let o = reference_in q bytes in
    one_on q bytes (timed_from (with_one q bytes) packets) first here line w is some
    (λ h.
    let one : Waits (with_one q bytes) first (here + 1) = one_waits q bytes first here w (comes_with q bytes first here w) h in
    first_on packets (with_one q bytes) first (here + 1) line one (quiet_before q o h ∙ is) (omega (arith, one.held, w.held, some)))
    (still_wait q o) refl (clock_by q o).line refl

-- The law

ref_at : (q : QueueState) (bytes : List ℕ) (r : ℕ × PcrSample) (first here : ℕ) → Waits q first here → reference_in q bytes ≡ Some r → IsAt 10 here r.1
ref_at q bytes r first here w is =
    let at = at_here q (reference_in q bytes) first here w (reference_at q.pid q.packets (packet_at bytes)) in
    subst (λ (o : Option (ℕ × PcrSample)). IfSome o (λ r. IsAt 10 here r.1)) is at

gone : (q : QueueState) (o : Option (ℕ × PcrSample)) (r : ℕ × PcrSample) (line : Line) → o ≡ Some r → line_to q.clock r.1 ≡ Some line → still_wait q o ≡ false
unfolding line_by
gone q None r line e there = absurd (let no : ⊥ = cc in no)
gone q (Some s) r line e there =
    let same : s ≡ r = cc in
    let known : line_to q.clock s.1 ≡ Some line = ap (λ (x : ℕ × PcrSample). line_to q.clock x.1) same ∙ there in
    ap (λ (x : Option Line). not (is_some x) && nat_lt (length q.held) 65536) known

taken_line : (q : QueueState) (o : Option (ℕ × PcrSample)) (r : ℕ × PcrSample) → o ≡ Some r → (clock_by q o).line ≡ line_to q.clock r.1
unfolding clock_by
taken_line q o r e = rw e refl

pub record SecondOn (a : Arrival) (line : Line) : Type 0 where
  pub lines : ClockLines
  pub is : a ≡ OnLines lines
  pub line_is : lines.line ≡ line

on_second : (before : Option Line) (line : Line) → SecondOn (arrival_by before (Some line)) line
unfolding arrival_by
on_second None line = record { lines = record { before = line; line = line }; is = refl; line_is = refl }
on_second (Some before) line = record { lines = record { before = before; line = line }; is = refl; line_is = refl }

-- Each byte up to the second reference is on this line.
first_line : (packets : List Timed) (m i : ℕ) (line : Line) (f : FirstOn packets m line) → i ≤ 188 * m + 10 → line_at f.lines i ≡ line
first_line packets m i line f le = elim f.next [
  | inl same ↦ elim (cases_lt f.lines.line.byte i) [
    | inl late ↦ after_is f.lines i late ∙ same
    | inr early ↦ before_is f.lines i early ∙ f.before
  ]
  | inr far ↦ before_is f.lines i (omega (arith, le, far)) ∙ f.before
]

-- A byte's packet either arrives at the second reference or is the packet with the second reference.
two_kinds : (held : List (List ℕ)) (later : List Timed) (a : Arrival) (line : Line) (f m k i : ℕ) → f + length held ≡ m → f ≤ k → SecondOn a line →
    FirstOn later m line →
    line.byte < i → i ≤ 188 * m + 10 → 188 * k ≤ i → LiesOn (arriving_so a held ++ later) (k - f) i line
two_kinds held later a line f m k i place low on first after until at = elim (cases_lt k m) [
  | inl early ↦ record {
    lines = on.lines;
    arrival = get_so a held later (k - f) (omega (arith, place, low, early)) ∙ ap (λ (x : Arrival). Some x) on.is;
    is = after_is on.lines i (let byte : on.lines.line.byte ≡ line.byte = ap (λ (l : Line). l.byte) on.line_is in omega (arith, byte, after)) ∙ on.line_is;
  }
  | inr late ↦
      let many = many_arrive a held in
      let j : k - f ≡ length (arriving_so a held) + 0 = omega (arith, place, low, late, at, until, many) in
      record {
        lines = first.lines;
        arrival = ap (λ (j : ℕ). arrival_in (arriving_so a held ++ later) j) j
            ∙ ap (λ (x : Option Timed). option_map (λ p. p.arrival) x) (get_second (arriving_so a held) later 0) ∙ first.arrival;
        is = first_line later m i line first until;
      }
]

shifted : (front packets : List Timed) (f k i : ℕ) (line : Line) → length front ≡ f → f ≤ k → LiesOn packets (k - f) i line → LiesOn (front ++ packets) k i line
shifted front packets f k i line many low on =
    let place : k ≡ length front + (k - f) = omega (arith, many, low) in
    record {
      lines = on.lines;
      arrival = ap (λ (j : ℕ). arrival_in (front ++ packets) j) place
          ∙ ap (λ (x : Option Timed). option_map (λ p. p.arrival) x) (get_second front packets (k - f)) ∙ on.arrival;
      is = on.is;
    }

pub between_law : BetweenLaw
unfolding timed_from arrived
between_law pid before a between b later r r' k i ra quiet few rb goes low high begun ends =
    let q : QueueState = with_all (no_packet pid) before in
    let q1 : QueueState = with_one q a in
    let q2 : QueueState = with_all q1 between in
    let q3 : QueueState = with_one q2 b in
    let n : ℕ = 0 + length before in
    let m : ℕ = n + 1 + length between in
    let wa = waits_all (no_packet pid) before 0 0 (waits_first pid) in
    let w1 = waits_one q a wa.first n wa.waits (still_wait q (reference_in q a)) refl in
    let at_r : IsAt 10 n r.1 = ref_at q a r wa.first n wa.waits ra in
    let quieted = quiet_on between (b ∷ later) q1 w1.first (n + 1) w1.waits quiet few in
    let at_r' : IsAt 10 m r'.1 = ref_at q2 b r' w1.first m quieted.waits rb in
    let clock2 : q2.clock ≡ clocks.after q.clock r.1 = quieted.clock ∙ one_clock q a r ra in
    let line : Line = line_through q1.clock.moment r.1 r'.1 in
    let there : line_to q2.clock r'.1 ≡ Some line =
    line_is q2.clock r.1 r'.1 (timed_after q.clock.clock.last r.1) (ap (λ (c : ArrivalClockState). c.clock.last) clock2) refl goes
    ∙ ap (λ (c : ArrivalClockState). Some (line_through c.moment r.1 r'.1)) quieted.clock in
    let o = reference_in q2 b in
    let h : still_wait q2 o ≡ false = gone q2 o r' line rb there in
    let c2 = comes_with q2 b w1.first m quieted.waits in
    let w3 : Waits q3 m (m + 1) = alone_waits q2 b w1.first m quieted.waits c2 h in
    let then_line : (clock_by q2 o).line ≡ Some line = taken_line q2 o r' rb ∙ there in
    let q3_before : q3.before ≡ Some line = (let e : q3.before ≡ (clock_by q2 o).line = rw h refl in e) ∙ then_line in
    let first : FirstOn (timed_from q3 later) m line = first_on later q3 m (m + 1) line w3 q3_before (omega (arith, w3.held)) in
    let second : SecondOn (arrival_by q2.before (clock_by q2 o).line) line =
    subst (λ (x : Option Line). SecondOn (arrival_by q2.before x) line) (sym then_line) (on_second q2.before line) in
    let at : Arrival = arrival_by q2.before (clock_by q2 o).line in
    let leave : released q2 b ≡ Some at = rw h refl in
    let early : w1.first ≤ k = omega (arith, w1.waits.held, at_r.byte, low, ends, begun, held_some q a) in
    let two : LiesOn (arriving_so at q2.held ++ timed_from q3 later) (k - w1.first) i line =
    two_kinds q2.held (timed_from q3 later) at line w1.first m k i quieted.waits.held early second first low (omega (arith, high, at_r'.byte)) begun in
    let from_b : timed_from q2 (b ∷ later) ≡ arriving_so at q2.held ++ timed_from q3 later =
    ap (λ (x : Option Arrival). arrived x q2.held ++ timed_from q3 later) leave in
    let front : List Timed = left (no_packet pid) (before ++ a ∷ []) in
    let q1_is : with_all (no_packet pid) (before ++ a ∷ []) ≡ q1 = with_last (no_packet pid) before a in
    let many : length front ≡ w1.first =
    omega (arith, many_left (no_packet pid) (before ++ a ∷ []), ap (λ (x : QueueState). length x.held) q1_is, w1.waits.held, length-append before (a ∷ [])) in
    let whole : timed_packets pid (before ++ a ∷ between ++ b ∷ later) ≡ front ++ (arriving_so at q2.held ++ timed_from q3 later) =
    ap (λ (l : List (List ℕ)). timed_from (no_packet pid) l)
    (append_assoc before (a ∷ between) (b ∷ later) ∙ sym (append_assoc before (a ∷ []) (between ++ b ∷ later)))
    ∙ split (no_packet pid) (before ++ a ∷ []) (between ++ b ∷ later)
    ∙ ap (λ (x : QueueState). front ++ timed_from x (between ++ b ∷ later)) q1_is
    ∙ ap (λ (l : List Timed). front ++ l) (quieted.same ∙ from_b) in
    subst (λ (l : List Timed). LiesOn l k i line) (sym whole) (shifted front (arriving_so at q2.held ++ timed_from q3 later) w1.first k i line many early two)
  where
    held_some : (q : QueueState) (bytes : List ℕ) → 0 < length (with_one q bytes).held
    held_some q bytes = omega (arith, length-append (waiting (released q bytes) q.held) (bytes ∷ []))
