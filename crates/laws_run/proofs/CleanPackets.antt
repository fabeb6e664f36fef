-- The packets of units and of sections show no fault.
use Rattle.std.proofs.Common.{◌≡◌, ℕ, ◌+◌, ◌*◌, ◌<◌, ◌≤◌, ◌==◌, nat_le, Bool, true, false, cond, List, [], ◌∷◌, ◌++◌, length, map, take, drop, All, Option}
use Rattle.std.proofs.Common.{Some, None, Result, Ok, Err, refl, sym, ap, subst, ◌∙◌, inl, inr, arith, eq-eqb, append-nil}
use Rattle.std.specs.Prelude.{option_map}
use Rattle.std.proofs.lemmas.Bool.{cases_Bool}
use Rattle.std.proofs.lemmas.List.Elements.{All-nil, All-cons, All-head, All-tail, All-append}
use Rattle.pes_packet.specs.AccessUnits.{AccessUnit}
use Rattle.pes_packet.specs.Reading.{header_at}
use Rattle.pes_packet.specs.declared.reading.PesHeader.{PesHeader}
use Rattle.pes_packet.specs.declared.refusal.PesError.{PesError}
use Rattle.pes_packet.specs.declared.refusal.PesError.TheVariants as pes_errors
use Rattle.ts_packet.specs.declared.start.Start.TheVariants.{Continues, Begins}
use Rattle.unit_queue.specs.OwnedStreams.{has_access}
use Rattle.slot_contents.specs.Contents.{Payload, run_bytes}
use Rattle.pid_findings.specs.declared.open_unit.UnitKind.{UnitKind}
use Rattle.pid_findings.specs.declared.open_unit.UnitKind.TheVariants as unit_kinds
use Rattle.pid_findings.specs.Views.{WhatView, IsPes, IsTruncated, IsStray, Found, PidFinding, FindingView}
use Rattle.pid_findings.specs.Roles.{role_by, may_begin_pes}
use Rattle.pid_findings.specs.OpenUnits.{OpenUnit, decided, of_pes, of_header, about, about_within, plain, section, is_stuffing}
use Rattle.pid_findings.specs.Findings.{at_packet, by_role, ended, end_of, found_if, found_within, found_appended, past_end, stray_bytes, undecided}
use Rattle.pid_findings.specs.Findings.{unless_decided}
use Rattle.pid_findings.specs.Machine.{next_open}
use Rattle.demux.specs.Laws.{found_of, with_pid_at, has_pid}
use Rattle.pid_findings.proofs.SectionWalk.{fill_found, fill_last}
use Rattle.laws_run.specs.Sent.{cut, Sending, sendings, Ending, begin_or, if_sent, each_found, next_of}
use Rattle.laws_run.specs.Units.{unit_found, unit_header, unit_packets, carried_in}
use Rattle.laws_run.specs.Sections.{filled_section, section_found, section_packets, IsRecognized}
use Rattle.laws_run.specs.PidLaws.{IsOfPid, all_found, packets_on}
use Rattle.laws_run.specs.CleanPids.{is_fault, IsClean, IsWhole, UnitsAreClean, SectionsAreClean, ByPids}
use Rattle.laws_run.proofs.CountedPackets.{does}
use Rattle.laws_run.proofs.PidSteps.{finds, leaves, finds_append, Waits, leaves_waits}
use Rattle.laws_run.proofs.LaterPackets.{later}
use Rattle.laws_run.proofs.AllSendings.{sent_payloads, ends_at}
use Rattle.laws_run.proofs.SendingPackets.{all_sendings}
use Rattle.laws_run.proofs.FoundInRun.{sent_found, filled_size, units_come_back}
use Rattle.laws_run.proofs.OfPids.{all_is_of_pids}
use Rattle.pes_packet.specs.Encoding.{pes_packet_bytes}
use Rattle.laws_run.proofs.SectionPrefixes.{filled_to, read_fits, fill_same, pes_same}
use Rattle.laws_run.proofs.SectionFindings.{section_gives, pointing, first_found, first_left}

-- Findings that are no fault

abbrev pub Fine : Found → Type 0
Fine f = is_fault f.what ≡ false

abbrev pub FineAt : PidFinding → Type 0
FineAt a = is_fault a.found.what ≡ false

at_fine : (packet : ℕ) (fs : List Found) → All Fine fs → All FineAt (map (at_packet packet) fs)
at_fine packet [] h = All-nil FineAt
at_fine packet (f ∷ fs) h = All-cons FineAt (at_packet packet f) (map (at_packet packet) fs) (All-head Fine f fs h) (at_fine packet fs (All-tail Fine f fs h))

front_fine : (xs ys : List PidFinding) → All FineAt (xs ++ ys) → All FineAt xs
front_fine [] ys h = All-nil FineAt
front_fine (x ∷ xs) ys h = All-cons FineAt x xs (All-head FineAt x (xs ++ ys) h) (front_fine xs ys (All-tail FineAt x (xs ++ ys) h))

if_none : (found : ℕ → List ℕ → PidFinding) → All FineAt (if_sent found [])
unfolding if_sent
if_none found = All-nil FineAt

if_some : (found : ℕ → List ℕ → PidFinding) (i : ℕ) (is : List ℕ) → FineAt (found i is) → All FineAt (if_sent found (i ∷ is))
unfolding if_sent
if_some found i is h = All-cons FineAt (found i is) [] h (All-nil FineAt)

none_fine : (held : Option OpenUnit) → All FineAt (finds [] held)
unfolding finds
none_fine held = All-nil FineAt

nothing_fine : (text : List ℕ) (held : Option OpenUnit) → All FineAt (finds (cut Begins (filled_section text) []) held)
unfolding finds cut
nothing_fine text held = All-nil FineAt

-- The end of an open unit is no fault.
whole_or_cut : (b open_ended : Bool) (h : PesHeader) (body bytes : List ℕ) → is_fault (cond b (IsPes h open_ended body) (IsTruncated bytes)) ≡ false
whole_or_cut true open_ended h body bytes = refl
whole_or_cut false open_ended h body bytes = refl

end_fine : (open_ended : Bool) (bytes : List ℕ) (f : UnitKind) (r : Result (PesHeader × ℕ) PesError) → is_fault (end_of open_ended bytes f r) ≡ false
end_fine open_ended bytes unit_kinds.Pes (Ok h) = whole_or_cut (h.0.len == 0) open_ended h.0 (drop h.1 bytes) bytes
end_fine open_ended bytes unit_kinds.Pes (Err e) = refl
end_fine open_ended bytes unit_kinds.Section (Ok h) = refl
end_fine open_ended bytes unit_kinds.Section (Err e) = refl

pub ended_fine : (open_ended : Bool) (held : Option OpenUnit) → All Fine (ended open_ended held)
unfolding ended
ended_fine open_ended None = All-nil Fine
ended_fine open_ended (Some part) =
    All-cons Fine (about part (end_of open_ended part.bytes part.kind (header_at part.bytes))) []
    (end_fine open_ended part.bytes part.kind (header_at part.bytes)) (All-nil Fine)

-- A finding that the bytes of a PES packet decide is no fault.

abbrev FineIf : Option WhatView → Type 0
FineIf None = Unit {0}
FineIf (Some w) = is_fault w ≡ false

too_long : (b : Bool) (bytes : List ℕ) → FineIf (cond b (Some (IsTruncated bytes)) None)
too_long true bytes = refl
too_long false bytes = tt

came_whole : (b : Bool) (h : PesHeader) (body : List ℕ) → FineIf (cond b None (Some (IsPes h false body)))
came_whole true h body = tt
came_whole false h body = refl

header_fine : (z : Bool) (x y : Option WhatView) → FineIf x → FineIf y → FineIf (cond z x y)
header_fine true x y h k = h
header_fine false x y h k = k

pes_fine : (bytes : List ℕ) (r : Result (PesHeader × ℕ) PesError) → FineIf (of_pes bytes r)
unfolding of_pes of_header
pes_fine bytes (Ok h) = header_fine (h.0.len == 0) _ _ (too_long _ bytes) (came_whole _ h.0 _)
pes_fine bytes (Err pes_errors.Short) = tt
pes_fine bytes (Err e) = refl

decided_fine : (bytes : List ℕ) → FineIf (decided unit_kinds.Pes bytes)
unfolding decided
decided_fine bytes = pes_fine bytes (header_at bytes)

stray_fine : (n : ℕ) (none : Bool) → All Fine (cond none [] (plain (IsStray n) ∷ []))
stray_fine n true = All-nil Fine
stray_fine n false = All-cons Fine (plain (IsStray n)) [] refl (All-nil Fine)

found_fine : (part : OpenUnit) (d : Option WhatView) → FineIf d → All Fine (found_if part d)
unfolding found_if
found_fine part None h = All-nil Fine
found_fine part (Some w) h =
    let n = past_end (length part.bytes) w in All-cons Fine (about part w) (stray_bytes n) h (stray_fine n (n == 0))

within_fine : (part : OpenUnit) (d : Option WhatView) → FineIf d → All Fine (found_within part d)
unfolding found_within
within_fine part None h = All-nil Fine
within_fine part (Some w) h = let n = past_end (length part.bytes) w in All-cons Fine (about_within part w) (stray_bytes n) h (stray_fine n (n == 0))

-- Packets that continue a PES packet, or nothing

abbrev PesOrNone : Option OpenUnit → Type 0
PesOrNone None = Unit {0}
PesOrNone (Some part) = part.kind ≡ unit_kinds.Pes

open_pes : (packet : ℕ) (access : Bool) (bytes : List ℕ) (d : Option WhatView) →
    PesOrNone (unless_decided (record { packet = packet; kind = unit_kinds.Pes; access = access; bytes = bytes }) d)
unfolding unless_decided
open_pes packet access bytes None = refl
open_pes packet access bytes (Some w) = tt

rest_one : (i : ℕ) (front : List ℕ) (held : Option OpenUnit) → PesOrNone held →
    All Fine (by_role i (does (later i front)) held) × PesOrNone (next_open i (does (later i front)) held)
unfolding by_role role_by found_appended next_open undecided
rest_one i front None h = (stray_fine (length front) (length front == 0), tt)
rest_one i front (Some part) h =
    subst (λ (f : UnitKind). All Fine
    (found_if (record { packet = part.packet; kind = f; access = part.access; bytes = part.bytes ++ front }) (decided f (part.bytes ++ front)))
    × PesOrNone (unless_decided (record { packet = part.packet; kind = f; access = part.access; bytes = part.bytes ++ front })
    (decided f (part.bytes ++ front)))) (sym h) (
      found_fine (record { packet = part.packet; kind = unit_kinds.Pes; access = part.access; bytes = part.bytes ++ front })
          (decided unit_kinds.Pes (part.bytes ++ front)) (decided_fine (part.bytes ++ front)),
      open_pes part.packet part.access (part.bytes ++ front) (decided unit_kinds.Pes (part.bytes ++ front)),
    )

rest_fine : (text is : List ℕ) (held : Option OpenUnit) → PesOrNone held → All FineAt (finds (cut Continues text is) held)
unfolding finds cut
rest_fine text [] held h = All-nil FineAt
rest_fine text (i ∷ is) held h =
    let front : List ℕ = take 184 text in
    let one = rest_one i front held h in
    All-append FineAt (map (at_packet i) (by_role i (does (later i front)) held))
    (finds (cut Continues (drop 184 text) is) (next_open i (does (later i front)) held))
    (at_fine i (by_role i (does (later i front)) held) one.0) (rest_fine (drop 184 text) is (next_open i (does (later i front)) held) one.1)

-- Sections

-- A section that is taken for a PES packet shows no fault.
taken_for_pes : (i : ℕ) (bytes : List ℕ) (held : Option OpenUnit) → may_begin_pes (0 ∷ bytes) ≡ true →
    All Fine (by_role i (does (pointing i bytes)) held) × PesOrNone (next_open i (does (pointing i bytes)) held)
unfolding by_role role_by next_open undecided
taken_for_pes i bytes held e =
    let part : OpenUnit = record { packet = i; kind = unit_kinds.Pes; access = false; bytes = 0 ∷ bytes } in
    rw e (
      All-append Fine (ended false held) (found_within part (decided unit_kinds.Pes (0 ∷ bytes))) (ended_fine false held)
          (within_fine part (decided unit_kinds.Pes (0 ∷ bytes)) (decided_fine (0 ∷ bytes))),
      open_pes i false (0 ∷ bytes) (decided unit_kinds.Pes (0 ∷ bytes)),
    )

-- A section that is taken for stuffing shows no fault.
taken_for_fill : (i : ℕ) (bytes : List ℕ) (held : Option OpenUnit) → may_begin_pes (0 ∷ bytes) ≡ false → is_stuffing bytes ≡ true → Waits held →
    All Fine (by_role i (does (pointing i bytes)) held) × PesOrNone (next_open i (does (pointing i bytes)) held)
taken_for_fill i bytes held e f w =
    let found : by_role i (does (pointing i bytes)) held ≡ ended false held =
    first_found i bytes held e w ∙ ap (λ (xs : List Found). ended false held ++ xs) (fill_found i bytes f) ∙ append-nil (ended false held) in
    let left : next_open i (does (pointing i bytes)) held ≡ None =
    first_left i bytes held e ∙ ap (λ (o : Option (List ℕ)). option_map (section i) o) (fill_last bytes f) in
    (subst (All Fine) (sym found) (ended_fine false held), subst PesOrNone (sym left) tt)

-- The packets of a section that is taken for a PES packet or for stuffing show no fault.
odd_fine : (text : List ℕ) (i : ℕ) (is : List ℕ) (held : Option OpenUnit) →
    All Fine (by_role i (does (pointing i (filled_to 183 text))) held) × PesOrNone (next_open i (does (pointing i (filled_to 183 text))) held) →
    All FineAt (finds (cut Begins (filled_section text) (i ∷ is)) held)
unfolding finds cut filled_section
odd_fine text i is held h =
    All-append FineAt (map (at_packet i) (by_role i (does (pointing i (filled_to 183 text))) held)) _
    (at_fine i (by_role i (does (pointing i (filled_to 183 text))) held) h.0) (rest_fine _ is (next_open i (does (pointing i (filled_to 183 text))) held) h.1)

section_fine : (b : Bool) (x y : PidFinding) → FineAt x → FineAt y → FineAt (cond b x y)
section_fine true x y h k = h
section_fine false x y h k = k

found_section : (e : Ending) (text : List ℕ) (i : ℕ) (is : List ℕ) → FineAt (section_found e text i is)
unfolding section_found
found_section e text i is = section_fine (nat_le (1 + length text) (184 * length (i ∷ is))) _ _ refl refl

-- The packets of a section that is taken for a section show no fault.
given_fine : (text : List ℕ) (i : ℕ) (is : List ℕ) (held : Option OpenUnit) → IsRecognized text → 184 * length (i ∷ is) < 1 + length text + 184 → Waits held →
    All FineAt (finds (cut Begins (filled_section text) (i ∷ is)) held)
unfolding if_sent begin_or
given_fine text i is held g few w =
    let e : Ending = record { packet = 0; open_ended = true } in
    let gives = section_gives text (i ∷ is) g few e held w in
    let fine : All FineAt (map (at_packet i) (ended false held) ++ section_found e text i is ∷ []) =
    All-append FineAt (map (at_packet i) (ended false held)) (section_found e text i is ∷ []) (at_fine i (ended false held) (ended_fine false held))
    (All-cons FineAt (section_found e text i is) [] (found_section e text i is) (All-nil FineAt)) in
    front_fine (finds (cut Begins (filled_section text) (i ∷ is)) held) (ends_at e (leaves (cut Begins (filled_section text) (i ∷ is)) held))
    (subst (All FineAt) (sym gives) fine)

-- The packets of any whole section show no fault.
one_fine : (text is : List ℕ) (held : Option OpenUnit) → IsWhole text → 184 * length is < 1 + length text + 184 → Waits held →
    All FineAt (finds (cut Begins (filled_section text) is) held)
one_fine text [] held whole few w = nothing_fine text held
one_fine text (i ∷ is) held whole few w =
    let size : 3 ≤ length text = (read_fits text (whole.view, length text) whole.read).some in
    elim (cases_Bool (may_begin_pes (0 ∷ filled_to 183 text))) [
      | inl pes ↦ odd_fine text i is held (taken_for_pes i (filled_to 183 text) held pes)
      | inr plain ↦ elim (cases_Bool (is_stuffing (filled_to 183 text))) [
        | inl fill ↦ odd_fine text i is held (taken_for_fill i (filled_to 183 text) held plain fill w)
        | inr some ↦ given_fine text i is held (record {
          view = whole.view;
          read = whole.read;
          no_fill = sym (fill_same text 183 (omega (arith, size)) (omega arith)) ∙ some;
          no_pes = sym (pes_same text size) ∙ plain;
        }) few w
      ]
    ]

abbrev SentWhole : Sending (List ℕ) → Type 0
SentWhole x = IsWhole x.item × (184 * length x.packets < 1 + length x.item + 184)

all_fine : (xs : List (Sending (List ℕ))) (held : Option OpenUnit) → All SentWhole xs → Waits held →
    All FineAt (finds (sent_payloads (λ _. Begins) filled_section xs) held)
unfolding sent_payloads
all_fine [] held h w = none_fine held
all_fine (x ∷ xs) held h w =
    let one : List Payload = cut Begins (filled_section x.item) x.packets in
    let more : List Payload = sent_payloads (λ _. Begins) filled_section xs in
    let first = All-head SentWhole x xs h in
    subst (All FineAt) (sym (finds_append one more held))
    (All-append FineAt (finds one held) (finds more (leaves one held)) (one_fine x.item x.packets held first.0 first.1 w)
    (all_fine xs (leaves one held) (All-tail SentWhole x xs h) (leaves_waits one held w)))

-- The laws

found_clean : (pid : ℕ) (xs : List PidFinding) → All FineAt xs → All IsClean (map (with_pid_at pid) xs)
found_clean pid [] h = All-nil IsClean
found_clean pid (x ∷ xs) h =
    All-cons IsClean (with_pid_at pid x) (map (with_pid_at pid) xs) (All-head FineAt x xs h) (found_clean pid xs (All-tail FineAt x xs h))

pub sections_are_clean : SectionsAreClean
sections_are_clean pid n content texts run not_null c whole =
    let sent : List (Sending (List ℕ)) = sendings section_packets texts (packets_on pid (run_bytes content 0 n)) in
    let ps : List Payload = sent_payloads (λ _. Begins) filled_section sent in
    let each : All SentWhole sent =
    all_sendings IsWhole SentWhole section_packets texts (packets_on pid (run_bytes content 0 n)) (λ t js w le. (w, omega (arith, le))) whole in
    let fine : All FineAt (finds ps None ++ map (at_packet n) (ended true (leaves ps None))) =
    All-append FineAt (finds ps None) (map (at_packet n) (ended true (leaves ps None))) (all_fine sent None each tt)
    (at_fine n (ended true (leaves ps None)) (ended_fine true (leaves ps None))) in
    subst (All IsClean)
    (sym (sent_found (λ _. Begins) filled_section section_packets IsWhole (λ t g. (omega (arith, filled_size t), omega (arith, filled_size t))) pid n
    content texts run not_null c whole))
    (found_clean pid (finds ps None ++ map (at_packet n) (ended true (leaves ps None))) fine)

unit_fine : (id base0 : ℕ) (e : Ending) (u : AccessUnit) (i : ℕ) (is : List ℕ) → FineAt (unit_found id base0 e u i is)
unfolding unit_found
unit_fine id base0 e u i is =
    section_fine ((unit_header id base0 u).len == 0) _ _ refl
    (section_fine (nat_le (length (pes_packet_bytes id base0 u)) (carried_in (has_access u) (i ∷ is))) _ _ refl refl)

units_fine : (id base0 count : ℕ) (xs : List (Sending AccessUnit)) → All FineAt (each_found (unit_found id base0) count xs)
unfolding each_found
units_fine id base0 count [] = All-nil FineAt
units_fine id base0 count (x ∷ xs) =
    All-append FineAt (if_sent (unit_found id base0 (next_of count xs) x.item) x.packets) (each_found (unit_found id base0) count xs)
    (by x.packets) (units_fine id base0 count xs)
  where
    by : (is : List ℕ) → All FineAt (if_sent (unit_found id base0 (next_of count xs) x.item) is)
    by [] = if_none _
    by (i ∷ is) = if_some _ i is (unit_fine id base0 (next_of count xs) x.item i is)

pub units_are_clean : UnitsAreClean
units_are_clean pid n id base0 content us run not_null c fits =
    let sent = sendings (unit_packets id base0) us (packets_on pid (run_bytes content 0 n)) in
    subst (All IsClean) (sym (units_come_back pid n id base0 content us run not_null c fits))
    (found_clean pid (each_found (unit_found id base0) n sent) (units_fine id base0 n sent))

-- All findings, PID by PID

abbrev Passes : (FindingView → Bool) → FindingView → Type 0
Passes test f = test f ≡ true

same_pid : (pid : ℕ) (o : Option ℕ) → o ≡ Some pid → has_pid pid o ≡ true
same_pid pid o e = rw e (eq-eqb pid pid refl)

keep_head : (test : FindingView → Bool) (x : FindingView) (xs : List FindingView) (t : Bool) → t ≡ true → All (Passes test) (cond t (x ∷ xs) xs) → Passes test x
keep_head test x xs true e h = All-head (Passes test) x xs h
keep_head test x xs false e h = absurd cc

keep_tail : (test : FindingView → Bool) (x : FindingView) (xs : List FindingView) (t : Bool) → All (Passes test) (cond t (x ∷ xs) xs) → All (Passes test) xs
keep_tail test x xs true h = All-tail (Passes test) x xs h
keep_tail test x xs false h = h

by_each : (test : FindingView → Bool) (xs : List FindingView) → All IsOfPid xs → ((pid : ℕ) → (pid == 8191) ≡ false → All (Passes test) (found_of pid xs)) →
    All (Passes test) xs
by_each test [] h each = All-nil (Passes test)
by_each test (x ∷ xs) h each =
    let own = All-head IsOfPid x xs h in
    All-cons (Passes test) x xs (keep_head test x (found_of own.0 xs) (has_pid own.0 x.pid) (same_pid own.0 x.pid own.1) (each own.0 own.2))
    (by_each test xs (All-tail IsOfPid x xs h) (λ pid not_null. keep_tail test x (found_of pid xs) (has_pid pid x.pid) (each pid not_null)))

pub by_pids : ByPids
by_pids n content test run each = by_each test (all_found (run_bytes content 0 n)) (all_is_of_pids n content run) each
