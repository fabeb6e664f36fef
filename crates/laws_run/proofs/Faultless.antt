-- A demultiplexer finds no fault in the finished bytes of a run.
use Rattle.std.proofs.Common.{◌≡◌, ℕ, ◌+◌, ◌-◌, ◌*◌, ◌^◌, ◌<◌, ◌==◌, not, nat_le, Bool, true, false, cond, List, [], ◌∷◌, length, map, Some, slice_get, refl}
use Rattle.std.proofs.Common.{sym, subst, arith, All, inl, inr}
use Rattle.std.proofs.lemmas.List.Elements.{All-nil, All-cons, All-head, All-tail, All-append}
use Rattle.own_slots.specs.Slots.{own_slots}
use Rattle.own_slots.specs.Rounds.{starts}
use Rattle.pes_packet.specs.AccessUnits.{AccessUnit}
use Rattle.pes_packet.specs.Encoding.{pes_packet_bytes}
use Rattle.slot_contents.specs.Contents.{run_bytes}
use Rattle.description_parts.specs.Described.{DescribedStream}
use Rattle.description_parts.specs.Ranges.{IsInRange}
use Rattle.description_parts.specs.Tables.{table_count, table_pid}
use Rattle.pid_findings.specs.Views.{WhatView, IsDuplicate, BreaksCounter, IsScrambled, IsTruncated, IsSection, IsBadSection, IsPes, IsBadPes, IsBadPacket}
use Rattle.pid_findings.specs.Views.{IsErrored}
use Rattle.pid_findings.specs.Views.{IsStray}
use Rattle.pid_findings.specs.Views.{PidFinding, FindingView}
use Rattle.demux.specs.Laws.{with_pid_at}
use Rattle.table_rounds.specs.Tables.{round_places}
use Rattle.unit_queue.specs.OwnedStreams.{has_access}
use Rattle.laws_run.specs.Sent.{Sending, Ending, next_of, if_sent, each_found}
use Rattle.laws_run.specs.Units.{carried_in, unit_header, unit_found}
use Rattle.laws_run.specs.Sections.{section_found}
use Rattle.laws_run.specs.Rounds.{sections_of_rounds}
use Rattle.laws_run.specs.PidLaws.{found_on, all_found}
use Rattle.laws_run.specs.CleanPids.{is_fault, IsClean as IsFaultless, IsWhole}
use Rattle.laws_run.proofs.TablesAndStreams.{tables_carry, streams_carry}
use Rattle.laws_run.proofs.CleanPackets.{units_are_clean, sections_are_clean, by_pids}
use Rattle.mux_core.specs.Scheduled.{Scheduled}
use Rattle.mux_core.specs.Histories.{owned_stream, table_of, content_at}
use Rattle.mux_core.specs.Headline.{UnitsKept}
use Rattle.mux_core.proofs.Accepted.{units_kept}
use Rattle.laws_run.specs.GivenBack.{IsSentOn}
use Rattle.laws_run.specs.Clean.{Fault, RefusedPacket, ErroredPacket, BrokenCounter, RepeatedPacket, ScrambledPacket, RefusedSection, RefusedPes, fault_of}
use Rattle.laws_run.specs.Clean.{NoneIs, CleanLaw, AnyStateCleanLaw}
use Rattle.laws_run.proofs.DistinguishableSections.{section_whole, rounds_all}
use Rattle.laws_run.proofs.NothingElse.{sent_or_silent}
use Rattle.laws_run.proofs.RunFindings.{is_run, stream_units_fit, one_stream, one_table, has_places, has_room, silent_back, given_back}

-- The findings of each PID

stream_clean : (d : Scheduled) (units : ℕ → List AccessUnit) (n k : ℕ) (s : DescribedStream) → IsInRange d.description → UnitsKept d units → n < 2 ^ 64 - 1 →
    slice_get d.description.streams k ≡ Some s → All IsFaultless (found_on s.pid (run_bytes (content_at d units) 0 n))
stream_clean d units n k s r kept few is =
    let alone = one_stream d units k s r kept is in
    units_are_clean s.pid n s.stream_id d.description.base0 (content_at d units) (units k) (is_run d units n r kept few) alone.no_null
    (streams_carry (owned_stream d k s) n (units k) (content_at d units) alone) (stream_units_fit d units k s kept is)

table_clean : (d : Scheduled) (units : ℕ → List AccessUnit) (n t : ℕ) → IsInRange d.description → UnitsKept d units → n < 2 ^ 64 - 1 →
    t < table_count d.description →
    All IsFaultless (found_on (table_pid d.description t) (run_bytes (content_at d units) 0 n))
table_clean d units n t r kept few lt =
    let alone = one_table d units t r kept lt in
    let whole : All IsWhole (sections_of_rounds (table_of d t) n) =
    rounds_all IsWhole (table_of d t) (own_slots (starts (table_of d t).own (round_places (table_of d t).lengths) 0) 0 n)
    (λ s j moment within. section_whole d.description t j moment r lt within) in
    sections_are_clean (table_pid d.description t) n (content_at d units) (sections_of_rounds (table_of d t) n) (is_run d units n r kept few) alone.no_null
    (tables_carry (table_of d t) n (content_at d units) alone (has_places d t r lt) (has_room d t r)) whole

abbrev CleanOn : Scheduled → (ℕ → List AccessUnit) → ℕ → ℕ → Type 0
CleanOn d units n pid = All IsFaultless (found_on pid (run_bytes (content_at d units) 0 n))

sent_clean : (d : Scheduled) (units : ℕ → List AccessUnit) (n pid : ℕ) → IsInRange d.description → UnitsKept d units → n < 2 ^ 64 - 1 →
    IsSentOn d.description pid →
    CleanOn d units n pid
sent_clean d units n pid r kept few (inl (k, s, is, same)) = subst (CleanOn d units n) same (stream_clean d units n k s r kept few is)
sent_clean d units n pid r kept few (inr (t, lt, same)) = subst (CleanOn d units n) same (table_clean d units n t r kept few lt)

pub pid_clean : (d : Scheduled) (units : ℕ → List AccessUnit) (n : ℕ) → IsInRange d.description → UnitsKept d units → n < 2 ^ 64 - 1 → (pid : ℕ) →
    (pid == 8191) ≡ false →
    CleanOn d units n pid
pid_clean d units n r kept few pid reported = elim (sent_or_silent d.description pid) [
  | inl sent ↦ sent_clean d units n pid r kept few sent
  | inr none ↦ subst (All IsFaultless) (sym (silent_back d units n pid (is_run d units n r kept few) reported none)) (All-nil IsFaultless)
]

-- All findings

abbrev Passes : FindingView → Type 0
Passes f = not (is_fault f.what) ≡ true

passes : (f : FindingView) → IsFaultless f → Passes f
passes f h = rw h refl

unfaulted : (b : Bool) → not b ≡ true → b ≡ false
unfaulted false h = refl
unfaulted true h = absurd (cc)

all_pass : (xs : List FindingView) → All IsFaultless xs → All Passes xs
all_pass [] h = All-nil Passes
all_pass (x ∷ xs) h = All-cons Passes x xs (passes x (All-head IsFaultless x xs h)) (all_pass xs (All-tail IsFaultless x xs h))

all_faultless : (xs : List FindingView) → All Passes xs → All IsFaultless xs
all_faultless [] h = All-nil IsFaultless
all_faultless (x ∷ xs) h = All-cons IsFaultless x xs (unfaulted (is_fault x.what) (All-head Passes x xs h)) (all_faultless xs (All-tail Passes x xs h))

run_clean : (d : Scheduled) (units : ℕ → List AccessUnit) (n : ℕ) → IsInRange d.description → UnitsKept d units → n < 2 ^ 64 - 1 →
    All IsFaultless (all_found (run_bytes (content_at d units) 0 n))
run_clean d units n r kept few =
    all_faultless (all_found (run_bytes (content_at d units) 0 n))
    (by_pids n (content_at d units) (λ f. not (is_fault f.what)) (is_run d units n r kept few)
    (λ pid reported. all_pass (found_on pid (run_bytes (content_at d units) 0 n)) (pid_clean d units n r kept few pid reported)))

-- Each kind of fault

is_none : (fault : Fault) (what : WhatView) → (fault ≡ RefusedPes → ⊥) → is_fault what ≡ false → fault_of what ≡ Some fault → ⊥
unfolding fault_of
is_none fault IsDuplicate other h e = absurd (cc)
is_none fault (BreaksCounter expected found) other h e = absurd (cc)
is_none fault IsScrambled other h e = absurd (cc)
is_none fault (IsTruncated bytes) other h e = absurd (cc)
is_none fault (IsSection bytes) other h e = absurd (cc)
is_none fault (IsBadSection error) other h e = absurd (cc)
is_none fault (IsPes header open_ended body) other h e = absurd (cc)
is_none fault (IsBadPes error) other h e = other (cc)
is_none fault (IsBadPacket error) other h e = absurd (cc)
is_none fault IsErrored other h e = absurd (cc)
is_none fault (IsStray size) other h e = absurd (cc)

none_is : (fault : Fault) (xs : List FindingView) → (fault ≡ RefusedPes → ⊥) → All IsFaultless xs → NoneIs fault xs
none_is fault [] other h = All-nil (λ (f : FindingView). fault_of f.what ≡ Some fault → ⊥)
none_is fault (x ∷ xs) other h =
    All-cons (λ (f : FindingView). fault_of f.what ≡ Some fault → ⊥) x xs (is_none fault x.what other (All-head IsFaultless x xs h))
    (none_is fault xs other (All-tail IsFaultless x xs h))

-- PES packets

abbrev NoBadPes : WhatView → Type 0
NoBadPes what = fault_of what ≡ Some RefusedPes → ⊥

abbrev NoBadPesAt : PidFinding → Type 0
NoBadPesAt a = NoBadPes a.found.what

either : (b : Bool) (x y : PidFinding) → NoBadPesAt x → NoBadPesAt y → NoBadPesAt (cond b x y)
either true x y h k = h
either false x y h k = k

no_pes : (header : _) (open_ended : Bool) (body : List ℕ) → NoBadPes (IsPes header open_ended body)
unfolding fault_of
no_pes header open_ended body e = absurd (cc)

no_cut : (bytes : List ℕ) → NoBadPes (IsTruncated bytes)
unfolding fault_of
no_cut bytes e = absurd (cc)

no_section : (bytes : List ℕ) → NoBadPes (IsSection bytes)
unfolding fault_of
no_section bytes e = absurd (cc)

unit_no_bad : (id base0 : ℕ) (e : Ending) (u : AccessUnit) (i : ℕ) (is : List ℕ) → NoBadPesAt (unit_found id base0 e u i is)
unfolding unit_found
unit_no_bad id base0 e u i is =
    either ((unit_header id base0 u).len == 0) _ _ (no_pes _ _ _)
    (either (nat_le (length (pes_packet_bytes id base0 u)) (carried_in (has_access u) (i ∷ is))) _ _ (no_pes _ _ _) (no_cut _))

section_no_bad : (e : Ending) (text : List ℕ) (i : ℕ) (is : List ℕ) → NoBadPesAt (section_found e text i is)
unfolding section_found
section_no_bad e text i is = either (nat_le (1 + length text) (184 * length (i ∷ is))) _ _ (no_section _) (no_cut _)

one_each : (found : ℕ → List ℕ → PidFinding) (is : List ℕ) → ((i : ℕ) (js : List ℕ) → NoBadPesAt (found i js)) → All NoBadPesAt (if_sent found is)
unfolding if_sent
one_each found [] h = All-nil NoBadPesAt
one_each found (i ∷ is) h = All-cons NoBadPesAt (found i is) [] (h i is) (All-nil NoBadPesAt)

each_no_bad : {X : Type 0} (found : Ending → X → ℕ → List ℕ → PidFinding) (count : ℕ) (xs : List (Sending X)) →
    ((e : Ending) (x : X) (i : ℕ) (is : List ℕ) → NoBadPesAt (found e x i is)) → All NoBadPesAt (each_found found count xs)
unfolding each_found
each_no_bad found count [] h = All-nil NoBadPesAt
each_no_bad found count (x ∷ xs) h =
    All-append NoBadPesAt (if_sent (found (next_of count xs) x.item) x.packets) (each_found found count xs)
    (one_each (found (next_of count xs) x.item) x.packets (h (next_of count xs) x.item)) (each_no_bad found count xs h)

reported_no_bad : (pid : ℕ) (xs : List PidFinding) → All NoBadPesAt xs → NoneIs RefusedPes (map (with_pid_at pid) xs)
reported_no_bad pid [] h = All-nil (λ (f : FindingView). NoBadPes f.what)
reported_no_bad pid (x ∷ xs) h =
    All-cons (λ (f : FindingView). NoBadPes f.what) (with_pid_at pid x) (map (with_pid_at pid) xs) (All-head NoBadPesAt x xs h)
    (reported_no_bad pid xs (All-tail NoBadPesAt x xs h))

-- The laws

pub clean : CleanLaw
clean d units n r kept few =
    let bytes : List ℕ = run_bytes (content_at d units) 0 n in
    let all = run_clean d units n r kept few in
    let back = given_back d units n r kept few in
    record {
      packets = none_is RefusedPacket (all_found bytes) (λ e. cc) all;
      unflagged = none_is ErroredPacket (all_found bytes) (λ e. cc) all;
      counters = none_is BrokenCounter (all_found bytes) (λ e. cc) all;
      once = none_is RepeatedPacket (all_found bytes) (λ e. cc) all;
      clear = none_is ScrambledPacket (all_found bytes) (λ e. cc) all;
      sections = none_is RefusedSection (all_found bytes) (λ e. cc) all;
      stream_pes = λ k s is. subst (NoneIs RefusedPes) (sym (back.streams k s is))
          (reported_no_bad s.pid _ (each_no_bad _ n _ (unit_no_bad s.stream_id d.description.base0)));
      table_pes = λ t lt reported. subst (NoneIs RefusedPes) (sym (back.tables t lt reported))
          (reported_no_bad (table_pid d.description t) _ (each_no_bad _ n _ section_no_bad));
    }

pub any_state_clean : AnyStateCleanLaw
any_state_clean h m n r st few = clean m.schedule h.units n r (units_kept h m r st) (omega (arith, few))
