-- The packets of a PID over all turns: those of the history of the turn in force, from the slot on in which the PID comes on air.
use Rattle.std.proofs.Common.{◌≡◌, ◌⊎◌, ℕ, suc, ◌+◌, ◌-◌, ◌<◌, ◌≤◌, Bool, false, cond, List, [], ◌∷◌, ◌++◌, Some, slice_get, refl, sym, ap, ◌∙◌, subst, inl, inr, arith}
use Rattle.std.proofs.Common.{append-nil, append_assoc, nat_le, lt-ltb, le-ltb, zero}
use Rattle.std.proofs.lemmas.Bool.{cases_Bool, cases_lt}
use Rattle.std.proofs.lemmas.List.Elements.{filter-append}
use Rattle.ts_packet.specs.PidList.{Entry, is_of_pid, pid_list}
use Rattle.slot_contents.specs.Contents.{Content, packet_of, view_of, run_bytes}
use Rattle.slot_contents.specs.RunLaws.{Fits}
use Rattle.slot_contents.proofs.Runs.{all_entries}
use Rattle.description_parts.specs.Described.{DescribedStream}
use Rattle.slot_plan.specs.declared.slot.Slot.{Slot}
use Rattle.slot_plan.specs.declared.slot.Slot.TheVariants.{Stream}
use Rattle.slot_plan.specs.Schedule.{slot_of}
use Rattle.slot_plan.specs.SlotPids.{slot_pid}
use Rattle.slot_plan.proofs.SlotPids.{slots_below}
use Rattle.mux_core.proofs.ContentPids.{names_over}
use Rattle.mux_core.proofs.FedUnits.{run_same}
use Rattle.mux_core.proofs.Whole.{contents_fit_over}
use Rattle.turns.specs.Turns.{Turn, turn_at, content_of, content_by, bytes_by, own_bytes, IsOn, IsOff, AreOff, ComesAt, is_clock, StaysOn, ComesOn, IsKept, TurnsFit}
use Rattle.turns.specs.LineUpRuns.{JoinedLaw, GoneLaw}
use Rattle.turns.proofs.TurnLists.{on, after, entries_same, listed, list_parts, none_on, all_after, none_after}

-- ---- The turn in force

pub turn_before : (now before : Turn) (earlier : List Turn) (s : ℕ) → s < now.from → turn_at now (before ∷ earlier) s ≡ turn_at before earlier s
turn_before now before earlier s lt = ap (λ (b : Bool). cond b (turn_at before earlier s) now) (lt-ltb s now.from lt)

pub turn_since : (now : Turn) (earlier : List Turn) (s : ℕ) → now.from ≤ s → turn_at now earlier s ≡ now
turn_since now [] s le = refl
turn_since now (before ∷ earlier) s le = ap (λ (b : Bool). cond b (turn_at before earlier s) now) (le-ltb s now.from le)

pub now_kept : (now : Turn) (earlier : List Turn) → TurnsFit now earlier → IsKept now
now_kept now [] fit = fit.0
now_kept now (before ∷ earlier) fit = fit.0

pub turn_kept : (now : Turn) (earlier : List Turn) (s : ℕ) → TurnsFit now earlier → IsKept (turn_at now earlier s)
turn_kept now [] s fit = fit.0
turn_kept now (before ∷ earlier) s fit = elim (cases_lt s now.from) [
  | inl lt ↦ subst IsKept (sym (turn_before now before earlier s lt)) (turn_kept before earlier s fit.1.1)
  | inr le ↦ subst IsKept (sym (turn_since now (before ∷ earlier) s le)) fit.0
]

pub own_fits : (turn : Turn) → IsKept turn → Fits (content_of turn)
own_fits turn kept = contents_fit_over turn.scheduled turn.history.changes turn.history.units kept.ranges kept.units

pub fits_by : (now : Turn) (earlier : List Turn) → TurnsFit now earlier → Fits (content_by now earlier)
fits_by now earlier fit s = own_fits (turn_at now earlier s) (turn_kept now earlier s fit) s

content_before : (now before : Turn) (earlier : List Turn) (s : ℕ) → s < now.from → content_by now (before ∷ earlier) s ≡ content_by before earlier s
content_before now before earlier s lt = ap (λ (turn : Turn). content_of turn s) (turn_before now before earlier s lt)

content_since : (now : Turn) (earlier : List Turn) (s : ℕ) → now.from ≤ s → content_by now earlier s ≡ content_of now s
content_since now earlier s le = ap (λ (turn : Turn). content_of turn s) (turn_since now earlier s le)

pub bytes_before : (now before : Turn) (earlier : List Turn) → bytes_by now (before ∷ earlier) now.from ≡ bytes_by before earlier now.from
bytes_before now before earlier =
    run_same (content_by now (before ∷ earlier)) (content_by before earlier) 0 now.from (λ t lt. content_before now before earlier t (omega (arith, lt)))

-- ---- PIDs that no turn has

off_at : (now : Turn) (earlier : List Turn) (pid s : ℕ) → AreOff (now ∷ earlier) pid → IsOff (turn_at now earlier s) pid
off_at now [] pid s off = off.0
off_at now (before ∷ earlier) pid s off = elim (cases_lt s now.from) [
  | inl lt ↦ subst (λ (turn : Turn). IsOff turn pid) (sym (turn_before now before earlier s lt)) (off_at before earlier pid s off.1)
  | inr le ↦ subst (λ (turn : Turn). IsOff turn pid) (sym (turn_since now (before ∷ earlier) s le)) off.0
]

off_slot : (turn : Turn) (pid s : ℕ) → IsOff turn pid → pid < 8191 → is_of_pid pid (view_of (content_of turn s)) ≡ false
off_slot turn pid s off below = elim (cases_Bool (is_of_pid pid (view_of (content_of turn s)))) [
  | inl y ↦ absurd (off (slot_of turn.scheduled.schedule s)
      (names_over turn.scheduled turn.history.changes turn.history.units s pid below y))
  | inr n ↦ n
]

none_before : (now : Turn) (earlier : List Turn) (pid n : ℕ) → TurnsFit now earlier → AreOff (now ∷ earlier) pid → pid < 8191 →
    pid_list pid (bytes_by now earlier n) ≡ []
none_before now earlier pid n fit off below =
    listed pid n (content_by now earlier) (fits_by now earlier fit)
    ∙ none_on pid (content_by now earlier) 0 n (λ t le lt. off_slot (turn_at now earlier t) pid t (off_at now earlier pid t off) below)

-- ---- What a turn adds

abbrev rest_on : ℕ → Turn → ℕ → List Entry
rest_on pid now more = on pid (all_entries (content_of now) now.from more)

pub since_turn : (now before : Turn) (earlier : List Turn) (pid more : ℕ) → TurnsFit now (before ∷ earlier) →
    pid_list pid (bytes_by now (before ∷ earlier) (now.from + more)) ≡ pid_list pid (bytes_by before earlier now.from) ++ rest_on pid now more
since_turn now before earlier pid more fit =
    list_parts pid now.from more (content_by now (before ∷ earlier)) (fits_by now (before ∷ earlier) fit)
    ∙ ap (λ (bytes : List ℕ). pid_list pid bytes ++ on pid (all_entries (content_by now (before ∷ earlier)) now.from more))
    (bytes_before now before earlier)
    ∙ ap (λ (es : List Entry). pid_list pid (bytes_by before earlier now.from) ++ on pid es)
    (entries_same (content_by now (before ∷ earlier)) (content_of now) now.from more (λ t le lt. content_since now (before ∷ earlier) t le))

own_parts : (now : Turn) (pid more : ℕ) → IsKept now → pid_list pid (own_bytes now (now.from + more)) ≡ pid_list pid (own_bytes now now.from) ++ rest_on pid now more
own_parts now pid more kept = list_parts pid now.from more (content_of now) (own_fits now kept)

-- ---- A PID of streams or of tables: its packets are those of the turn's own history, from slot 0 on

pub below_null : (turn : Turn) (pid : ℕ) (slot : Slot) → IsKept turn → slot_pid turn.scheduled.description slot ≡ Some pid → pid < 8191
below_null turn pid slot kept named = slots_below turn.scheduled.description slot pid kept.ranges named

pub stream_named : (turn : Turn) (k : ℕ) (s : DescribedStream) → slice_get turn.scheduled.description.streams k ≡ Some s →
    slot_pid turn.scheduled.description (Stream k) ≡ Some s.pid
unfolding slot_pid
stream_named turn k s is = rw is refl

abbrev WholeTo : Turn → List Turn → ℕ → Slot → ℕ → Type 0
WholeTo now earlier pid slot n = slot_pid now.scheduled.description slot ≡ Some pid → is_clock slot ≡ false →
    pid_list pid (bytes_by now earlier n) ≡ pid_list pid (own_bytes now n)

whole_before : (now before : Turn) (earlier : List Turn) (pid : ℕ) (slot : Slot) → TurnsFit now (before ∷ earlier) →
    slot_pid now.scheduled.description slot ≡ Some pid → is_clock slot ≡ false →
    ((slot_before : Slot) → WholeTo before earlier pid slot_before (before.from + (now.from - before.from))) →
    StaysOn now before pid slot ⊎ ComesOn now (before ∷ earlier) pid slot →
    pid_list pid (bytes_by before earlier now.from) ≡ pid_list pid (own_bytes now now.from)
whole_before now before earlier pid slot fit named other whole (inl stays) =
    let count : before.from + (now.from - before.from) ≡ now.from = omega (arith, fit.1.0.later) in
    subst (λ (n : ℕ). pid_list pid (bytes_by before earlier n) ≡ pid_list pid (own_bytes before n)) count
    (whole stays.slot_before stays.named (stays.clock ∙ other))
    ∙ stays.same
whole_before now before earlier pid slot fit named other whole (inr comes) =
    none_before before earlier pid now.from fit.1.1 comes.off (below_null now pid slot fit.0 named) ∙ sym (comes.silent other)

pub whole_over : (now : Turn) (earlier : List Turn) (pid : ℕ) (slot : Slot) (more : ℕ) → TurnsFit now earlier →
    slot_pid now.scheduled.description slot ≡ Some pid → is_clock slot ≡ false →
    pid_list pid (bytes_by now earlier (now.from + more)) ≡ pid_list pid (own_bytes now (now.from + more))
whole_over now [] pid slot more fit named other = refl
whole_over now (before ∷ earlier) pid slot more fit named other =
    since_turn now before earlier pid more fit
    ∙ ap (λ (es : List Entry). es ++ rest_on pid now more)
    (whole_before now before earlier pid slot fit named other
    (λ slot_before name no_clock. whole_over before earlier pid slot_before (now.from - before.from) fit.1.1 name no_clock)
    (fit.1.0.pids pid slot named))
    ∙ sym (own_parts now pid more fit.0)

-- ---- A PID of clock references: those of the turn's own history, from the slot on in which the PID comes

pub comes_by : (pid : ℕ) (now : Turn) (earlier : List Turn) (at : ℕ) → TurnsFit now earlier → ComesAt pid now earlier at → at ≤ now.from
comes_by pid now [] at fit comes = omega (arith, comes)
comes_by pid now (before ∷ earlier) at fit comes = elim comes [
  | inl stays ↦ let le : at ≤ before.from = comes_by pid before earlier at fit.1.1 stays.1 in omega (arith, le, fit.1.0.later)
  | inr new ↦ omega (arith, new.1)
]

-- Each PID of a turn comes in some slot.
pub comes_somewhere : (pid : ℕ) (slot : Slot) (now : Turn) (earlier : List Turn) → TurnsFit now earlier → slot_pid now.scheduled.description slot ≡ Some pid →
    (at : ℕ) × ComesAt pid now earlier at
comes_somewhere pid slot now [] fit named = (now.from, refl)
comes_somewhere pid slot now (before ∷ earlier) fit named = elim (fit.1.0.pids pid slot named) [
  | inl stays ↦
      let since = comes_somewhere pid stays.slot_before before earlier fit.1.1 stays.named in
      (since.0, inl ((stays.slot_before, stays.named), since.1))
  | inr comes ↦ (now.from, inr (comes.off.0, refl))
]

stays_there : (now before : Turn) (earlier : List Turn) (pid : ℕ) (slot : Slot) → StaysOn now before pid slot ⊎ ComesOn now (before ∷ earlier) pid slot →
    IsOn before pid → StaysOn now before pid slot
stays_there now before earlier pid slot (inl stays) on_air = stays
stays_there now before earlier pid slot (inr comes) on_air = absurd (comes.off.0 on_air.0 on_air.1)

comes_there : (now before : Turn) (earlier : List Turn) (pid : ℕ) (slot : Slot) → StaysOn now before pid slot ⊎ ComesOn now (before ∷ earlier) pid slot →
    IsOff before pid → ComesOn now (before ∷ earlier) pid slot
comes_there now before earlier pid slot (inl stays) off = absurd (off stays.slot_before stays.named)
comes_there now before earlier pid slot (inr comes) off = comes

-- Packets from slot `at` on, with those that a turn adds after it
after_more : (now : Turn) (pid at more : ℕ) → IsKept now → at ≤ now.from →
    after at (pid_list pid (own_bytes now (now.from + more))) ≡ after at (pid_list pid (own_bytes now now.from)) ++ rest_on pid now more
after_more now pid at more kept le =
    ap (after at) (own_parts now pid more kept)
    ∙ filter-append (λ (entry : Entry). nat_le at entry.index) (pid_list pid (own_bytes now now.from)) (rest_on pid now more)
    ∙ ap (λ (es : List Entry). after at (pid_list pid (own_bytes now now.from)) ++ es) (all_after at pid (content_of now) now.from more le)

none_yet : (now : Turn) (pid : ℕ) → IsKept now → after now.from (pid_list pid (own_bytes now now.from)) ≡ []
none_yet now pid kept =
    ap (after now.from) (listed pid now.from (content_of now) (own_fits now kept))
    ∙ none_after now.from pid (content_of now) 0 now.from (omega arith)

from_first : (now : Turn) (pid at n : ℕ) → IsKept now → at ≡ 0 → pid_list pid (own_bytes now n) ≡ after at (pid_list pid (own_bytes now n))
from_first now pid at n kept first =
    listed pid n (content_of now) (own_fits now kept)
    ∙ sym (all_after at pid (content_of now) 0 n (omega (arith, first)))
    ∙ ap (after at) (sym (listed pid n (content_of now) (own_fits now kept)))

clocks_before : (now before : Turn) (earlier : List Turn) (pid : ℕ) (slot : Slot) (at : ℕ) → TurnsFit now (before ∷ earlier) →
    slot_pid now.scheduled.description slot ≡ Some pid →
    ((slot_before : Slot) → slot_pid before.scheduled.description slot_before ≡ Some pid → ComesAt pid before earlier at →
    pid_list pid (bytes_by before earlier (before.from + (now.from - before.from)))
    ≡ after at (pid_list pid (own_bytes before (before.from + (now.from - before.from))))) →
    (IsOn before pid × ComesAt pid before earlier at) ⊎ (IsOff before pid × (at ≡ now.from)) →
    pid_list pid (bytes_by before earlier now.from) ≡ after at (pid_list pid (own_bytes now now.from))
clocks_before now before earlier pid slot at fit named clocks (inl on_air) =
    let stays = stays_there now before earlier pid slot (fit.1.0.pids pid slot named) on_air.0 in
    let count : before.from + (now.from - before.from) ≡ now.from = omega (arith, fit.1.0.later) in
    subst (λ (n : ℕ). pid_list pid (bytes_by before earlier n) ≡ after at (pid_list pid (own_bytes before n))) count
    (clocks stays.slot_before stays.named on_air.1)
    ∙ ap (after at) stays.same
clocks_before now before earlier pid slot at fit named clocks (inr new) =
    let comes = comes_there now before earlier pid slot (fit.1.0.pids pid slot named) new.0 in
    none_before before earlier pid now.from fit.1.1 comes.off (below_null now pid slot fit.0 named)
    ∙ sym (ap (λ (from : ℕ). after from (pid_list pid (own_bytes now now.from))) new.1 ∙ none_yet now pid fit.0)

pub clocks_over : (now : Turn) (earlier : List Turn) (pid : ℕ) (slot : Slot) (at more : ℕ) → TurnsFit now earlier →
    slot_pid now.scheduled.description slot ≡ Some pid → ComesAt pid now earlier at →
    pid_list pid (bytes_by now earlier (now.from + more)) ≡ after at (pid_list pid (own_bytes now (now.from + more)))
clocks_over now [] pid slot at more fit named comes = from_first now pid at (now.from + more) fit.0 (comes ∙ fit.1)
clocks_over now (before ∷ earlier) pid slot at more fit named comes =
    since_turn now before earlier pid more fit
    ∙ ap (λ (es : List Entry). es ++ rest_on pid now more)
    (clocks_before now before earlier pid slot at fit named
    (λ slot_before name since. clocks_over before earlier pid slot_before at (now.from - before.from) fit.1.1 name since) comes)
    ∙ sym (after_more now pid at more fit.0 (comes_by pid now (before ∷ earlier) at fit comes))

-- ---- What goes, and the bytes in parts

bytes_parts : (f : ℕ → Content) (s a b : ℕ) → run_bytes f s (a + b) ≡ run_bytes f s a ++ run_bytes f (s + a) b
unfolding run_bytes
bytes_parts f s zero b =
    let none : zero + b ≡ b = omega arith in
    let here : s ≡ s + zero = omega arith in
    ap (λ (n : ℕ). run_bytes f s n) none ∙ ap (λ (t : ℕ). run_bytes f t b) here
bytes_parts f s (suc a) b =
    let one : suc a + b ≡ suc (a + b) = omega arith in
    let here : suc s + a ≡ s + suc a = omega arith in
    ap (λ (n : ℕ). run_bytes f s n) one
    ∙ ap (λ (bytes : List ℕ). packet_of (f s) ++ bytes)
    (bytes_parts f (suc s) a b ∙ ap (λ (t : ℕ). run_bytes f (suc s) a ++ run_bytes f t b) here)
    ∙ sym (append_assoc (packet_of (f s)) (run_bytes f (suc s) a) (run_bytes f (s + suc a) b))

bytes_since : (now : Turn) (earlier : List Turn) (s n : ℕ) → now.from ≤ s → run_bytes (content_by now earlier) s n ≡ run_bytes (content_of now) s n
unfolding run_bytes
bytes_since now earlier s zero le = refl
bytes_since now earlier s (suc n) le =
    ap (λ (c : Content). packet_of c ++ run_bytes (content_by now earlier) (suc s) n) (content_since now earlier s le)
    ∙ ap (λ (bytes : List ℕ). packet_of (content_of now s) ++ bytes) (bytes_since now earlier (suc s) n (omega (arith, le)))

pub joined_law : JoinedLaw
joined_law now before earlier more =
    let here : 0 + now.from ≡ now.from = omega arith in
    bytes_parts (content_by now (before ∷ earlier)) 0 now.from more
    ∙ ap (λ (t : ℕ). bytes_by now (before ∷ earlier) now.from ++ run_bytes (content_by now (before ∷ earlier)) t more) here
    ∙ ap (λ (bytes : List ℕ). bytes ++ run_bytes (content_by now (before ∷ earlier)) now.from more) (bytes_before now before earlier)
    ∙ ap (λ (bytes : List ℕ). bytes_by before earlier now.from ++ bytes) (bytes_since now (before ∷ earlier) now.from more (omega arith))

pub gone_law : GoneLaw
gone_law now before earlier pid more fit off below =
    since_turn now before earlier pid more fit
    ∙ ap (λ (es : List Entry). pid_list pid (bytes_by before earlier now.from) ++ es)
    (none_on pid (content_of now) now.from more (λ t le lt. off_slot now pid t off below))
    ∙ append-nil (pid_list pid (bytes_by before earlier now.from))
