-- A stream that goes was whole: nothing is sent where nothing is left, and what was sent was in time.
use Rattle.std.proofs.Common.{◌≡◌, ℕ, ◌+◌, ◌-◌, ◌<◌, ◌≤◌, false, List, [], ◌∷◌, ◌++◌, Some, None, slice_get, refl, sym, ap, subst, ◌∙◌, inl, inr, arith, append-nil}
use Rattle.std.proofs.lemmas.Bool.{cases_Bool, ne_eqb}
use Rattle.own_slots.specs.Slots.{own_before}
use Rattle.own_slots.proofs.Counts.{own_before_le}
use Rattle.pes_packet.specs.AccessUnits.{AccessUnit}
use Rattle.ts_packet.specs.PidList.{Entry, is_of_pid, pid_list}
use Rattle.slot_contents.specs.Contents.{Content, NullContent, view_of}
use Rattle.description_parts.specs.Described.{DescribedStream}
use Rattle.slot_plan.specs.declared.slot.Slot.TheVariants.{Stream}
use Rattle.unit_queue.specs.OwnedStreams.{OwnedStream}
use Rattle.unit_queue.specs.Places.{place_at, left_at, left_before, content_of, stream_content}
use Rattle.unit_queue.proofs.Leftover.{place_left}
use Rattle.mux_core.specs.Histories.{owned_stream}
use Rattle.mux_core.proofs.ContentPids.{content_pid, is_content_pid}
use Rattle.mux_core.proofs.StreamsAlone.{stream_alone_over}
use Rattle.mux_core.proofs.Whole.{headline_over}
use Rattle.turns.specs.Turns as turns
use Rattle.turns.specs.Turns.{Turn, bytes_by, own_bytes, IsKept, TurnsFit}
use Rattle.turns.specs.LineUpRuns.{GoneStreamLaw}
use Rattle.turns.proofs.TurnLists.{list_parts, none_on}
use Rattle.turns.proofs.PidsOver.{now_kept, own_fits, below_null, stream_named, whole_over, gone_law}
use Rattle.turns.proofs.SameLists.{stream_kept_same}

nothing_left : (l : OwnedStream) (at s : ℕ) (us : List AccessUnit) → (left_before l at us).units ≡ [] → at ≤ s → stream_content l us s ≡ NullContent
nothing_left l at s us none le =
    ap (content_of l) (place_left l (own_before l.own at) 0 0 (own_before l.own s) us (own_before_le l.own at s le)
    ∙ ap (λ (vs : List AccessUnit). place_at l (left_at l (own_before l.own at) 0 0 us).free (left_at l (own_before l.own at) 0 0 us).number vs (own_before l.own s)) none
    ∙ nothing)
  where
    nothing : place_at l (left_at l (own_before l.own at) 0 0 us).free (left_at l (own_before l.own at) 0 0 us).number [] (own_before l.own s) ≡ None
    nothing = unfold place_at in refl

null_off : (pid : ℕ) (c : Content) → pid < 8191 → c ≡ NullContent → is_of_pid pid (view_of c) ≡ false
unfolding content_pid
null_off pid c below e = ap (λ (x : Content). is_of_pid pid (view_of x)) e ∙ is_content_pid pid NullContent ∙ ne_eqb 8191 pid (λ same. omega (arith, same, below))

silent_from : (turn : Turn) (k : ℕ) (s : DescribedStream) (at t : ℕ) → IsKept turn → slice_get turn.scheduled.description.streams k ≡ Some s →
    (left_before (owned_stream turn.scheduled k s) at (turn.history.units k)).units ≡ [] → at ≤ t →
    is_of_pid s.pid (view_of (turns.content_of turn t)) ≡ false
silent_from turn k s at t kept is none le =
    let alone = stream_alone_over turn.scheduled turn.history.changes turn.history.units k s kept.ranges (own_fits turn kept) is in
    elim (cases_Bool ((owned_stream turn.scheduled k s).own t)) [
      | inl y ↦ null_off s.pid (turns.content_of turn t) (below_null turn s.pid (Stream k) kept (stream_named turn k s is))
          (alone.own t y ∙ nothing_left (owned_stream turn.scheduled k s) at t (turn.history.units k) none le)
      | inr other ↦ alone.others t other
    ]

-- The packets of its own history end with the turn.
ended : (turn : Turn) (k : ℕ) (s : DescribedStream) (at more : ℕ) → IsKept turn → slice_get turn.scheduled.description.streams k ≡ Some s →
    (left_before (owned_stream turn.scheduled k s) at (turn.history.units k)).units ≡ [] →
    pid_list s.pid (own_bytes turn (at + more)) ≡ pid_list s.pid (own_bytes turn at)
ended turn k s at more kept is none =
    list_parts s.pid at more (turns.content_of turn) (own_fits turn kept)
    ∙ ap (λ (es : List Entry). pid_list s.pid (own_bytes turn at) ++ es)
    (none_on s.pid (turns.content_of turn) at more (λ t le lt. silent_from turn k s at t kept is none le))
    ∙ append-nil (pid_list s.pid (own_bytes turn at))

pub gone_stream_law : GoneStreamLaw
gone_stream_law now before earlier k s more fit is off none =
    let kept : IsKept before = now_kept before earlier fit.1.1 in
    let named = stream_named before k s is in
    let n : ℕ = now.from + more in
    let count : before.from + (now.from - before.from) ≡ now.from = omega (arith, fit.1.0.later) in
    let whole : pid_list s.pid (bytes_by before earlier now.from) ≡ pid_list s.pid (own_bytes before now.from) =
    subst (λ (m : ℕ). pid_list s.pid (bytes_by before earlier m) ≡ pid_list s.pid (own_bytes before m)) count
    (whole_over before earlier s.pid (Stream k) (now.from - before.from) fit.1.1 named refl) in
    let same : pid_list s.pid (bytes_by now (before ∷ earlier) n) ≡ pid_list s.pid (own_bytes before n) =
    gone_law now before earlier s.pid more fit off (below_null before s.pid (Stream k) kept named) ∙ whole
    ∙ sym (ended before k s now.from more kept is none) in
    stream_kept_same before.scheduled k s (before.history.units k) n (own_bytes before n) (bytes_by now (before ∷ earlier) n) (sym same)
    ((headline_over before.scheduled before.history.changes before.history.units n kept.ranges kept.promised kept.units).streams k s is)
