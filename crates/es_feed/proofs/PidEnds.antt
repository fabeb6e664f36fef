-- The records at the end of a stream, PID by PID.
use Rattle.std.proofs.Common.{◌≡◌, ◌∙◌, ◌<◌, ◌≤◌, ℕ, suc, ◌++◌, ◌==◌, true, false, List, [], length, map, drop, slice_get, Some, inl, inr, refl, sym, ap, arith}
use Rattle.std.proofs.Common.{append_assoc}
use Rattle.std.proofs.lemmas.Bool.Decides.{nat_tests}
use Rattle.std.proofs.lemmas.List.{append-nil, drop_all}
use Rattle.std.proofs.lemmas.Option.{slice_get_cases}
use Rattle.pid_findings.specs.Findings.{ended}
use Rattle.pid_findings.specs.Machine.{PidState}
use Rattle.pid_findings.specs.Shown.{with_pid}
use Rattle.demux.specs.Stream.{States, StreamState, ended_found, finished, held_found, is_aligned, pushed}
use Rattle.pid_findings.specs.Views.{FindingView}
use Rattle.demux.proofs.PushedBytes.{pushed_less}
use Rattle.demux.proofs.StreamEnd.{ended_next}
use Rattle.fed_streams.specs.Feeding.{Fed, FeedView, after_all, fed_all, fed_ends}
use Rattle.fed_streams.proofs.FedUnits.{in_turn}
use Rattle.es_units.specs.Marking.{MarkingView, all_marked}
use Rattle.es_feed.specs.StreamFeeding.{after_marked, fed_marked, fed_rest}
use Rattle.es_feed.proofs.FedPackets.{all_marking, findings_more, marked_both, rest_fed}

-- 1. Findings after earlier findings

marked_after : (feed : FeedView) (fs gs : List FindingView) → after_marked feed (fs ++ gs) ≡ after_marked (after_marked feed fs) gs
marked_after feed fs gs =
    let m = feed.marking in
    let next = after_marked feed fs in
    ap (λ (xs : List FindingView). after_all feed xs) (marked_both m fs gs)
    ∙ findings_more feed (all_marked m fs) (all_marked m gs)
    ∙ ap (λ (k : MarkingView). after_all next (all_marked k gs)) (sym (all_marking feed (all_marked m fs)))

marked_fed : (feed : FeedView) (fs gs : List FindingView) → fed_marked feed (fs ++ gs) ≡ fed_marked feed fs ++ fed_marked (after_marked feed fs) gs
marked_fed feed fs gs =
    let m = feed.marking in
    let next = after_marked feed fs in
    ap (λ (xs : List FindingView). fed_all feed xs) (marked_both m fs gs)
    ∙ in_turn feed (all_marked m fs) (all_marked m gs)
    ∙ ap (λ (k : MarkingView). fed_all feed (all_marked m fs) ++ fed_all next (all_marked k gs)) (sym (all_marking feed (all_marked m fs)))

-- 2. The PIDs, one after another

abbrev of_entry : ℕ → ℕ × PidState → List FindingView
of_entry packet x = map (with_pid x.0 packet) (ended true x.1.open_unit)

-- The first i PIDs have ended.
pub record EndsSoFar (packet i : ℕ) (states : States) (first : FeedView) (begun : List Fed) (feed : FeedView) (fed : List Fed) : Type 0 where
  pub feed_is : after_marked first (ended_found packet states) ≡ after_marked feed (ended_found packet (drop i states))
  pub fed_is : begun ++ fed_marked first (ended_found packet states) ≡ fed ++ fed_marked feed (ended_found packet (drop i states))

one_more : (packet i : ℕ) (states : States) (x : ℕ × PidState) (first : FeedView) (begun : List Fed) (feed next : FeedView) (fed more : List Fed) →
    slice_get states i ≡ Some x → next ≡ after_marked feed (of_entry packet x) → more ≡ fed ++ fed_marked feed (of_entry packet x) →
    EndsSoFar packet i states first begun feed fed → EndsSoFar packet (suc i) states first begun next more
one_more packet i states x first begun feed next fed more there goes feeds h =
    let one = of_entry packet x in
    let rest = ended_found packet (drop (suc i) states) in
    let split : ended_found packet (drop i states) ≡ one ++ rest = ended_next packet i states x there in
    record {
      feed_is = h.feed_is ∙ ap (λ (fs : List FindingView). after_marked feed fs) split ∙ marked_after feed one rest
          ∙ ap (λ (f : FeedView). after_marked f rest) (sym goes);
      fed_is = h.fed_is ∙ ap (λ (fs : List FindingView). fed ++ fed_marked feed fs) split
          ∙ ap (λ (xs : List Fed). fed ++ xs) (marked_fed feed one rest)
          ∙ sym (append_assoc fed (fed_marked feed one) (fed_marked (after_marked feed one) rest))
          ∙ ap (λ (xs : List Fed). xs ++ fed_marked (after_marked feed one) rest) (sym feeds)
          ∙ ap (λ (f : FeedView). more ++ fed_marked f rest) (sym goes);
    }

pub end_more : (packet i : ℕ) (states : States) (first : FeedView) (begun : List Fed) (feed next : FeedView) (fed more : List Fed) → i < length states →
    ((x : ℕ × PidState) → slice_get states i ≡ Some x → next ≡ after_marked feed (of_entry packet x)) →
    ((x : ℕ × PidState) → slice_get states i ≡ Some x → more ≡ fed ++ fed_marked feed (of_entry packet x)) →
    EndsSoFar packet i states first begun feed fed → EndsSoFar packet (suc i) states first begun next more
end_more packet i states first begun feed next fed more less goes feeds h = elim (slice_get_cases states i).1 [
  | inl found ↦ one_more packet i states found.0 first begun feed next fed more found.2 (goes found.0 found.2) (feeds found.0 found.2) h
  | inr past ↦ absurd (omega (arith, less, past.0))
]

none_after : (packet : ℕ) (feed : FeedView) → after_marked feed (ended_found packet []) ≡ feed
unfolding ended_found after_all
none_after packet feed = refl

none_fed : (packet : ℕ) (feed : FeedView) → fed_marked feed (ended_found packet []) ≡ []
unfolding ended_found fed_all
none_fed packet feed = refl

pub ends_feed : (packet i : ℕ) (states : States) (first : FeedView) (begun : List Fed) (feed : FeedView) (fed : List Fed) → length states ≤ i →
    EndsSoFar packet i states first begun feed fed → feed ≡ after_marked first (ended_found packet states)
ends_feed packet i states first begun feed fed past h =
    sym (h.feed_is ∙ ap (λ (xs : States). after_marked feed (ended_found packet xs)) (drop_all i states past) ∙ none_after packet feed)

pub ends_fed : (packet i : ℕ) (states : States) (first : FeedView) (begun : List Fed) (feed : FeedView) (fed : List Fed) → length states ≤ i →
    EndsSoFar packet i states first begun feed fed → fed ≡ begun ++ fed_marked first (ended_found packet states)
ends_fed packet i states first begun feed fed past h =
    sym (h.fed_is ∙ ap (λ (xs : States). fed ++ fed_marked feed (ended_found packet xs)) (drop_all i states past)
    ∙ ap (λ (xs : List Fed). fed ++ xs) (none_fed packet feed) ∙ append-nil fed)

-- 3. The whole end

found_at_end : (s : StreamState) → s.ended ≡ false → (finished s).found ≡ s.found ++ (held_found s.packets s.held ++ ended_found s.packets s.states)
found_at_end s unended = rw unended refl

none_held : (s : StreamState) → is_aligned s ≡ true → length s.held ≡ 0
none_held s aligned = grind (arith, nat_tests)

-- The bytes of an unfinished packet, then the PIDs
end_found : (s t : StreamState) (rest : List ℕ) → length rest < 188 → is_aligned s ≡ true → s.found ≡ [] → s.ended ≡ false → t ≡ pushed s rest →
    (finished (pushed s rest)).found ≡ held_found t.packets t.held ++ ended_found t.packets t.states
end_found s t rest few aligned none unended is =
    let held : StreamState = record s { held = s.held ++ rest } in
    let less : pushed s rest ≡ held = let n = none_held s aligned in pushed_less s rest (omega (arith, n, few)) in
    let same : t ≡ held = is ∙ less in
    let ends = held_found t.packets t.held ++ ended_found t.packets t.states in
    ap (λ (u : StreamState). (finished u).found) (sym is)
    ∙ found_at_end t (ap (λ (u : StreamState). u.ended) same ∙ unended)
    ∙ ap (λ (fs : List FindingView). fs ++ ends) (ap (λ (u : StreamState). u.found) same ∙ none)

pub ends_in_turn : (s t : StreamState) (feed held all : FeedView) (rest : List ℕ) (before one two after : List Fed) → length rest < 188 →
    is_aligned s ≡ true → s.found ≡ [] → s.ended ≡ false → t ≡ pushed s rest →
    held ≡ after_marked feed (held_found t.packets t.held) → one ≡ before ++ fed_marked feed (held_found t.packets t.held) →
    all ≡ after_marked held (ended_found t.packets t.states) → two ≡ one ++ fed_marked held (ended_found t.packets t.states) →
    after ≡ two ++ fed_ends all → after ≡ before ++ fed_rest s feed rest
ends_in_turn s t feed held all rest before one two after few aligned none unended is held_is one_is all_is two_is last =
    let hs = held_found t.packets t.held in
    let es = ended_found t.packets t.states in
    let goes : all ≡ after_marked feed (hs ++ es) =
    all_is ∙ ap (λ (f : FeedView). after_marked f es) held_is ∙ sym (marked_after feed hs es) in
    let feeds : two ≡ before ++ fed_marked feed (hs ++ es) =
    two_is ∙ ap (λ (xs : List Fed). xs ++ fed_marked held es) one_is ∙ append_assoc before (fed_marked feed hs) (fed_marked held es)
    ∙ ap (λ (f : FeedView). before ++ (fed_marked feed hs ++ fed_marked f es)) held_is
    ∙ ap (λ (xs : List Fed). before ++ xs) (sym (marked_fed feed hs es)) in
    rest_fed s feed all rest (all_marked feed.marking (hs ++ es)) before two after
    (ap (λ (fs : List FindingView). all_marked feed.marking fs) (sym (end_found s t rest few aligned none unended is))) goes feeds last
