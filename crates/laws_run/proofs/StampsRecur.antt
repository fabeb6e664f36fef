-- PES packets with a PTS begin in time on each PID, if units come often and the sections are distinguishable.
use Rattle.std.proofs.Common.{◌≡◌, ℕ, zero, suc, ◌+◌, ◌-◌, ◌*◌, ◌/◌, ◌^◌, ◌<◌, ◌≤◌, ◌==◌, Bool, false, List, [], ◌∷◌, ◌++◌, length, map, take, drop, Some}
use Rattle.std.proofs.Common.{slice_get, refl, sym, ap, subst, ◌∙◌, arith, All, inl, inr, if◌then◌else◌}
use Rattle.std.proofs.Math.Nat.{mul-le-mul_right}
use Rattle.std.proofs.lemmas.Bool.{cases_Bool}
use Rattle.std.proofs.lemmas.List.{length-drop, length-take, drop_all}
use Rattle.std.proofs.lemmas.List.Elements.{All-nil, All-cons, All-head, All-take}
use Rattle.clock27.specs.Release.{release}
use Rattle.own_slots.specs.Slots.{own_slots}
use Rattle.pes_packet.specs.AccessUnits.{AccessUnit}
use Rattle.ts_packet.specs.PidList.{pid_list}
use Rattle.slot_contents.specs.Contents.{run_bytes}
use Rattle.slot_contents.specs.RunLaws.{Fits}
use Rattle.slot_contents.proofs.Runs.{run_length}
use Rattle.description_parts.specs.Described.{DescribedStream}
use Rattle.description_parts.specs.Ranges.{IsInRange}
use Rattle.description_parts.specs.Tables.{table_pid}
use Rattle.description.proofs.Pids.{stream_range}
use Rattle.pid_findings.specs.Findings.{findings_to_end}
use Rattle.slot_plan.specs.declared.slot.Item.TheVariants.{Stream as StreamItem}
use Rattle.slot_plan.specs.Schedule.{owned}
use Rattle.slot_plan.specs.Promised.{declaration, Promised}
use Rattle.tstd.specs.Carried.{timed_pes_packets}
use Rattle.unit_timing.specs.Plans.{KeepsDeclaration}
use Rattle.unit_queue.specs.OwnedStreams.{OwnedStream, has_access, timed, packet_count, first_slot, end_slot}
use Rattle.unit_queue.proofs.PieceBytes.{field_most}
use Rattle.unit_queue.proofs.Leftover.{text_some, count_some, first_free, first_released}
use Rattle.monitor.specs.Gaps.{late}
use Rattle.monitor.specs.Begins.{found_on, pts_begins}
use Rattle.monitor.specs.Faults.{pts_late}
use Rattle.laws_run.specs.PidLaws.{found_on as reported_on}
use Rattle.mux_core.specs.Scheduled.{Scheduled}
use Rattle.mux_core.specs.Histories.{owned_stream, table_of, content_at}
use Rattle.mux_core.specs.Headline.{UnitsKept}
use Rattle.mux_core.proofs.Whole.{contents_fit}
use Rattle.laws_run.specs.Placed.{units_placed, sent_units, sent_sections}
use Rattle.laws_run.specs.GivenBack.{IsSentOn}
use Rattle.laws_run.specs.PtsSpacing.{FollowSoon, ComeOften, HasPtsSpacing}
use Rattle.laws_run.proofs.Lateness.{short_gap}
use Rattle.laws_run.proofs.NothingElse.{sent_or_silent}
use Rattle.laws_run.proofs.RunFindings.{is_run, silent_back, given_back}
use Rattle.laws_run.proofs.Soundness.{as_reported}
use Rattle.laws_run.proofs.UnitHeads.{head_in, heads, reported_stamps, stamps_reported, unit_heads, no_heads}
use Rattle.laws_run.proofs.UnitsTimely.{IsCarried, from_release, reached, Timely, timely}

-- The units of a stream in order

-- If all slots are taken, no unit begins.
no_more : (l : OwnedStream) (free : ℕ) (us : List AccessUnit) (slots : List ℕ) → length slots ≤ free → heads (units_placed l free us slots) ≡ []
unfolding heads units_placed
no_more l free [] slots le = refl
no_more l free (u ∷ us) slots le =
    let from : free ≤ first_slot l free u = first_free l free u in
    let none : take (packet_count l u) (drop (first_slot l free u) slots) ≡ [] =
    ap (take (packet_count l u)) (drop_all (first_slot l free u) slots (omega (arith, le, from))) ∙ take_none (packet_count l u) in
    let rest = no_more l (end_slot l free u) us slots (omega (arith, le, from)) in
    rw (none, rest) refl
  where
    take_none : (n : ℕ) → ◌≡◌ {A = List ℕ} (take n []) []
    take_none zero = refl
    take_none (suc n) = refl

-- If a unit has packets but none is sent, no slots are left for it.
none_sent : (count b : ℕ) (slots : List ℕ) → 0 < count → take count (drop b slots) ≡ [] → length slots ≤ b
none_sent count b slots some e =
    let size : length (take count (drop b slots)) ≡ 0 = ap length e in
    omega (arith, size, some, length-take count (drop b slots), length-drop b slots)

-- A unit begins in a slot that is not before its release.
begins_released : (l : OwnedStream) (n free s : ℕ) (u : AccessUnit) (more : List ℕ) →
    take (packet_count l u) (drop (first_slot l free u) (own_slots l.own 0 n)) ≡ s ∷ more →
    u.dts * l.parameters.rate ≤ s * 135360000 + l.parameters.lead * l.parameters.rate
begins_released l n free s u more e =
    let b : ℕ = first_slot l free u in
    let slots : List ℕ = own_slots l.own 0 n in
    let from : ℕ = release l.parameters.rate l.parameters.lead u.dts in
    let released = first_released l free u in
    let all : All (λ t. from ≤ t) (take (packet_count l u) (drop b slots)) =
    All-take (λ t. from ≤ t) (packet_count l u) (drop b slots) (from_release l.own from 0 n b (omega (arith, released))) in
    reached l.parameters.rate l.parameters.lead u.dts s (All-head (λ t. from ≤ t) s more (subst (All (λ t. from ≤ t)) e all))

-- The gap between two units is at most 700 ms, even if the first is sent as early as possible and the second as late as possible.
gap_of : (rate lead before dts p s : ℕ) → before * rate ≤ p * 135360000 + lead * rate → s * 135360000 ≤ dts * rate → dts + lead ≤ before + 63000 →
    (s - p) * 1504000 ≤ 700 * rate
gap_of rate lead before dts p s early late soon =
    let scaled : (dts + lead) * rate ≤ (before + 63000) * rate = mul-le-mul_right rate soon in
    omega (arith, early, late, scaled)

timely_first : (l : OwnedStream) (n free s : ℕ) (u : AccessUnit) (more : List ℕ) →
    take (packet_count l u) (drop (first_slot l free u) (own_slots l.own 0 n)) ≡ s ∷ more →
    All (λ t. t * 135360000 ≤ u.dts * l.parameters.rate) (head_in (take (packet_count l u) (drop (first_slot l free u) (own_slots l.own 0 n)))) →
    s * 135360000 ≤ u.dts * l.parameters.rate
timely_first l n free s u more e all =
    All-head (λ t. t * 135360000 ≤ u.dts * l.parameters.rate) s []
    (subst (λ (xs : List ℕ). All (λ t. t * 135360000 ≤ u.dts * l.parameters.rate) (head_in xs)) e all)

abbrev TimelyFrom : OwnedStream → ℕ → ℕ → List AccessUnit → Type 0
TimelyFrom l n free us = Timely l.own l.parameters.rate l.parameters.lead free (map (timed l) us) (own_slots l.own 0 n)

-- If a unit begins in slot s, the units after it are not late.
abbrev HeadsAfter : OwnedStream → ℕ → ℕ → AccessUnit → List AccessUnit → ℕ → Type 0
HeadsAfter l n free u us s = late l.parameters.rate 700 (s ∷ heads (units_placed l (end_slot l free u) us (own_slots l.own 0 n))) ≡ []

heads_follow : (l : OwnedStream) (n free p before : ℕ) (us : List AccessUnit) → before * l.parameters.rate ≤ p * 135360000
    + l.parameters.lead * l.parameters.rate →
    FollowSoon l.parameters.lead before us → TimelyFrom l n free us → late l.parameters.rate 700 (p ∷ heads (units_placed l free us (own_slots l.own 0 n))) ≡ []
unfolding heads units_placed FollowSoon Timely first_slot
heads_follow l n free p before [] early soon time = refl
heads_follow l n free p before (u ∷ us) early soon time =
    by (take (packet_count l u) (drop (first_slot l free u) (own_slots l.own 0 n))) refl
    (λ s from. heads_follow l n (end_slot l free u) s u.dts us from soon.1 time.1)
  where
    by : (xs : List ℕ) → take (packet_count l u) (drop (first_slot l free u) (own_slots l.own 0 n)) ≡ xs →
        ((s : ℕ) → u.dts * l.parameters.rate ≤ s * 135360000 + l.parameters.lead * l.parameters.rate → HeadsAfter l n free u us s) →
        late l.parameters.rate 700 (p ∷ (head_in xs ++ heads (units_placed l (end_slot l free u) us (own_slots l.own 0 n)))) ≡ []
    by [] e rest =
        let past = none_sent (packet_count l u) (first_slot l free u) (own_slots l.own 0 n) (count_some l u) e in
        let none = no_more l (end_slot l free u) us (own_slots l.own 0 n) (omega (arith, past)) in
        rw none refl
    by (s ∷ more) e rest =
        let here = timely_first l n free s u more e time.0 in
        let gap = gap_of l.parameters.rate l.parameters.lead before u.dts p s early here soon.0 in
        let short = short_gap l.parameters.rate 700 700 (s - p) gap (omega arith) in
        rw short (rest s (begins_released l n free s u more e))

heads_often : (l : OwnedStream) (n : ℕ) (us : List AccessUnit) → ComeOften l.parameters.lead us → TimelyFrom l n 0 us →
    late l.parameters.rate 700 (heads (units_placed l 0 us (own_slots l.own 0 n))) ≡ []
unfolding heads units_placed ComeOften Timely first_slot
heads_often l n [] often time = refl
heads_often l n (u ∷ us) often time =
    by (take (packet_count l u) (drop (first_slot l 0 u) (own_slots l.own 0 n))) refl
  where
    by : (xs : List ℕ) → take (packet_count l u) (drop (first_slot l 0 u) (own_slots l.own 0 n)) ≡ xs →
        late l.parameters.rate 700 (head_in xs ++ heads (units_placed l (end_slot l 0 u) us (own_slots l.own 0 n))) ≡ []
    by [] e =
        let past = none_sent (packet_count l u) (first_slot l 0 u) (own_slots l.own 0 n) (count_some l u) e in
        let none = no_more l (end_slot l 0 u) us (own_slots l.own 0 n) (omega (arith, past)) in
        rw none refl
    by (s ∷ more) e = heads_follow l n (end_slot l 0 u) s u.dts us (begins_released l n 0 s u more e) often time.1

-- Each PID

-- The findings of the whole stream on a PID determine whether its PTS are late.
by_reported : (rate pid : ℕ) (bytes places : List ℕ) → (pid == 8191) ≡ false → length bytes / 188 < 2 ^ 64 - 1 →
    reported_stamps (reported_on pid bytes) ≡ places →
    late rate 700 places ≡ [] → pts_late rate bytes pid ≡ []
by_reported rate pid bytes places reported few are none =
    ap (late rate 700) (sym (stamps_reported pid (found_on pid bytes)) ∙ ap reported_stamps (sym (as_reported pid bytes reported few)) ∙ are) ∙ none

all_carried : (l : OwnedStream) (us : List AccessUnit) → All IsCarried (map (timed l) us)
all_carried l [] = All-nil IsCarried
all_carried l (u ∷ us) =
    All-cons IsCarried (timed l u) (map (timed l) us) (omega (arith, text_some l u), omega (arith, field_most (has_access u))) (all_carried l us)

stream_in_time : (d : Scheduled) (units : ℕ → List AccessUnit) (n k : ℕ) (s : DescribedStream) → IsInRange d.description → Promised d.description d.schedule →
    UnitsKept d units → ComeOften s.lead (units k) → slice_get d.description.streams k ≡ Some s →
    late d.description.rate 700 (heads (sent_units (owned_stream d k s) n (units k))) ≡ []
stream_in_time d units n k s r promised kept often is =
    let texts = timed_pes_packets s.stream_id d.description.base0 (units k) in
    let own = kept.kept k s is in
    let keeps : KeepsDeclaration (declaration s) (timed_pes_packets s.stream_id d.description.base0 (units k)) =
    record { spaced = own.spaced; sized = own.sized; allowed = own.allowed } in
    let served = promised.streams k s texts is keeps in
    let range = stream_range d.description k s r is in
    heads_often (owned_stream d k s) n (units k) often
    (timely (owned d.schedule (StreamItem k)) d.description.rate s.lead s.rx n (omega (arith, range.least_rx)) texts 0 0
    (all_carried (owned_stream d k s) (units k)) (served.arrived n))

sent_in_time : (d : Scheduled) (units : ℕ → List AccessUnit) (n pid : ℕ) → IsInRange d.description → Promised d.description d.schedule → UnitsKept d units →
    HasPtsSpacing d units → n < 2 ^ 64 - 1 → (pid == 8191) ≡ false → length (run_bytes (content_at d units) 0 n) / 188 < 2 ^ 64 - 1 →
    IsSentOn d.description pid →
    pts_late d.description.rate (run_bytes (content_at d units) 0 n) pid ≡ []
sent_in_time d units n pid r promised kept steady few reported count (inl (k, s, is, same)) =
    let bytes : List ℕ = run_bytes (content_at d units) 0 n in
    let back = (given_back d units n r kept few).streams k s is in
    by_reported d.description.rate pid bytes (heads (sent_units (owned_stream d k s) n (units k))) reported count
    (ap (λ (q : ℕ). reported_stamps (reported_on q bytes)) (sym same) ∙ ap reported_stamps back ∙ stamps_reported s.pid _
    ∙ unit_heads s.stream_id d.description.base0 n (sent_units (owned_stream d k s) n (units k)))
    (stream_in_time d units n k s r promised kept (steady.streams k s is) is)
sent_in_time d units n pid r promised kept steady few reported count (inr (t, lt, same)) =
    let bytes : List ℕ = run_bytes (content_at d units) 0 n in
    let back = (given_back d units n r kept few).tables t lt (steady.tables t lt) in
    by_reported d.description.rate pid bytes [] reported count
    (ap (λ (q : ℕ). reported_stamps (reported_on q bytes)) (sym same) ∙ ap reported_stamps back ∙ stamps_reported (table_pid d.description t) _
    ∙ no_heads n (sent_sections (table_of d t) n))
    refl

pub stamps_in_time : (d : Scheduled) (units : ℕ → List AccessUnit) (n : ℕ) → IsInRange d.description → Promised d.description d.schedule → UnitsKept d units →
    HasPtsSpacing d units → n < 2 ^ 64 - 1 → (pid : ℕ) → pts_late d.description.rate (run_bytes (content_at d units) 0 n) pid ≡ []
stamps_in_time d units n r promised kept steady few pid = elim (cases_Bool (pid == 8191)) [
  | inl y ↦ ap (λ (b : Bool). late d.description.rate 700 (pts_begins (if b then [] else findings_to_end (length bytes / 188) (pid_list pid bytes)))) y
  | inr reported ↦ elim (sent_or_silent d.description pid) [
    | inl sent ↦ sent_in_time d units n pid r promised kept steady few reported less sent
    | inr none ↦
        let back = silent_back d units n pid (is_run d units n r kept few) reported none in
        by_reported d.description.rate pid bytes [] reported less (ap reported_stamps back) refl
  ]
]
  where
    bytes : List ℕ
    bytes = run_bytes (content_at d units) 0 n

    fits : Fits (content_at d units)
    fits = contents_fit d units r kept

    less : length bytes / 188 < 2 ^ 64 - 1
    less = let size : length bytes ≡ 188 * n = run_length (content_at d units) 0 n fits in omega (arith, size, few)
