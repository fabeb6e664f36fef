-- Two plans: the conditions on both imply the premises of the timing laws.
use Rattle.std.specs.Prelude.{ℕ, zero, suc, ◌+◌, ◌-◌, ◌*◌, ◌<◌, ◌≤◌, max, Bool, true, false, List, [], ◌∷◌, Some, length, slice_get, map}
use Rattle.std.proofs.Common.{◌≡◌, subst, inl, inr, arith}
use Rattle.std.proofs.lemmas.Bool.{cases_Bool, and_parts}
use Rattle.std.proofs.lemmas.Option.{slice_get_within}
use Rattle.clock27.specs.Recurrence.{Recur}
use Rattle.clock27.specs.Units.{slot_ms_at_1bps}
use Rattle.own_slots.specs.Slots.{AtLeastPerWindow, own_slots}
use Rattle.own_slots.specs.Period.{own, per_period, position, back}
use Rattle.own_slots.specs.Gaps.{gap}
use Rattle.own_slots.specs.Work.{work_left}
use Rattle.own_slots.specs.Rounds.{starts}
use Rattle.own_slots.specs.Switch.{joined, shift}
use Rattle.own_slots.proofs.Extremes.{at_most_greatest}
use Rattle.own_slots.proofs.SwitchLemmas.{switch_gap_law}
use Rattle.own_slots.proofs.Recurrence.{pcr_law, table_law}
use Rattle.unit_timing.specs.declared.framing.FrameDeclaration.{FrameDeclaration}
use Rattle.unit_timing.specs.declared.multiplexing_buffer.MultiplexingBuffer.{MultiplexingBuffer as LeakingBuffer}
use Rattle.unit_timing.specs.Buffers.{system_tb_drain, bsys_drain}
use Rattle.unit_timing.specs.Allowances.{allowance_rows}
use Rattle.unit_timing.specs.Plans.{StreamServed, ProgramServed}
use Rattle.unit_timing.specs.Conditions.{lead_across, time_given, bytes_across, share_of, StreamSwitchConditions, ProgramSwitchConditions}
use Rattle.unit_timing.specs.VideoPlans.{VideoSwitchConditions, VideoServed}
use Rattle.unit_timing.specs.AccessUnits.{FramedSwitchConditions, framed_across}
use Rattle.unit_timing.specs.EmptyBuffers.{StreamEmptied, VideoEmptied}
use Rattle.unit_timing.proofs.AccessUnitLemmas.{framed_law}
use Rattle.unit_timing.proofs.PlanLemmas.{stream_switch_law, program_switch_law}
use Rattle.unit_timing.proofs.VideoLemmas.{video_switch_law}
use Rattle.description_parts.specs.Described.{Described, DescribedStream}
use Rattle.description_parts.specs.Ranges.{IsInRange}
use Rattle.description_parts.specs.Tables.{table_kinds, table_limit, round_packets, clock_of}
use Rattle.slot_plan.specs.declared.slot.Item.TheVariants.{Stream, Pcr, Table, System}
use Rattle.slot_plan.specs.Planned.{Planned}
use Rattle.slot_plan.specs.Entries.{Entry}
use Rattle.slot_plan.specs.Items.{marks}
use Rattle.slot_plan.specs.declared.condition.Condition.TheVariants.{PcrSwitch, TableSwitch, WorkSwitch, LeadSwitch, MainSwitch, ElementarySwitch}
use Rattle.slot_plan.specs.Claims.{declaration, stream_claim, program_claim, stream_share, multiplexing_claim, elementary_declaration, elementary_share}
use Rattle.slot_plan.specs.Conditions.{entries_from, group_part}
use Rattle.slot_plan.specs.SwitchConditions.{gap_across, pcr_switch_entry, table_switch_entry, work_switch_entry, emptied_switch_entry, stream_work_entry}
use Rattle.slot_plan.specs.SwitchConditions.{stream_work_entries, stream_emptied_switch_entries, transport_work_entry, system_work_entry}
use Rattle.slot_plan.specs.SwitchConditions.{multiplexing_work_entries, lead_switch_entry, main_switch_entry, frame_switch_entry, frame_switch_entries}
use Rattle.slot_plan.specs.SwitchConditions.{elementary_switch_entry, elementary_switch_entries, owns_same, is_finer, continues, if_changed}
use Rattle.slot_plan.specs.EmptySlots.{EmptiesAcross}
use Rattle.slot_plan.specs.Schedule.{OwnedLaw, single, switched, owned}
use Rattle.slot_plan.specs.LeastGaps.{least_gap_across}
use Rattle.slot_plan.specs.SectionDistances.{places_apart, section_switch_entries}
use Rattle.slot_plan.specs.TableRounds.{first_packet, SectionsApart}
use Rattle.slot_plan.proofs.HeldConditions.{holds_both, holds_item, at_most_holds}
use Rattle.slot_plan.proofs.ConditionLists.{Hold, serves, FollowingConditions, follows}
use Rattle.slot_plan.proofs.ItemConditions.{holds_element, holds_count, holds_emptied_switch}
use Rattle.slot_plan.specs.Promised.{leak_of, Promised, SwitchLaw}
use Rattle.slot_plan.specs.FramesServed.{FramesServed}
use Rattle.slot_plan.proofs.OnePlan.{length_marks, proper, proper_leak, claim_of, leak_claim_of, program_claim_of, stream_holds, video_holds}
use Rattle.slot_plan.proofs.OnePlan.{emptied_holds, leak_emptied_holds, lead_short, program_holds, pcr_gap_holds, table_gap_holds, first_packet_below}
use Rattle.slot_plan.proofs.OnePlan.{section_distance_holds, plan_law}
use Rattle.slot_plan.proofs.OwnSlotsInTurn.{owned_over, owned_on}
use Rattle.slot_plan.proofs.EmptyPlans.{stream_switch_empties, video_switch_empties}
use Rattle.slot_plan.proofs.Waiting.{waits_law}
use Rattle.slot_plan.proofs.SectionsApart.{apart_over_plans, distance_holds}

lead_joins : (d : Described) (first second : Planned) (i : ℕ) (s : DescribedStream) →
    Hold (entries_from (lead_switch_entry d first second i s) 1 (allowance_rows s.allowance)) →
    (m : ℕ) → 0 < m → m ≤ allowance_rows s.allowance →
    lead_across (declaration s) (stream_share first i) (stream_share second i) (shift (marks (Stream i) first.slots) (marks (Stream i) second.slots)) m
    ≤ time_given d.rate (declaration s) ((stream_share first i).count * (stream_share second i).count) m
lead_joins d first second i s hold m some below =
    let e : 1 + (m - 1) ≡ m = omega arith in
    at_most_holds LeadSwitch (group_part s m) i
    (lead_across (declaration s) (stream_share first i) (stream_share second i) (shift (marks (Stream i) first.slots) (marks (Stream i) second.slots)) m)
    (time_given d.rate (declaration s) ((stream_share first i).count * (stream_share second i).count) m)
    (rw e at (holds_count (lead_switch_entry d first second i s) 1 (allowance_rows s.allowance) (m - 1) (omega arith) hold))

-- The conditions on the main buffer hold across the switch, for whole units and for access units that the decoder removes one by one.
mains_join : (d : Described) (first second : Planned) (i : ℕ) (s : DescribedStream) → FollowingConditions d first second → slice_get d.streams i ≡ Some s →
    continues d first second i ≡ false →
    Hold (main_switch_entry d first second i s ∷ []) × Hold (frame_switch_entries d first second i s s.framing)
mains_join d first second i s follows is changed = holds_both (main_switch_entry d first second i s ∷ []) (frame_switch_entries d first second i s s.framing)
    (rw changed at
    (holds_element (λ j t. if_changed d first second j (main_switch_entry d first second j t ∷ frame_switch_entries d first second j t t.framing))
    d.streams i s follows.main_buffers is))

-- The conditions on the transport and the multiplexing buffer hold across the switch: on their work, and that they are empty at least once a
-- second.
works_join : (d : Described) (first second : Planned) (i : ℕ) (s : DescribedStream) → FollowingConditions d first second → slice_get d.streams i ≡ Some s →
    Hold (stream_work_entry d first second i s ∷ []) × Hold (stream_emptied_switch_entries d first second i s s.multiplexing)
works_join d first second i s follows is =
    holds_both (stream_work_entry d first second i s ∷ []) (stream_emptied_switch_entries d first second i s s.multiplexing)
    (holds_element (stream_work_entries d first second) d.streams i s follows.stream_works is)

abbrev leak_work_entry : (d : Described) (first second : Planned) (i : ℕ) (b : LeakingBuffer) → Entry
leak_work_entry d first second i b = work_switch_entry (length d.streams + 2 * length d.programs + i) d.rate b.rbx (multiplexing_claim first i).start
    (marks (Stream i) first.slots) (multiplexing_claim second i).start

abbrev leak_emptied_entry : (d : Described) (first second : Planned) (i : ℕ) (b : LeakingBuffer) → Entry
leak_emptied_entry d first second i b = emptied_switch_entry (length d.streams + 2 * length d.programs + i) d.rate b.rbx (multiplexing_claim first i).start
    (marks (Stream i) first.slots) (multiplexing_claim second i).start (marks (Stream i) second.slots)

leak_works_join : (d : Described) (first second : Planned) (i : ℕ) (s : DescribedStream) (b : LeakingBuffer) → FollowingConditions d first second →
    slice_get d.streams i ≡ Some s → s.multiplexing ≡ Some b →
    Hold (leak_work_entry d first second i b ∷ []) × Hold (leak_emptied_entry d first second i b ∷ [])
leak_works_join d first second i s b follows is some = holds_both (leak_work_entry d first second i b ∷ []) (leak_emptied_entry d first second i b ∷ [])
    (rw some at (holds_element (λ j t. multiplexing_work_entries d first second j t.multiplexing) d.streams i s follows.multiplexing_works is))

emptied_joins : (d : Described) (first second : Planned) (i : ℕ) (s : DescribedStream) (b : LeakingBuffer) → FollowingConditions d first second →
    slice_get d.streams i ≡ Some s → s.multiplexing ≡ Some b →
    EmptiesAcross d.rate s.rx (stream_claim first i).start (marks (Stream i) first.slots) (stream_claim second i).start (marks (Stream i) second.slots)
emptied_joins d first second i s b follows is some =
    holds_emptied_switch i d.rate s.rx (stream_claim first i).start (marks (Stream i) first.slots) (stream_claim second i).start (marks (Stream i) second.slots)
    (rw some at (works_join d first second i s follows is).1)

leak_emptied_joins : (d : Described) (first second : Planned) (i : ℕ) (s : DescribedStream) (b : LeakingBuffer) → FollowingConditions d first second →
    slice_get d.streams i ≡ Some s → s.multiplexing ≡ Some b →
    EmptiesAcross d.rate b.rbx (multiplexing_claim first i).start (marks (Stream i) first.slots) (multiplexing_claim second i).start
    (marks (Stream i) second.slots)
leak_emptied_joins d first second i s b follows is some =
    holds_emptied_switch (length d.streams + 2 * length d.programs + i) d.rate b.rbx (multiplexing_claim first i).start (marks (Stream i) first.slots)
    (multiplexing_claim second i).start (marks (Stream i) second.slots) (leak_works_join d first second i s b follows is some).1

stream_joins : (d : Described) (first second : Planned) (i : ℕ) (s : DescribedStream) → FollowingConditions d first second → slice_get d.streams i ≡ Some s →
    continues d first second i ≡ false →
    StreamSwitchConditions d.rate (declaration s) (claim_of first i) (marks (Stream i) first.slots) (claim_of second i) (marks (Stream i) second.slots)
stream_joins d first second i s follows is changed =
    let lead = lead_joins d first second i s (rw changed at
    (holds_element (λ k t. if_changed d first second k (entries_from (lead_switch_entry d first second k t) 1 (allowance_rows t.allowance))) d.streams i s
    follows.leads is)) in
    let main = at_most_holds MainSwitch 0 i (bytes_across d.rate (declaration s) (stream_share first i) (stream_share second i)) s.main
    (mains_join d first second i s follows is changed).0 in
    record {
      work = at_most_holds WorkSwitch 0 i (work_left d.rate s.rx (stream_claim first i).start (marks (Stream i) first.slots)) (stream_claim second i).start
          (works_join d first second i s follows is).0;
      lead_serves = λ m some below.
          let shorter = rw (length_marks (Stream i) first.slots, length_marks (Stream i) second.slots) at (lead m some below) in
          rw (length_marks (Stream i) first.slots, length_marks (Stream i) second.slots) shorter;
      main_fits = rw (length_marks (Stream i) first.slots, length_marks (Stream i) second.slots) main;
    }

frame_joins : (d : Described) (first second : Planned) (i : ℕ) (s : DescribedStream) (f : FrameDeclaration) → FollowingConditions d first second →
    slice_get d.streams i ≡ Some s → continues d first second i ≡ false → s.framing ≡ Some f → (k : ℕ) → 0 < k → k < f.frames →
    framed_across d.rate (declaration s) f (stream_share first i) (stream_share second i) (f.frames - k) ≤ s.main
frame_joins d first second i s f follows is changed some k one below =
    let e : 1 + (k - 1) ≡ k = omega arith in
    let all : Hold (entries_from (frame_switch_entry d first second i s f) 1 (f.frames - 1)) =
    rw some at (mains_join d first second i s follows is changed).1 in
    at_most_holds MainSwitch k i
    (framed_across d.rate (declaration s) f (stream_share first i) (stream_share second i) (f.frames - k)) s.main
    (rw e at (holds_count (frame_switch_entry d first second i s f) 1 (f.frames - 1) (k - 1) (omega arith) all))

frames_join : (d : Described) (first second : Planned) (i : ℕ) (s : DescribedStream) (f : FrameDeclaration) → FollowingConditions d first second →
    slice_get d.streams i ≡ Some s → continues d first second i ≡ false → s.framing ≡ Some f →
    FramedSwitchConditions d.rate (declaration s) f (share_of (claim_of first i) (marks (Stream i) first.slots))
    (share_of (claim_of second i) (marks (Stream i) second.slots))
frames_join d first second i s f follows is changed some = λ j one below.
    let e : f.frames - (f.frames - j) ≡ j = omega (arith, below) in
    let held = frame_joins d first second i s f follows is changed some (f.frames - j) (omega (arith, below)) (omega (arith, one, below)) in
    rw (length_marks (Stream i) first.slots, length_marks (Stream i) second.slots) (rw e at held)

elementary_joins : (d : Described) (first second : Planned) (i : ℕ) (s : DescribedStream) (b : LeakingBuffer) → FollowingConditions d first second →
    slice_get d.streams i ≡ Some s → continues d first second i ≡ false → s.multiplexing ≡ Some b → (m : ℕ) → 0 < m → m ≤ allowance_rows s.allowance →
    lead_across (elementary_declaration s b) (elementary_share d.rate first i) (elementary_share d.rate second i)
    (shift (marks (Stream i) first.slots) (marks (Stream i) second.slots)) m
    ≤ time_given d.rate (elementary_declaration s b) ((elementary_share d.rate first i).count * (elementary_share d.rate second i).count) m
elementary_joins d first second i s b follows is changed some m one below =
    let e : 1 + (m - 1) ≡ m = omega arith in
    let all : Hold (entries_from (elementary_switch_entry d first second i s b) 1 (allowance_rows s.allowance)) =
    rw some at (rw changed at
    (holds_element (λ k t. if_changed d first second k (elementary_switch_entries d first second k t t.multiplexing)) d.streams i s follows.elementary_leads
    is)) in
    at_most_holds ElementarySwitch (group_part s m) i
    (lead_across (elementary_declaration s b) (elementary_share d.rate first i) (elementary_share d.rate second i)
    (shift (marks (Stream i) first.slots) (marks (Stream i) second.slots)) m)
    (time_given d.rate (elementary_declaration s b) ((elementary_share d.rate first i).count * (elementary_share d.rate second i).count) m)
    (rw e at (holds_count (elementary_switch_entry d first second i s b) 1 (allowance_rows s.allowance) (m - 1) (omega arith) all))

video_joins : (d : Described) (first second : Planned) (i : ℕ) (s : DescribedStream) (b : LeakingBuffer) → FollowingConditions d first second →
    slice_get d.streams i ≡ Some s → continues d first second i ≡ false → s.multiplexing ≡ Some b →
    VideoSwitchConditions d.rate (declaration s) (leak_of b) (claim_of first i) (leak_claim_of first i) (marks (Stream i) first.slots)
    (claim_of second i) (leak_claim_of second i) (marks (Stream i) second.slots)
video_joins d first second i s b follows is changed some = let joins = stream_joins d first second i s follows is changed in record {
  transport = joins.work;
  multiplexing = at_most_holds WorkSwitch 0 (length d.streams + 2 * length d.programs + i)
      (work_left d.rate b.rbx (multiplexing_claim first i).start (marks (Stream i) first.slots)) (multiplexing_claim second i).start
      (leak_works_join d first second i s b follows is some).0;
  lead_serves = λ m one below.
      let shorter =
      rw (length_marks (Stream i) first.slots, length_marks (Stream i) second.slots) at
      (elementary_joins d first second i s b follows is changed some m one below) in
      rw (length_marks (Stream i) first.slots, length_marks (Stream i) second.slots) shorter;
  elementary_fits = joins.main_fits;
}

program_joins : (d : Described) (first second : Planned) (i : ℕ) → FollowingConditions d first second → i < length d.programs →
    ProgramSwitchConditions d.rate (program_claim_of first i) (marks (System i) first.slots) (program_claim_of second i)
program_joins d first second i follows lt = let claim = program_claim first i in let next = program_claim second i in record {
  transport = at_most_holds WorkSwitch 0 (length d.streams + i) (work_left d.rate system_tb_drain claim.transport_start (marks (System i) first.slots))
      next.transport_start
      (holds_item (λ j. transport_work_entry d first second j ∷ []) d.programs i follows.transport_works lt);
  system = at_most_holds WorkSwitch 0 (length d.streams + length d.programs + i) (work_left d.rate bsys_drain claim.system_start (marks (System i) first.slots))
      next.system_start
      (holds_item (λ j. system_work_entry d first second j ∷ []) d.programs i follows.system_works lt);
}

-- Gaps across the switch

within_limit : (a b c limit : ℕ) → a * slot_ms_at_1bps ≤ limit → b * slot_ms_at_1bps ≤ limit → c * slot_ms_at_1bps ≤ limit →
    max a (max b c) * slot_ms_at_1bps ≤ limit
within_limit a b c limit f g h = omega arith

gap_below : (first second : List Bool) (k x : ℕ) → 1 ≤ x → x ≤ k → position second (k - x) + back first x ≤ gap_across first second k
gap_below first second k zero low high = absurd (omega arith)
gap_below first second k (suc x) low high = at_most_greatest k (λ y. position second (k - suc y) + back first (suc y)) x (omega arith)

gaps_join : (first second : List Bool) (periods k : ℕ) → 0 < per_period first → 0 < per_period second →
    AtLeastPerWindow (joined (own first) (own second) (periods * length first)) (max (gap first k) (max (gap second k) (gap_across first second k))) k
gaps_join first second periods k some next_some =
    switch_gap_law first second periods k (max (gap first k) (max (gap second k) (gap_across first second k))) some next_some (omega arith) (omega arith)
    (λ x low high. omega (arith, gap_below first second k x low high))

-- The promises

pub switch_law : OwnedLaw → SwitchLaw
switch_law law d first second periods ranges serving switchable =
    let k = serves d first serving in
    let f = follows d first second switchable in
    let alone : Promised d (single first.slots) = plan_law law d first ranges serving in
    let on : (i : ℕ) → continues d first second i ≡ true →
    owned (single first.slots) (Stream i) ≡ owned (switched first.slots periods second.slots) (Stream i) =
    λ i same. owned_on law first.slots second.slots periods (Stream i) (and_parts (is_finer d) (owns_same (Stream i) first.slots second.slots) same).1 in
    record {
      streams = λ i s units is keeps. elim (cases_Bool (continues d first second i)) [
        | inl same ↦ subst (λ (o : ℕ → Bool). StreamServed o d.rate (declaration s) units) (on i same) (alone.streams i s units is keeps)
        | inr changed ↦ subst (λ (o : ℕ → Bool). StreamServed o d.rate (declaration s) units) (owned_over law first.slots second.slots periods (Stream i))
            (stream_switch_law d.rate (declaration s) (claim_of first i) (marks (Stream i) first.slots) (claim_of second i) (marks (Stream i) second.slots)
            periods units
            (proper d i s ranges is) (stream_holds d first i s k is) (stream_holds d second i s f.serves is) (stream_joins d first second i s f is changed)
            keeps)
      ];
      videos = λ i s b units is some keeps. elim (cases_Bool (continues d first second i)) [
        | inl same ↦ subst (λ (o : ℕ → Bool). VideoServed o d.rate (declaration s) (leak_of b) units) (on i same) (alone.videos i s b units is some keeps)
        | inr changed ↦ subst (λ (o : ℕ → Bool). VideoServed o d.rate (declaration s) (leak_of b) units)
            (owned_over law first.slots second.slots periods (Stream i))
            (video_switch_law d.rate (declaration s) (leak_of b) (claim_of first i) (leak_claim_of first i) (marks (Stream i) first.slots)
            (claim_of second i) (leak_claim_of second i) (marks (Stream i) second.slots) periods units
            (proper d i s ranges is) (proper_leak d i s b ranges is some) (video_holds d first i s b k is some) (video_holds d second i s b f.serves is some)
            (video_joins d first second i s b f is changed some) keeps)
      ];
      emptied = λ i s b units is some. elim (cases_Bool (continues d first second i)) [
        | inl same ↦ (
          subst (λ (o : ℕ → Bool). StreamEmptied o d.rate (declaration s) units) (on i same) (alone.emptied i s b units is some).0,
          subst (λ (o : ℕ → Bool). VideoEmptied o d.rate (declaration s) (leak_of b) units) (on i same) (alone.emptied i s b units is some).1,
        )
        | inr changed ↦ (
          subst (λ (o : ℕ → Bool). StreamEmptied o d.rate (declaration s) units) (owned_over law first.slots second.slots periods (Stream i))
              (stream_switch_empties d.rate (declaration s) (claim_of first i) (marks (Stream i) first.slots) (claim_of second i)
              (marks (Stream i) second.slots) periods units
              (proper d i s ranges is) (stream_holds d first i s k is) (stream_holds d second i s f.serves is) (stream_joins d first second i s f is changed)
              (emptied_holds d first i s b k is some) (emptied_holds d second i s b f.serves is some) (emptied_joins d first second i s b f is some)),
          subst (λ (o : ℕ → Bool). VideoEmptied o d.rate (declaration s) (leak_of b) units) (owned_over law first.slots second.slots periods (Stream i))
              (video_switch_empties d.rate (declaration s) (leak_of b) (claim_of first i) (leak_claim_of first i) (marks (Stream i) first.slots)
              (claim_of second i) (leak_claim_of second i) (marks (Stream i) second.slots) periods units
              (proper d i s ranges is) (proper_leak d i s b ranges is some) (video_holds d first i s b k is some) (video_holds d second i s b f.serves is some)
              (video_joins d first second i s b f is changed some) (leak_emptied_holds d first i s b k is some)
              (leak_emptied_holds d second i s b f.serves is some)
              (leak_emptied_joins d first second i s b f is some)),
        )
      ];
      waits = λ i s units n is. waits_law (owned (switched first.slots periods second.slots) (Stream i)) d.rate s.lead s.rx n units
          (lead_short d i s ranges is);
      frames = λ i s g packets is some cut follows keeps. elim (cases_Bool (continues d first second i)) [
        | inl same ↦ subst (λ (o : ℕ → Bool). FramesServed o d.rate (declaration s) g packets) (on i same) (alone.frames i s g packets is some cut follows keeps)
        | inr changed ↦ subst (λ (o : ℕ → Bool). FramesServed o d.rate (declaration s) g packets) (owned_over law first.slots second.slots periods (Stream i))
            (λ n x left late. framed_law.two_plans d.rate (declaration s) g (claim_of first i) (marks (Stream i) first.slots)
            (claim_of second i) (marks (Stream i) second.slots) periods packets n x left
            (proper d i s ranges is) (stream_holds d first i s k is) (stream_holds d second i s f.serves is) (stream_joins d first second i s f is changed)
            (frames_join d first second i s g f is changed some) cut follows keeps late)
      ];
      programs = λ i lt. subst (λ (o : ℕ → Bool). ProgramServed o d.rate) (owned_over law first.slots second.slots periods (System i))
          (program_switch_law d.rate (program_claim_of first i) (marks (System i) first.slots) (program_claim_of second i) (marks (System i) second.slots)
          periods
          (omega (arith, ranges.least_rate)) (omega (arith, length_marks (System i) first.slots, k.shape.some_slots))
          (omega (arith, length_marks (System i) second.slots, f.serves.shape.some_slots))
          (program_holds d first i k lt) (program_holds d second i f.serves lt) (program_joins d first second i f lt));
      pcrs = λ i program slots is. let clock = Pcr (clock_of d i) in let a = marks clock first.slots in let b = marks clock second.slots in
          let lt : i < length d.programs = slice_get_within d.programs i program is in
          let across = at_most_holds PcrSwitch 0 i (gap_across a b 1 * slot_ms_at_1bps) (program.pcr_limit * d.rate)
          (holds_element (λ j q. pcr_switch_entry d first second j q ∷ []) d.programs i program f.pcrs is) in
          subst (λ (o : ℕ → Bool). Recur d.rate program.pcr_limit 0 (map (λ s. 188 * s + 10) (own_slots o 0 slots)) (188 * slots))
          (owned_over law first.slots second.slots periods clock)
          (pcr_law (joined (own a) (own b) (periods * length a)) (max (gap a 1) (max (gap b 1) (gap_across a b 1))) d.rate program.pcr_limit slots
          (gaps_join a b periods 1 (k.shape.programs_own i lt) (f.serves.shape.programs_own i lt))
          (within_limit (gap a 1) (gap b 1) (gap_across a b 1) (program.pcr_limit * d.rate)
          (pcr_gap_holds d first i program k is) (pcr_gap_holds d second i program f.serves is) across));
      sections = λ t j slots lt within. let a = marks (Table t) first.slots in let b = marks (Table t) second.slots in let places = round_packets d t in
          let across = at_most_holds TableSwitch 0 t (gap_across a b places * slot_ms_at_1bps) (table_limit d t * d.rate)
          (holds_item (λ j. table_switch_entry d first second j ∷ []) (table_kinds d) t f.tables lt) in
          subst (λ (o : ℕ → Bool). Recur d.rate (table_limit d t) 0 (map (λ s. 188 * s) (own_slots (starts o places (first_packet d t j)) 0 slots))
          (188 * slots))
          (owned_over law first.slots second.slots periods (Table t))
          (table_law (joined (own a) (own b) (periods * length a)) places (first_packet d t j) (max (gap a places) (max (gap b places) (gap_across a b places)))
          d.rate (table_limit d t) slots (first_packet_below d t j within)
          (gaps_join a b periods places (k.shape.tables_own t lt) (f.serves.shape.tables_own t lt))
          (within_limit (gap a places) (gap b places) (gap_across a b places) (table_limit d t * d.rate)
          (table_gap_holds d first t k lt) (table_gap_holds d second t f.serves lt) across));
      sections_apart = λ t lt spaced. let a = marks (Table t) first.slots in let b = marks (Table t) second.slots in
          subst (λ (o : ℕ → Bool). SectionsApart d t o) (owned_over law first.slots second.slots periods (Table t))
          (apart_over_plans d t a b periods (k.shape.tables_own t lt) (f.serves.shape.tables_own t lt) spaced (section_distance_holds d first t k lt spaced)
          (section_distance_holds d second t f.serves lt spaced)
          (distance_holds 1 d t (least_gap_across a b (places_apart d t)) spaced
          (holds_item (section_switch_entries d first second) (table_kinds d) t f.sections lt)));
    }
