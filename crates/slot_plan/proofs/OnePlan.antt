-- One plan: the conditions on the plan imply the premises of the timing laws.
use Rattle.std.specs.Prelude.{ℕ, ◌+◌, ◌-◌, ◌*◌, ◌<◌, ◌≤◌, Bool, true, List, [], ◌∷◌, Some, length, slice_get, get_or, sum_by, take, map}
use Rattle.std.proofs.Common.{◌≡◌, sym, subst, arith}
use Rattle.std.proofs.lemmas.List.{length-map}
use Rattle.std.proofs.lemmas.List.Elements.{All-get_or, All-head}
use Rattle.std.proofs.lemmas.List.Sums.{sum_by_more_le}
use Rattle.std.proofs.lemmas.Option.{get_or_from_slice_get, slice_get_within}
use Rattle.clock27.specs.Recurrence.{Recur}
use Rattle.clock27.specs.Units.{slot_ms_at_1bps}
use Rattle.own_slots.specs.Slots.{own_slots}
use Rattle.own_slots.specs.Work.{HoldsWork}
use Rattle.own_slots.specs.Period.{own}
use Rattle.own_slots.specs.Gaps.{gap}
use Rattle.own_slots.specs.Spread.{spread}
use Rattle.own_slots.specs.Rounds.{starts}
use Rattle.own_slots.proofs.Gaps.{gap_law}
use Rattle.own_slots.proofs.Recurrence.{pcr_law, table_law}
use Rattle.unit_timing.specs.declared.framing.FrameDeclaration.{FrameDeclaration}
use Rattle.unit_timing.specs.declared.multiplexing_buffer.MultiplexingBuffer.{MultiplexingBuffer as LeakingBuffer}
use Rattle.unit_timing.specs.Buffers.{tb_size, system_tb_drain, bsys_size, bsys_drain}
use Rattle.unit_timing.specs.Allowances.{allowance_rows}
use Rattle.unit_timing.specs.Plans.{StreamServed, ProgramServed}
use Rattle.unit_timing.specs.Conditions.{IsProper, StreamClaim, ProgramClaim, rate_needed, rate_given, lead_needed, time_given, bytes_waiting, share_of}
use Rattle.unit_timing.specs.Conditions.{StreamConditions, ProgramConditions}
use Rattle.unit_timing.specs.AccessUnits.{FramedConditions, framed_waiting}
use Rattle.unit_timing.specs.VideoPlans.{LeakClaim, IsProperLeak, VideoConditions, VideoServed}
use Rattle.unit_timing.specs.EmptyBuffers.{StreamEmptied, VideoEmptied}
use Rattle.unit_timing.proofs.PlanLemmas.{stream_law, program_law}
use Rattle.unit_timing.proofs.AccessUnitLemmas.{framed_law}
use Rattle.unit_timing.proofs.VideoLemmas.{video_law}
use Rattle.description_parts.specs.Described.{Described, DescribedProgram, DescribedStream}
use Rattle.description_parts.specs.Ranges.{IsInRange, IsMultiplexingBuffer, IsStream}
use Rattle.description_parts.specs.Tables.{table_kinds, table_count, table_limit, round_packets, section_count, section_lengths, packets_of_section, clock_of}
use Rattle.description.proofs.Allowed.{rows_some}
use Rattle.slot_plan.specs.declared.slot.Slot.{Slot}
use Rattle.slot_plan.specs.declared.slot.Item.{Item}
use Rattle.slot_plan.specs.declared.slot.Item.TheVariants.{Stream, Pcr, Table, System}
use Rattle.slot_plan.specs.Planned.{Planned}
use Rattle.slot_plan.specs.Items.{is_own, marks}
use Rattle.slot_plan.specs.declared.condition.Condition.TheVariants.{PcrGap, TableGap, Spread, StreamRate, TransportBuffer, StreamLead, MainBuffer}
use Rattle.slot_plan.specs.declared.condition.Condition.TheVariants.{SystemBuffer, MultiplexingBuffer, ElementaryLead}
use Rattle.slot_plan.specs.Claims.{declaration, stream_claim, program_claim, stream_share, multiplexing_claim, elementary_declaration, elementary_share}
use Rattle.slot_plan.specs.Conditions.{buffer_entries, emptied_entries, entries_from, group_part, pcr_gap_entry, table_gap_entry, spread_entry}
use Rattle.slot_plan.specs.Conditions.{stream_rate_entry, stream_buffer_entries, stream_emptied_entries, transport_buffer_entries, stream_lead_entry}
use Rattle.slot_plan.specs.Conditions.{main_buffer_entry, frame_entry, frame_entries, system_buffer_entries, multiplexing_buffer_entries, elementary_lead_entry}
use Rattle.slot_plan.specs.Conditions.{elementary_lead_entries}
use Rattle.slot_plan.specs.EmptySlots.{EmptiesEachSecond}
use Rattle.slot_plan.specs.Schedule.{OwnedLaw, single, owned}
use Rattle.slot_plan.specs.LeastGaps.{least_gap}
use Rattle.slot_plan.specs.SectionDistances.{is_spaced, places_apart, section_distance_entries}
use Rattle.slot_plan.specs.TableRounds.{first_packet, SectionsApart}
use Rattle.slot_plan.proofs.HeldConditions.{holds_both, holds_item, at_most_holds}
use Rattle.slot_plan.proofs.ConditionLists.{Hold, ServingConditions, serves}
use Rattle.slot_plan.proofs.ItemConditions.{holds_element, holds_count, holds_work, holds_emptied}
use Rattle.slot_plan.specs.Promised.{leak_of, PlanLaw}
use Rattle.slot_plan.specs.FramesServed.{FramesServed}
use Rattle.slot_plan.proofs.EmptyPlans.{stream_empties, video_empties}
use Rattle.slot_plan.proofs.Waiting.{waits_law}
use Rattle.slot_plan.proofs.SectionsApart.{apart_in_plan, distance_holds}

pub length_marks : (item : Item) (slots : List Slot) → length (marks item slots) ≡ length slots
length_marks item slots = length-map slots (is_own item)

-- The numbers of a stream are in their ranges.
stream_ranges : (d : Described) (i : ℕ) (s : DescribedStream) → IsInRange d → slice_get d.streams i ≡ Some s → IsStream s
stream_ranges d i s ranges is =
    rw (get_or_from_slice_get d.streams i s s is) at (All-get_or IsStream d.streams i s (slice_get_within d.streams i s is) ranges.streams)

pub proper : (d : Described) (i : ℕ) (s : DescribedStream) → IsInRange d → slice_get d.streams i ≡ Some s → IsProper d.rate (declaration s)
proper d i s ranges is = let r = stream_ranges d i s ranges is in record {
  some_rate = omega (arith, ranges.least_rate);
  some_interval = omega (arith, r.some_interval);
  some_lead = omega (arith, r.some_lead);
  some_drain = omega (arith, r.least_rx);
  some_rows = omega (arith, rows_some s r);
}

-- A stream may be sent at most a second ahead.
pub lead_short : (d : Described) (i : ℕ) (s : DescribedStream) → IsInRange d → slice_get d.streams i ≡ Some s → s.lead ≤ 90000
lead_short d i s ranges is = (stream_ranges d i s ranges is).most_lead

-- The slots of a stream

-- The claims of a plan about a stream, and about the slots of a program's tables
abbrev pub claim_of : Planned → ℕ → StreamClaim
claim_of p i = let claim = stream_claim p i in record { spread = claim.spread; start = claim.start; peak = claim.peak }

abbrev pub leak_claim_of : Planned → ℕ → LeakClaim
leak_claim_of p i = let claim = multiplexing_claim p i in record { start = claim.start; peak = claim.peak }

abbrev pub program_claim_of : Planned → ℕ → ProgramClaim
program_claim_of p i = let claim = program_claim p i in record {
  transport_start = claim.transport_start;
  transport_peak = claim.transport_peak;
  system_start = claim.system_start;
  system_peak = claim.system_peak;
}

lead_holds : (d : Described) (p : Planned) (i : ℕ) (s : DescribedStream) → Hold (entries_from (stream_lead_entry d p i s) 1 (allowance_rows s.allowance)) →
    (m : ℕ) → 0 < m → m ≤ allowance_rows s.allowance →
    lead_needed (declaration s) (stream_share p i) m ≤ time_given d.rate (declaration s) (stream_share p i).count m
lead_holds d p i s hold m some below =
    let e : 1 + (m - 1) ≡ m = omega arith in
    at_most_holds StreamLead (group_part s m) i (lead_needed (declaration s) (stream_share p i) m)
    (time_given d.rate (declaration s) (stream_share p i).count m)
    (rw e at (holds_count (stream_lead_entry d p i s) 1 (allowance_rows s.allowance) (m - 1) (omega arith) hold))

-- The conditions on the main buffer hold, for whole units and for access units that the decoder removes one by one.
mains_hold : (d : Described) (p : Planned) (i : ℕ) (s : DescribedStream) → ServingConditions d p → slice_get d.streams i ≡ Some s →
    Hold (main_buffer_entry d p i s ∷ []) × Hold (frame_entries d p i s s.framing)
mains_hold d p i s serves is = holds_both (main_buffer_entry d p i s ∷ []) (frame_entries d p i s s.framing)
    (holds_element (λ j t. main_buffer_entry d p j t ∷ frame_entries d p j t t.framing) d.streams i s serves.main_buffers is)

-- The conditions on the transport buffer hold: it has room, and it is empty at least once a second if a multiplexing buffer follows.
buffers_hold : (d : Described) (p : Planned) (i : ℕ) (s : DescribedStream) → ServingConditions d p → slice_get d.streams i ≡ Some s →
    Hold (buffer_entries TransportBuffer i d.rate s.rx tb_size (stream_claim p i).start (stream_claim p i).peak (marks (Stream i) p.slots))
    × Hold (stream_emptied_entries d p i s s.multiplexing)
buffers_hold d p i s serves is = let claim = stream_claim p i in
    holds_both (buffer_entries TransportBuffer i d.rate s.rx tb_size claim.start claim.peak (marks (Stream i) p.slots))
    (stream_emptied_entries d p i s s.multiplexing)
    (holds_element (stream_buffer_entries d p) d.streams i s serves.stream_buffers is)

pub stream_holds : (d : Described) (p : Planned) (i : ℕ) (s : DescribedStream) → ServingConditions d p → slice_get d.streams i ≡ Some s →
    StreamConditions d.rate (declaration s) (claim_of p i) (marks (Stream i) p.slots)
stream_holds d p i s serves is =
    let lt : i < length d.streams = slice_get_within d.streams i s is in
    let own = stream_share p i in let claim = stream_claim p i in
    let rate = at_most_holds StreamRate 0 i (rate_needed (declaration s) own) (rate_given d.rate (declaration s) own)
    (holds_element (λ j t. stream_rate_entry d p j t ∷ []) d.streams i s serves.rates is) in
    let main = at_most_holds MainBuffer 0 i (bytes_waiting d.rate (declaration s) own) s.main
    (mains_hold d p i s serves is).0 in
    let lead = lead_holds d p i s
    (holds_element (λ k t. entries_from (stream_lead_entry d p k t) 1 (allowance_rows t.allowance)) d.streams i s serves.leads is) in
    record {
      owned = serves.shape.streams_own i lt;
      spread_claimed =
          at_most_holds Spread 0 i (spread (marks (Stream i) p.slots)) claim.spread (holds_item (λ j. spread_entry p j ∷ []) d.streams i serves.spreads lt);
      rate_serves = rw (length_marks (Stream i) p.slots) rate;
      work = holds_work TransportBuffer i d.rate s.rx tb_size claim.start claim.peak (marks (Stream i) p.slots)
          (buffers_hold d p i s serves is).0;
      lead_serves = λ m some below. rw (length_marks (Stream i) p.slots) (lead m some below);
      main_fits = rw (length_marks (Stream i) p.slots) main;
    }

-- The conditions on access units hold, if the decoder removes them one by one.
frame_holds : (d : Described) (p : Planned) (i : ℕ) (s : DescribedStream) (f : FrameDeclaration) → ServingConditions d p → slice_get d.streams i ≡ Some s →
    s.framing ≡ Some f →
    (k : ℕ) → 0 < k → k < f.frames → framed_waiting d.rate (declaration s) f (stream_share p i) (f.frames - k) ≤ s.main
frame_holds d p i s f serves is some k one below =
    let e : 1 + (k - 1) ≡ k = omega arith in
    let all : Hold (entries_from (frame_entry d p i s f) 1 (f.frames - 1)) = rw some at (mains_hold d p i s serves is).1 in
    at_most_holds MainBuffer k i (framed_waiting d.rate (declaration s) f (stream_share p i) (f.frames - k)) s.main
    (rw e at (holds_count (frame_entry d p i s f) 1 (f.frames - 1) (k - 1) (omega arith) all))

-- When j access units are left, the others of a unit of most access units have been removed.
pub frames_hold : (d : Described) (p : Planned) (i : ℕ) (s : DescribedStream) (f : FrameDeclaration) → ServingConditions d p → slice_get d.streams i ≡ Some s →
    s.framing ≡ Some f → FramedConditions d.rate (declaration s) f (share_of (claim_of p i) (marks (Stream i) p.slots))
frames_hold d p i s f serves is some = λ j one below.
    let e : f.frames - (f.frames - j) ≡ j = omega (arith, below) in
    let held = frame_holds d p i s f serves is some (f.frames - j) (omega (arith, below)) (omega (arith, one, below)) in
    rw (length_marks (Stream i) p.slots) (rw e at held)

-- The conditions on the multiplexing buffer hold, if the stream has one: it has room, and it is empty at least once a second.
leak_buffers_hold : (d : Described) (p : Planned) (i : ℕ) (s : DescribedStream) (b : LeakingBuffer) → ServingConditions d p → slice_get d.streams i ≡ Some s →
    s.multiplexing ≡ Some b →
    Hold (buffer_entries MultiplexingBuffer i d.rate b.rbx b.size (multiplexing_claim p i).start (multiplexing_claim p i).peak (marks (Stream i) p.slots))
    × Hold (emptied_entries MultiplexingBuffer i d.rate b.rbx (multiplexing_claim p i).start (marks (Stream i) p.slots))
leak_buffers_hold d p i s b serves is some = let claim = multiplexing_claim p i in
    holds_both (buffer_entries MultiplexingBuffer i d.rate b.rbx b.size claim.start claim.peak (marks (Stream i) p.slots))
    (emptied_entries MultiplexingBuffer i d.rate b.rbx claim.start (marks (Stream i) p.slots))
    (rw some at (holds_element (λ j t. multiplexing_buffer_entries d p j t.multiplexing) d.streams i s serves.multiplexing_buffers is))

pub leak_holds : (d : Described) (p : Planned) (i : ℕ) (s : DescribedStream) (b : LeakingBuffer) → ServingConditions d p → slice_get d.streams i ≡ Some s →
    s.multiplexing ≡ Some b → HoldsWork d.rate b.rbx b.size (multiplexing_claim p i).start (multiplexing_claim p i).peak (marks (Stream i) p.slots)
leak_holds d p i s b serves is some = let claim = multiplexing_claim p i in
    holds_work MultiplexingBuffer i d.rate b.rbx b.size claim.start claim.peak (marks (Stream i) p.slots)
    (leak_buffers_hold d p i s b serves is some).0

-- Both buffers are empty at least once a second.
pub emptied_holds : (d : Described) (p : Planned) (i : ℕ) (s : DescribedStream) (b : LeakingBuffer) → ServingConditions d p → slice_get d.streams i ≡ Some s →
    s.multiplexing ≡ Some b → EmptiesEachSecond d.rate s.rx (stream_claim p i).start (marks (Stream i) p.slots)
emptied_holds d p i s b serves is some =
    holds_emptied TransportBuffer i d.rate s.rx (stream_claim p i).start (marks (Stream i) p.slots) (rw some at (buffers_hold d p i s serves is).1)

pub leak_emptied_holds : (d : Described) (p : Planned) (i : ℕ) (s : DescribedStream) (b : LeakingBuffer) → ServingConditions d p →
    slice_get d.streams i ≡ Some s →
    s.multiplexing ≡ Some b → EmptiesEachSecond d.rate b.rbx (multiplexing_claim p i).start (marks (Stream i) p.slots)
leak_emptied_holds d p i s b serves is some =
    holds_emptied MultiplexingBuffer i d.rate b.rbx (multiplexing_claim p i).start (marks (Stream i) p.slots) (leak_buffers_hold d p i s b serves is some).1

-- The conditions on the elementary stream buffer hold.
pub elementary_holds : (d : Described) (p : Planned) (i : ℕ) (s : DescribedStream) (b : LeakingBuffer) → ServingConditions d p →
    slice_get d.streams i ≡ Some s →
    s.multiplexing ≡ Some b → (m : ℕ) → 0 < m → m ≤ allowance_rows s.allowance →
    lead_needed (elementary_declaration s b) (elementary_share d.rate p i) m ≤ time_given d.rate (elementary_declaration s b)
    (elementary_share d.rate p i).count m
elementary_holds d p i s b serves is some m one below =
    let e : 1 + (m - 1) ≡ m = omega arith in
    let all : Hold (entries_from (elementary_lead_entry d p i s b) 1 (allowance_rows s.allowance)) =
    rw some at (holds_element (λ j t. elementary_lead_entries d p j t t.multiplexing) d.streams i s serves.elementary_leads is) in
    at_most_holds ElementaryLead (group_part s m) i (lead_needed (elementary_declaration s b) (elementary_share d.rate p i) m)
    (time_given d.rate (elementary_declaration s b) (elementary_share d.rate p i).count m)
    (rw e at (holds_count (elementary_lead_entry d p i s b) 1 (allowance_rows s.allowance) (m - 1) (omega arith) all))

-- All conditions on the buffers of a video stream hold.
pub video_holds : (d : Described) (p : Planned) (i : ℕ) (s : DescribedStream) (b : LeakingBuffer) → ServingConditions d p → slice_get d.streams i ≡ Some s →
    s.multiplexing ≡ Some b → VideoConditions d.rate (declaration s) (leak_of b) (claim_of p i) (leak_claim_of p i) (marks (Stream i) p.slots)
video_holds d p i s b serves is some = let holds = stream_holds d p i s serves is in record {
  owned = holds.owned;
  spread_claimed = holds.spread_claimed;
  rate_serves = holds.rate_serves;
  transport = holds.work;
  multiplexing = leak_holds d p i s b serves is some;
  lead_serves = λ m one below. rw (length_marks (Stream i) p.slots) (elementary_holds d p i s b serves is some m one below);
  elementary_fits = holds.main_fits;
}

-- A multiplexing buffer in its ranges leaks, and no faster than the transport buffer drains.
pub proper_leak : (d : Described) (i : ℕ) (s : DescribedStream) (b : LeakingBuffer) → IsInRange d → slice_get d.streams i ≡ Some s → s.multiplexing ≡ Some b →
    IsProperLeak (declaration s) (leak_of b)
proper_leak d i s b ranges is some =
    let r = All-head (IsMultiplexingBuffer s.rx) b [] (rw some at (stream_ranges d i s ranges is).multiplexing) in
    record { some_leak = omega (arith, r.least_rbx); no_faster = r.most_rbx }

-- The slots of a program's tables

pub program_holds : (d : Described) (p : Planned) (i : ℕ) → ServingConditions d p → i < length d.programs →
    ProgramConditions d.rate (program_claim_of p i) (marks (System i) p.slots)
program_holds d p i serves lt = let claim = program_claim p i in record {
  transport = holds_work TransportBuffer (length d.streams + i) d.rate system_tb_drain tb_size claim.transport_start claim.transport_peak
      (marks (System i) p.slots)
      (holds_item (transport_buffer_entries d p) d.programs i serves.transport_buffers lt);
  system = holds_work SystemBuffer i d.rate bsys_drain bsys_size claim.system_start claim.system_peak (marks (System i) p.slots)
      (holds_item (system_buffer_entries d p) d.programs i serves.system_buffers lt);
}

-- PCRs and sections

pub pcr_gap_holds : (d : Described) (p : Planned) (i : ℕ) (program : DescribedProgram) → ServingConditions d p → slice_get d.programs i ≡ Some program →
    gap (marks (Pcr (clock_of d i)) p.slots) 1 * slot_ms_at_1bps ≤ program.pcr_limit * d.rate
pcr_gap_holds d p i program serves is =
    at_most_holds PcrGap 0 i (gap (marks (Pcr (clock_of d i)) p.slots) 1 * slot_ms_at_1bps) (program.pcr_limit * d.rate)
    (holds_element (λ j q. pcr_gap_entry d p j q ∷ []) d.programs i program serves.pcr_gaps is)

pub table_gap_holds : (d : Described) (p : Planned) (t : ℕ) → ServingConditions d p → t < table_count d →
    gap (marks (Table t) p.slots) (round_packets d t) * slot_ms_at_1bps ≤ table_limit d t * d.rate
table_gap_holds d p t serves lt = at_most_holds TableGap 0 t (gap (marks (Table t) p.slots) (round_packets d t) * slot_ms_at_1bps) (table_limit d t * d.rate)
    (holds_item (λ j. table_gap_entry d p j ∷ []) (table_kinds d) t serves.table_gaps lt)

pub section_distance_holds : (d : Described) (p : Planned) (t : ℕ) → ServingConditions d p → t < table_count d → is_spaced d t ≡ true →
    25 * d.rate + slot_ms_at_1bps ≤ least_gap (marks (Table t) p.slots) (places_apart d t) * slot_ms_at_1bps
section_distance_holds d p t serves lt spaced = distance_holds 0 d t (least_gap (marks (Table t) p.slots) (places_apart d t)) spaced
    (holds_item (section_distance_entries d p) (table_kinds d) t serves.section_distances lt)

-- A section begins within the round.
place_below : (ls : List ℕ) (j : ℕ) → j < length ls → sum_by packets_of_section (take j ls) < sum_by packets_of_section ls
place_below ls j lt =
    let one : 1 ≤ packets_of_section (get_or ls j 0) = omega arith in
    omega (arith, one, sum_by_more_le packets_of_section ls j 0 lt)

pub first_packet_below : (d : Described) (t j : ℕ) → j < section_count d t → first_packet d t j < round_packets d t
first_packet_below d t j lt = place_below (section_lengths d t) j lt

-- The promises

pub plan_law : OwnedLaw → PlanLaw
plan_law law d p ranges serving =
    let k = serves d p serving in
    record {
      streams = λ i s units is keeps. subst (λ (o : ℕ → Bool). StreamServed o d.rate (declaration s) units) (sym (law.alone p.slots (Stream i)))
          (stream_law d.rate (declaration s) (claim_of p i) (marks (Stream i) p.slots) units (proper d i s ranges is) (stream_holds d p i s k is) keeps);
      videos = λ i s b units is some keeps.
          subst (λ (o : ℕ → Bool). VideoServed o d.rate (declaration s) (leak_of b) units) (sym (law.alone p.slots (Stream i)))
          (video_law d.rate (declaration s) (leak_of b) (claim_of p i) (leak_claim_of p i) (marks (Stream i) p.slots) units
          (proper d i s ranges is) (proper_leak d i s b ranges is some) (video_holds d p i s b k is some) keeps);
      emptied = λ i s b units is some. (
        subst (λ (o : ℕ → Bool). StreamEmptied o d.rate (declaration s) units) (sym (law.alone p.slots (Stream i)))
            (stream_empties d.rate (declaration s) (claim_of p i) (marks (Stream i) p.slots) units (proper d i s ranges is) (stream_holds d p i s k is)
            (emptied_holds d p i s b k is some)),
        subst (λ (o : ℕ → Bool). VideoEmptied o d.rate (declaration s) (leak_of b) units) (sym (law.alone p.slots (Stream i)))
            (video_empties d.rate (declaration s) (leak_of b) (claim_of p i) (leak_claim_of p i) (marks (Stream i) p.slots) units
            (proper d i s ranges is) (proper_leak d i s b ranges is some) (video_holds d p i s b k is some) (leak_emptied_holds d p i s b k is some)),
      );
      waits = λ i s units n is. waits_law (owned (single p.slots) (Stream i)) d.rate s.lead s.rx n units (lead_short d i s ranges is);
      frames = λ i s f packets is some cut follows keeps.
          subst (λ (o : ℕ → Bool). FramesServed o d.rate (declaration s) f packets) (sym (law.alone p.slots (Stream i)))
          (λ n x left late. framed_law.one_plan d.rate (declaration s) f (claim_of p i) (marks (Stream i) p.slots) packets n x left
          (proper d i s ranges is) (stream_holds d p i s k is) (frames_hold d p i s f k is some) cut follows keeps late);
      programs = λ i lt. subst (λ (o : ℕ → Bool). ProgramServed o d.rate) (sym (law.alone p.slots (System i)))
          (program_law d.rate (program_claim_of p i) (marks (System i) p.slots)
          (omega (arith, ranges.least_rate)) (some_slots (System i)) (program_holds d p i k lt));
      pcrs = λ i program slots is. let clock = Pcr (clock_of d i) in let own_marks = marks clock p.slots in
          let lt : i < length d.programs = slice_get_within d.programs i program is in
          subst (λ (o : ℕ → Bool). Recur d.rate program.pcr_limit 0 (map (λ s. 188 * s + 10) (own_slots o 0 slots)) (188 * slots))
          (sym (law.alone p.slots clock))
          (pcr_law (own own_marks) (gap own_marks 1) d.rate program.pcr_limit slots
          (gap_law own_marks 1 (gap own_marks 1) (k.shape.programs_own i lt) (omega arith)) (pcr_gap_holds d p i program k is));
      sections = λ t j slots lt within. let own_marks = marks (Table t) p.slots in
          subst (λ (o : ℕ → Bool). Recur d.rate (table_limit d t) 0 (map (λ s. 188 * s) (own_slots (starts o (round_packets d t) (first_packet d t j)) 0 slots))
          (188 * slots))
          (sym (law.alone p.slots (Table t)))
          (table_law (own own_marks) (round_packets d t) (first_packet d t j) (gap own_marks (round_packets d t)) d.rate (table_limit d t) slots
          (first_packet_below d t j within) (gap_law own_marks (round_packets d t) (gap own_marks (round_packets d t)) (k.shape.tables_own t lt) (omega arith))
          (table_gap_holds d p t k lt));
      sections_apart = λ t lt spaced. subst (λ (o : ℕ → Bool). SectionsApart d t o) (sym (law.alone p.slots (Table t)))
          (apart_in_plan d t (marks (Table t) p.slots) (k.shape.tables_own t lt) spaced (section_distance_holds d p t k lt spaced));
    }
  where
    some_slots : (item : Item) → 0 < length (marks item p.slots)
    some_slots item = omega (arith, length_marks item p.slots, (serves d p serving).shape.some_slots)
