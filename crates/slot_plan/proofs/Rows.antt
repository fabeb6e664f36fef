-- The first failing condition for the base service and its plan, and for changes of them; each by computing.
use Rattle.std.specs.Prelude.{◌≡◌, ℕ, List, [], ◌∷◌, ◌++◌, Option, None, Some, take, drop, replicate, slice_set, refl}
use Rattle.own_slots.specs.Period.{places}
use Rattle.own_slots.specs.Extremes.{greatest}
use Rattle.own_slots.specs.Work.{work_at}
use Rattle.slot_plan.specs.declared.slot.Slot.{Slot}
use Rattle.slot_plan.specs.declared.slot.Slot.TheVariants.{Stream, Pcr, Table, Null}
use Rattle.slot_plan.specs.declared.condition.Condition.TheVariants.{Shape, PcrGap, Spread, StreamRate, TransportBuffer, StreamLead, MainBuffer, SystemBuffer}
use Rattle.slot_plan.specs.declared.condition.Condition.TheVariants.{MultiplexingBuffer, ElementaryLead, LeadSwitch, MainSwitch, ElementarySwitch}
use Rattle.slot_plan.specs.Planned.{Planned, Certified}
use Rattle.slot_plan.specs.EmptySlots.{empty_slots}
use Rattle.slot_plan.specs.Entries.{Entry, at_most, equal_counts, first_failing}
use Rattle.slot_plan.specs.Conditions.{entries}
use Rattle.slot_plan.specs.SwitchConditions.{switch_entries}
use Rattle.unit_timing.specs.declared.allowance.Allowance.TheVariants.{Groups, Pace}
use Rattle.unit_timing.specs.declared.framing.LastBytes.TheVariants.{Each}
use Rattle.description_parts.specs.Described.{Described, DescribedStream}
use Rattle.slot_plan.proofs.BaseService.{base, base_stream, base_plan, base_slots, claims}

-- The first condition that fails
answer : Described → Planned → Option Entry
unfolding places greatest work_at empty_slots
answer d p = first_failing (entries d p)

switch_answer : Described → Planned → Planned → Option Entry
unfolding places greatest work_at empty_slots
switch_answer d p q = first_failing (switch_entries d p q)

with_stream : DescribedStream → Described
with_stream s = record base { streams = s ∷ [] }

with_slots : List Slot → Planned
with_slots slots = record base_plan { slots = slots }

with_spread : ℕ → Certified
with_spread a = record claims { streams = record { spread = a; start = 0; peak = 282752000; multiplexing = None } ∷ [] }

accepted : answer base base_plan ≡ None
unfolding answer
accepted = refl

lead_1598 : answer (with_stream (record base_stream { lead = 1598 })) base_plan ≡ None
unfolding answer with_stream
lead_1598 = refl

lead_1597 : answer (with_stream (record base_stream { lead = 1597 })) base_plan ≡ Some (at_most StreamLead 0 0 144174643200000000 144113280000000000)
unfolding answer with_stream
lead_1597 = refl

-- If the plan is cut to its first 24 slots, the work of the system buffer grows from period to period.
cut : answer base (with_slots (take 24 base_slots)) ≡ Some (at_most SystemBuffer 3 0 249664000 0)
unfolding answer with_slots
cut = refl

-- The stream's slot 116 is moved to 117.
moved_slots : List Slot
moved_slots = slice_set (slice_set base_slots 116 Null) 117 (Stream 0)

moved : answer base (with_slots moved_slots) ≡ Some (at_most Spread 0 0 30 0)
unfolding answer with_slots moved_slots
moved = refl

moved_spread : answer base (record { slots = moved_slots; certificate = with_spread 30 }) ≡ Some (at_most StreamLead 0 0 152296243200000000 144384000000000000)
unfolding answer moved_slots with_spread
moved_spread = refl

-- At 38,000,000 bits a second five packets in a row overflow the stream's transport buffer.
burst_slots : List Slot
burst_slots = replicate 5 (Stream 0) ++ (Pcr 0 ∷ Table 0 ∷ Table 1 ∷ Table 3 ∷ Table 2 ∷ Table 4 ∷ Table 5 ∷ []) ++ replicate 588 Null

burst : answer (record base { rate = 38000000 }) (record { slots = burst_slots; certificate = with_spread 2380 }) ≡ Some
    (at_most TransportBuffer 1 0 34592000000 19456000000)
unfolding answer burst_slots with_spread
burst = refl

-- Without the PCR in slot 97 the PCR gap across the end of the period is 48 slots.
late_pcr : answer base (with_slots (slice_set base_slots 97 Null)) ≡ Some (at_most PcrGap 0 0 72192000 60160000)
unfolding answer with_slots
late_pcr = refl

no_claim : answer base (record base_plan { certificate = record claims { streams = [] } }) ≡ Some (equal_counts Shape 5 0 0 1)
unfolding answer
no_claim = refl

empty : answer base (record { slots = []; certificate = record { streams = []; programs = [] } }) ≡ Some (at_most Shape 1 0 1 0)
unfolding answer
empty = refl

unknown : answer base (with_slots (slice_set base_slots 10 (Stream 1))) ≡ Some (at_most Shape 3 10 2 1)
unfolding answer with_slots
unknown = refl

ownerless : answer base (with_slots (slice_set base_slots 9 Null)) ≡ Some (at_most Shape 4 7 1 0)
unfolding answer with_slots
ownerless = refl

-- Units 720 apart, and groups of units
close : ℕ → ℕ → ℕ → Described
close lead group packets = with_stream (record base_stream { interval = 720; lead = lead; allowance = Groups group packets })

alone : answer (close 1600 1 4) base_plan ≡ Some (at_most StreamRate 0 0 64972800000 32486400000)
unfolding answer close with_stream
alone = refl

pairs : answer (close 1600 2 4) base_plan ≡ None
unfolding answer close with_stream
pairs = refl

pairs_of_five : answer (close 1600 2 5) base_plan ≡ Some (at_most StreamRate 0 0 81216000000 64972800000)
unfolding answer close with_stream
pairs_of_five = refl

fours : answer (close 1600 4 8) base_plan ≡ Some (at_most StreamLead 2 0 274120243200000000 209356800000000000)
unfolding answer close with_stream
fours = refl

fours_ahead : answer (close 2318 4 8) base_plan ≡ None
unfolding answer close with_stream
fours_ahead = refl

-- An allowance by time: a burst of packets, and a pace
paced : ℕ → ℕ → Described
paced burst pace = with_stream (record base_stream { interval = 1; allowance = Pace burst pace })

pace_of_four : answer (paced 4 376000) base_plan ≡ None
unfolding answer paced with_stream
pace_of_four = refl

pace_too_great : answer (paced 4 376001) base_plan ≡ Some (at_most StreamRate 0 0 45120120 45120000)
unfolding answer paced with_stream
pace_too_great = refl

burst_of_five : answer (paced 5 376000) base_plan ≡ Some (at_most StreamLead 0 0 176661043200000000 144384000000000000)
unfolding answer paced with_stream
burst_of_five = refl

-- The main buffer contains at most the burst, and the packets that the pace carries within the lead.
paced_into : ℕ → ℕ → Described
paced_into main pace = with_stream (record base_stream { interval = 1; main = main; allowance = Pace 4 pace })

burst_fits : answer (paced_into 736 84599) base_plan ≡ None
unfolding answer paced_into with_stream
burst_fits = refl

burst_waits : answer (paced_into 735 84599) base_plan ≡ Some (at_most MainBuffer 0 0 736 735)
unfolding answer paced_into with_stream
burst_waits = refl

pace_waits : answer (paced_into 736 84600) base_plan ≡ Some (at_most MainBuffer 0 0 920 736)
unfolding answer paced_into with_stream
pace_waits = refl

-- A multiplexing buffer that leaks 1,000,000 bits a second contains one packet at a time.
leaking : ℕ → ℕ → Described
leaking lead size = with_stream (record base_stream { lead = lead; multiplexing = Some (record { rbx = 1000000; size = size }) })

claiming : ℕ → ℕ → List Slot → Planned
claiming start peak slots = record {
  slots = slots;
  certificate =
      record claims { streams = record { spread = 0; start = 0; peak = 282752000; multiplexing = Some (record { start = start; peak = peak }) } ∷ [] };
}

leak_kept : answer (leaking 1667 188) (claiming 0 282752000 base_slots) ≡ None
unfolding answer leaking with_stream claiming
leak_kept = refl

leak_overflows : answer (leaking 1667 187) (claiming 0 282752000 base_slots) ≡ Some (at_most MultiplexingBuffer 1 0 282752000 281248000)
unfolding answer leaking with_stream claiming
leak_overflows = refl

leak_not_claimed : answer (leaking 1667 188) base_plan ≡ Some (at_most MultiplexingBuffer 2 0 282752000 0)
unfolding answer leaking with_stream
leak_not_claimed = refl

late_by_the_leak : answer (leaking 1666 188) (claiming 0 282752000 base_slots) ≡ Some (at_most ElementaryLead 0 0 75173529600000000 75169920000000000)
unfolding answer leaking with_stream claiming
late_by_the_leak = refl

-- Units of two access units, 1,080 units of 90 kHz apart: when the first access unit has been removed, the 288 bytes of the second are in the
-- buffer, and two packets of the next unit, which may arrive 1,600 before it is due.
framed : ℕ → Described
framed main = with_stream (record base_stream { main = main; framing = Some (record { frames = 2; frame = 1080; rest = 1080; left = Each 288 }) })

removed_in_turn : answer (framed 656) base_plan ≡ None
unfolding answer framed with_stream
removed_in_turn = refl

no_room_in_turn : answer (framed 655) base_plan ≡ Some (at_most MainBuffer 1 0 656 655)
unfolding answer framed with_stream
no_room_in_turn = refl

-- Each slot one place later, the last slot first
turned : Planned
turned = with_slots (drop 119 base_slots ++ take 119 base_slots)

repeated : switch_answer base base_plan base_plan ≡ None
unfolding switch_answer
repeated = refl

to_turned : switch_answer base base_plan turned ≡ Some (at_most LeadSwitch 0 0 4568887296000000000 4331520000000000000)
unfolding switch_answer turned with_slots
to_turned = refl

to_turned_1688 : switch_answer (with_stream (record base_stream { lead = 1688 })) base_plan turned ≡ None
unfolding switch_answer turned with_slots with_stream
to_turned_1688 = refl

to_turned_1687 : switch_answer (with_stream (record base_stream { lead = 1687 })) base_plan turned ≡ Some
    (at_most LeadSwitch 0 0 4568887296000000000 4567046400000000000)
unfolding switch_answer turned with_slots with_stream
to_turned_1687 = refl

paced_to_turned : switch_answer (paced 4 376000) base_plan turned ≡ Some (at_most LeadSwitch 0 0 4568887296000000000 4331520000000000000)
unfolding switch_answer paced turned with_slots with_stream
paced_to_turned = refl

from_turned : switch_answer base turned base_plan ≡ None
unfolding switch_answer turned with_slots
from_turned = refl

leak_to_turned : switch_answer (leaking 1756 188) (claiming 0 282752000 base_slots) (claiming 0 282752000 (drop 119 base_slots ++ take 119 base_slots))
    ≡ Some (at_most ElementarySwitch 0 0 2377029888000000000 2376921600000000000)
unfolding switch_answer leaking with_stream claiming
leak_to_turned = refl

-- Across a switch the whole next unit may have arrived.
removed_across : switch_answer (framed 883) turned base_plan ≡ None
unfolding switch_answer framed turned with_slots with_stream
removed_across = refl

no_room_across : switch_answer (framed 882) turned base_plan ≡ Some (at_most MainSwitch 1 0 883 882)
unfolding switch_answer framed turned with_slots with_stream
no_room_across = refl

-- The next unit has not arrived if the stream's slots continue.
after_itself : switch_answer (framed 656) base_plan base_plan ≡ None
unfolding switch_answer framed with_stream
after_itself = refl

-- A multiplexing buffer is never empty if packets enter as fast as it leaks.
leaking_slowly : Described
leaking_slowly = with_stream (record base_stream { lead = 2700; multiplexing = Some (record { rbx = 376000; size = 235 }) })

never_empty : answer leaking_slowly (claiming 70688000 282752000 base_slots) ≡ Some (at_most MultiplexingBuffer 4 0 1 0)
unfolding answer leaking_slowly with_stream claiming
never_empty = refl
