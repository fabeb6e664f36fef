-- What each item of a description demands of a period: its streams, the PCRs of its programs, its tables, each by number.
use Rattle.std.specs.Prelude.{ℕ, ◌+◌, ◌-◌, min, Bool, true, false, ◌&&◌, List, [], ◌∷◌, ◌++◌, length, Option, Some, None}
use Rattle.std.specs.Prelude.{nat_le, nat_lt, if◌then◌else◌}
use Rattle.std.specs.List.{sum_by, list_any}
use Rattle.description_parts.specs.Described.{Described, DescribedProgram, DescribedStream}
use Rattle.description_parts.specs.Tables.{table_kinds, table_pid, table_limit, round_packets, has_references, only_if}
use Rattle.slot_plan.specs.declared.slot.Slot.{Slot}
use Rattle.slot_plan.specs.declared.slot.Slot.TheVariants.{Stream, Pcr, Table}
use Rattle.slot_plan.specs.Numbered.{numbered}
use Rattle.plan_maker.specs.Bounded.{most_long}
use Rattle.plan_maker.specs.Clocks.{clock_limit}
use Rattle.plan_maker.specs.Recurrences.{recurrence_of, recurrence_count, recurrence_width}
use Rattle.plan_maker.specs.StreamNeeds.{StreamView, stream_view, stream_at, stream_count, stream_width, main_width}
use Rattle.plan_maker.specs.declared.search.recurrence.Recurrence.{Recurrence}
use Rattle.plan_maker.specs.declared.search.demand.Need.{Need}
use Rattle.plan_maker.specs.declared.search.demand.Need.TheVariants as needs
use Rattle.plan_maker.specs.declared.search.demand.Demand.{Demand}

-- ---- what an item needs its own slots for

pub data NeedView : Type 0 where
  StreamNeed : StreamView → NeedView
  RecurringNeed : Recurrence → NeedView

abbrev pub need_view : Need → NeedView
need_view (needs.Stream s) = StreamNeed (stream_view s)
need_view (needs.Recurring r) = RecurringNeed r

-- the least own slots of a period, and the most that these may stray
abbrev pub need_count : NeedView → ℕ → Option ℕ
need_count (StreamNeed v) period = stream_count v period
need_count (RecurringNeed r) period = recurrence_count r period

abbrev pub need_width : NeedView → ℕ → ℕ → Option ℕ
need_width (StreamNeed v) period count = stream_width v period count
need_width (RecurringNeed r) period count = recurrence_width r period count

-- the main buffer leaves each own slot less than one slot to stray in
abbrev pub leaves_no_slot : ℕ → Option ℕ → Bool
leaves_no_slot count None = true
leaves_no_slot count (Some width) = nat_lt width (count - 1)

-- more own slots can't help: the main buffer of a stream alone leaves them no slot
abbrev pub need_is_full : NeedView → ℕ → ℕ → Bool
need_is_full (StreamNeed v) period count = leaves_no_slot count (main_width v period count)
need_is_full (RecurringNeed r) period count = false

-- ---- demands

-- an item, what it needs, its number in its kind, the items of that kind, and its own slots
pub record DemandView : Type 0 where
  pub slot : Slot
  pub need : NeedView
  pub number : ℕ
  pub kind : ℕ
  pub count : ℕ

abbrev pub demand_view : Demand → DemandView
demand_view d = record { slot = d.slot; need = need_view d.need; number = d.number; kind = d.kind; count = d.count }

-- the least own slots; one more than a period has if no slots of it are enough
abbrev pub count_within : ℕ → Option ℕ → ℕ
count_within period None = period + 1
count_within period (Some count) = min count (period + 1)

abbrev pub demand_of : Slot → NeedView → ℕ → ℕ → ℕ → DemandView
demand_of slot need number kind period =
    record { slot = slot; need = need; number = number; kind = kind; count = count_within period (need_count need period) }

abbrev pub stream_demand : Described → ℕ → ℕ → DescribedStream → DemandView
stream_demand d period i s = demand_of (Stream i) (StreamNeed (stream_at s d.rate)) i (length d.streams) period

abbrev pub pcr_demand : Described → ℕ → ℕ → DescribedProgram → DemandView
pcr_demand d period i p = demand_of (Pcr i) (RecurringNeed (recurrence_of (clock_limit d p) d.rate 1 0)) i (length d.programs) period

-- of a program whose slots carry clock references
abbrev pub clock_demand : Described → ℕ → ℕ → DescribedProgram → List DemandView
clock_demand d period i p = only_if (has_references d i) (pcr_demand d period i p)

-- service information is on the PIDs 0x10 to 0x14 (EN 300 468, 5.1.3)
abbrev pub is_service_information : ℕ → Bool
is_service_information pid = nat_le 0x10 pid && nat_le pid 0x14

-- the distance in ms between two packets of a table: asked for in service information alone (EN 300 468, 5.1.4)
abbrev pub distance_of : Described → ℕ → ℕ → ℕ
distance_of d distance t = if is_service_information (table_pid d t) then distance else 0

abbrev pub table_recurrence : Described → ℕ → ℕ → Recurrence
table_recurrence d distance t = recurrence_of (table_limit d t) d.rate (round_packets d t) (distance_of d distance t)

abbrev pub table_demand : Described → ℕ → ℕ → ℕ → DemandView
table_demand d distance period t =
    demand_of (Table t) (RecurringNeed (table_recurrence d distance t)) t (length (table_kinds d)) period

abbrev pub stream_demands : Described → ℕ → List DemandView
stream_demands d period = numbered (λ i s. stream_demand d period i s ∷ []) 0 d.streams

abbrev pub pcr_demands : Described → ℕ → List DemandView
pcr_demands d period = numbered (clock_demand d period) 0 d.programs

abbrev pub table_demands : Described → ℕ → ℕ → List DemandView
table_demands d distance period = numbered (λ t _. table_demand d distance period t ∷ []) 0 (table_kinds d)

abbrev pub all_demands : Described → ℕ → ℕ → List DemandView
all_demands d distance period = stream_demands d period ++ (pcr_demands d period ++ table_demands d distance period)

-- one item alone needs more slots than the period has
abbrev pub is_over : ℕ → DemandView → Bool
is_over period d = nat_lt period d.count

abbrev pub demands_of : Described → ℕ → ℕ → Option (List DemandView)
demands_of d distance period =
    if list_any (is_over period) (all_demands d distance period) then None else Some (all_demands d distance period)

-- the own slots of all items together, or the greatest number of 64 bits if they are more
abbrev pub total_count : List Demand → ℕ
total_count ds = min (sum_by (λ d. d.count) ds) most_long
