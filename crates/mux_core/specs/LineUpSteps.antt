-- The steps of a change of the line-up: what waits, what is made for the new line-up, and what stays put into its place.
use Rattle.std.specs.Prelude.{◌≡◌, ℕ, ◌%◌, ◌&&◌, Bool, List, length, find, nat_lt, replicate, Option, Some, None, slice_get, slice_index_or, false, option_map, option_and_then}
use Rattle.std.specs.List.{range_with_len}
use Rattle.std.specs.Option.{option_or}
use Rattle.own_slots.specs.Slots.{own_before}
use Rattle.description_parts.specs.Described.{Described, DescribedStream}
use Rattle.description_parts.specs.Ranges.{IsInRange}
use Rattle.description_parts.specs.Tables.{table_kinds, table_pid, section_lengths}
use Rattle.description_parts.specs.declared.table_kind.TableKind.{TableKind}
use Rattle.description.specs.SubTables.{sub_table_count}
use Rattle.slot_plan.specs.declared.slot.Item.TheVariants.{Table as TableItem}
use Rattle.slot_plan.specs.Schedule.{single, owned}
use Rattle.plan_checker.specs.Served.{Served}
use Rattle.unit_queue.specs.Queues.{Queue}
use Rattle.unit_queue.specs.QueueSteps.{empty_queue}
use Rattle.table_rounds.specs.Tables.{place_in, round_places}
use Rattle.table_rounds.specs.Carousels.{Carousel, silent_carousel}
use Rattle.line_ups.specs.Kept.{stream_before, table_before, is_gone}
use Rattle.line_ups.specs.Faults.{line_up_fault}
use Rattle.line_ups.specs.Laws.{IsKept}
use Rattle.line_ups.specs.Versions.{follow_versions}
use Rattle.mux_core.specs.Exchanges.{AreTaken}
use Rattle.mux_core.specs.Scheduled.{Scheduled}
use Rattle.mux_core.specs.Histories.{parameters_of}
use Rattle.mux_core.specs.MuxStates.{MuxState}
use Rattle.mux_core.specs.SlotSteps.{moment_of_events}
use Rattle.mux_core.specs.Rooms.{room_in}
use Rattle.mux_core.specs.LineUps.{scheduled_by, served_by, some_wait, pid_at, moment_in}
use Rattle.mux_core.specs.declared.room.Room.{Room}
use Rattle.mux_core.specs.declared.line_up.TakeOverError.{TakeOverError}
use Rattle.mux_core.specs.declared.line_up.TakeOverError.TheVariants as error

-- ---- the cause of a refusal, by the state

-- a stream goes although a unit is in its queue
abbrev pub leaves_waiting : MuxState → Described → ℕ → Bool
leaves_waiting m new i = is_gone m.schedule.description new i && some_wait (option_map (λ q. length q.units) (slice_get m.queues i))

abbrev pub left_pid : MuxState → Described → Option ℕ
left_pid m new = option_and_then (pid_at m.schedule.description) (find (leaves_waiting m new) (range_with_len 0 (length m.schedule.description.streams)))

abbrev pub cause_by : MuxState → Served → Option TakeOverError
cause_by m next =
    option_or (option_map error.Fault (line_up_fault (served_by m.schedule) next)) (option_map error.Waiting (left_pid m next.description))

-- what stays, of a run of one plan
pub record KeptOver (d : Scheduled) (next : Served) : Type 0 where
  pub before : Served
  pub is : d ≡ scheduled_by before
  pub ranges : IsInRange before.description
  pub kept : IsKept before next

-- ---- what is made

-- the room of a new queue: that of a stream that comes; none for a stream that stays, whose own queue takes the place
abbrev pub fresh_room : Described → Described → Room → ℕ → DescribedStream → ℕ
fresh_room old new capacity k s = elim (stream_before old new k) [ None ↦ room_in capacity s | Some i ↦ 0 ]

abbrev pub fresh_queue : Described → Described → Room → ℕ → DescribedStream → Queue
fresh_queue old new capacity k s = empty_queue (parameters_of new s) (fresh_room old new capacity k s)

-- a silent carousel of a table that had this number of own slots
abbrev pub silent_after : Described → ℕ → ℕ → ℕ → Carousel
silent_after d t before moment = silent_carousel (table_pid d t) d.rate (section_lengths d t)
    (place_in 0 (section_lengths d t) (before % round_places (section_lengths d t))) moment

-- the carousel of a table that comes in slot `slots`, at the place where it would be
abbrev pub come_carousel : Served → ℕ → ℕ → Carousel
come_carousel next slots t =
    silent_after next.description t (own_before (owned (single next.plan.slots) (TableItem t)) slots) (moment_in next.description slots)

abbrev pub made_carousel : Served → ℕ → ℕ → TableKind → Carousel
made_carousel next slots t kind = come_carousel next slots t

-- the numbers before
abbrev pub stream_number_before : Described → Described → ℕ → DescribedStream → Option ℕ
stream_number_before old new k s = stream_before old new k

abbrev pub table_number_before : Described → Described → ℕ → TableKind → Option ℕ
table_number_before old new t kind = table_before old new t

-- ---- what is put

-- the state of the new line-up: new queues and carousels, and those of what stays in their places
pub record PutOver (old : MuxState) (next : Served) (texts : Described) (queues : List Queue) (carousels : List Carousel) (new : MuxState) : Type 0 where
  pub schedule : new.schedule ≡ scheduled_by next
  pub in_force : new.texts ≡ follow_versions old.texts texts (moment_of_events old) (λ n. slice_index_or old.sent n false)
  pub sent : new.sent ≡ replicate sub_table_count (nat_lt 0 old.slots)
  pub kept_queues : AreTaken (stream_number_before old.schedule.description next.description) next.description.streams queues old.queues new.queues
  pub kept_carousels : AreTaken (table_number_before old.schedule.description next.description) (table_kinds next.description) carousels old.carousels new.carousels
  pub capacity : new.capacity ≡ old.capacity
  pub slots : new.slots ≡ old.slots
