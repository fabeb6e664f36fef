-- The creation of a multiplexer, and why it may be refused.
use Rattle.std.specs.Prelude.{◌≡◌, ◌⊎◌, zero, suc, [], ◌∷◌, ◌*◌, ◌^◌, ◌&&◌, ℕ, nat_le, Bool, if◌then◌else◌, Option, Some, None, Result, Ok, Err, List}
use Rattle.description_parts.specs.Described.{Described, DescribedStream}
use Rattle.description_parts.specs.Tables.{table_pid, section_lengths}
use Rattle.unit_queue.specs.Queues.{Queue}
use Rattle.unit_queue.specs.QueueSteps.{empty_queue}
use Rattle.table_rounds.specs.Carousels.{Carousel, first_carousel as table_carousel}
use Rattle.mux_core.specs.Histories.{parameters_of}
use Rattle.mux_core.specs.Rooms.{is_room, room_in}
use Rattle.mux_core.specs.declared.room.Room.{Room}
use Rattle.mux_core.specs.declared.done.NewError.{NewError}
use Rattle.mux_core.specs.declared.done.NewError.TheVariants.{Capacity, Periods, Memory}

-- the first plan of a switch runs for at least one period, and for at most 2^40 slots
abbrev pub is_periods : ℕ → ℕ → Bool
is_periods period periods = nat_le 1 periods && nat_le (periods * period) (2 ^ 40)

-- why no multiplexer is made for a plan, except out of memory
abbrev pub plan_cause : Room → Option NewError
plan_cause room = if is_room room then None else Some Capacity

-- why no multiplexer is made for a switch whose first plan has this period, except out of memory
abbrev pub switch_cause : ℕ → ℕ → Room → Option NewError
switch_cause period periods room =
    if is_room room then (if is_periods period periods then None else Some Periods) else Some Capacity

-- the cause in an answer
abbrev pub new_refusal : {V W : Type 0} → Result V (NewError × W) → Option NewError
new_refusal (Ok mux) = None
new_refusal (Err e) = Some e.0

-- if there is a cause, the answer is this cause; otherwise the only possible refusal is out of memory
abbrev pub Judges : Option NewError → Option NewError → Type 0
Judges (Some cause) refused = refused ≡ Some cause
Judges None refused = (refused ≡ None) ⊎ (refused ≡ Some Memory)

-- a queue and a carousel before slot 0
abbrev pub first_queue : Described → Room → DescribedStream → Queue
first_queue d room s = empty_queue (parameters_of d s) (room_in room s)

abbrev pub first_carousel : Described → ℕ → Carousel
first_carousel d t = table_carousel (table_pid d t) d.rate d.start (section_lengths d t)

-- the carousels of n tables from table t on
unfoldable pub first_carousels : Described → ℕ → ℕ → List Carousel
first_carousels d t zero = []
first_carousels d t (suc n) = first_carousel d t ∷ first_carousels d (suc t) n
