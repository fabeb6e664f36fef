-- A run before its first record
use Rattle.std.proofs.Common.{◌≡◌, ℕ, Bool, true, false, Option, Some, None, IsTrue}
use Rattle.std.specs.Prelude.{if◌then◌else◌}
use Rattle.mux_core.specs.NewMux.{is_periods, plan_cause, switch_cause, Judges}
use Rattle.mux_core.specs.Rooms.{is_room}
use Rattle.mux_core.specs.declared.done.NewError.{NewError}
use Rattle.mux_core.specs.declared.done.NewError.TheVariants.{Capacity, Periods}
use Rattle.mux_core.specs.declared.room.Room.{Room}

-- If a multiplexer over two plans was made, the periods cause no refusal.
pub switch_begun : (capacity periods : Bool) (refused : Option NewError) →
    Judges (if capacity then (if periods then None else Some Periods) else Some Capacity) None → Judges None refused →
    Judges (if periods then None else Some Periods) refused
switch_begun true true refused made judged = judged
switch_begun true false refused made judged = absurd (let no : ⊥ = cc in no)
switch_begun false periods refused made judged = absurd (let no : ⊥ = cc in no)

-- A room that is one refuses no multiplexer.
pub room_judged : (room : Room) (refused : Option NewError) → IsTrue (is_room room) → Judges (plan_cause room) refused → Judges None refused
room_judged room refused valid judged = by (is_room room) valid judged
  where
    by : (b : Bool) → IsTrue b → Judges (if b then None else Some Capacity) refused → Judges None refused
    by true valid judged = judged
    by false valid judged = absurd (let no : ⊥ = cc in no)

pub switch_judged : (room : Room) (period periods : ℕ) (refused : Option NewError) → IsTrue (is_room room) → Judges (switch_cause period periods room) refused →
    Judges (if is_periods period periods then None else Some Periods) refused
switch_judged room period periods refused valid judged = by (is_room room) valid judged
  where
    by : (b : Bool) → IsTrue b → Judges (if b then (if is_periods period periods then None else Some Periods) else Some Capacity) refused →
        Judges (if is_periods period periods then None else Some Periods) refused
    by true valid judged = judged
    by false valid judged = absurd (let no : ⊥ = cc in no)
