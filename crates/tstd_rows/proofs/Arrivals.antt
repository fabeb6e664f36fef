-- Bytes that all find room end the current excess, and begin none
use Rattle.std.proofs.Common.{◌≡◌, ◌∙◌, ◌<◌, ◌≤◌, ℕ, false, Option, None, refl, ap, sym, arith}
use Rattle.std.specs.Option.{option_to_list}
use Rattle.arrival.specs.Rows.{times_of}
use Rattle.arrival.specs.declared.row.Row.{Row}
use Rattle.clock27.specs.Peak.{most_found}
use Rattle.tstd_rows.specs.declared.excess.Excess.{Excess}
use Rattle.tstd_rows.specs.declared.excess.ExcessWatch.{ExcessWatch}
use Rattle.tstd_rows.specs.declared.transport_buffer.TransportBuffer.{TransportBuffer}
use Rattle.tstd_rows.specs.Arriving.{CanArrive, HaveArrived}
use Rattle.tstd_rows.specs.Excesses.{AreOver, excess_after, excesses_ended}
use Rattle.tstd_rows.proofs.ExcessBytes.{room_row_after, room_row_ended}
use Rattle.tstd_rows.proofs.OverBytes.{none_over}

some_bytes : (n : ℕ) → 0 < n → n ≡ 0 → ⊥
some_bytes n some none = omega (arith, some, none)

-- If the most bytes that a byte finds are within the size, each byte finds room.
pub all_room : (buffer : TransportBuffer) (size most : ℕ) (row : Row) → most ≤ size → most ≡ most_found buffer.step buffer.last (times_of row) →
    AreOver false buffer.step size buffer.last (times_of row)
all_room buffer size most row within is = none_over buffer.step size buffer.last (times_of row) (rw is at within)

-- The current excess then ends, if there is one.
pub ends : (buffer : TransportBuffer) (size : ℕ) (under_way : Option Excess) (row : Row) → 0 < row.bytes →
    AreOver false buffer.step size buffer.last (times_of row) →
    option_to_list under_way ≡ excesses_ended buffer.step size buffer.last under_way (times_of row)
ends buffer size under_way row some room =
    sym (room_row_ended buffer.step size buffer.last under_way row.from row.pace row.parts row.bytes (some_bytes row.bytes some) room)

pub leaves : (buffer : TransportBuffer) (size : ℕ) (under_way : Option Excess) (row : Row) → 0 < row.bytes →
    AreOver false buffer.step size buffer.last (times_of row) →
    None ≡ excess_after buffer.step size buffer.last under_way (times_of row)
leaves buffer size under_way row some room =
    sym (room_row_after buffer.step size buffer.last under_way row.from row.pace row.parts row.bytes (some_bytes row.bytes some) room)

-- If there is no current excess, nothing ends.
pub nothing_ends : (buffer : TransportBuffer) (watch : ExcessWatch) (most : ℕ) (row : Row) (ended : Option Excess) → 0 < row.bytes → most ≤ watch.size →
    most ≡ most_found buffer.step buffer.last (times_of row) → watch.under_way ≡ None → ended ≡ None →
    HaveArrived buffer (times_of row) watch watch ended
nothing_ends buffer watch most row ended some within is none empty =
    let room = all_room buffer watch.size most row within is in
    record {
      ended = ap (λ (e : Option Excess). option_to_list e) (empty ∙ sym none) ∙ ends buffer watch.size watch.under_way row some room;
      under_way = none ∙ leaves buffer watch.size watch.under_way row some room;
      size = refl;
    }
