use Rattle.std.proofs.Common.{◌≡◌, ◌<◌, filter, refl, arith}
use Rattle.tstd.specs.BufferedUnits.{is_buffered, all_bytes}
use Rattle.tstd.proofs.BufferCounts.{fewer_bytes, there_filtered, filtered_there, early_there}
use Rattle.tstd.proofs.main_buffer.MainBuffer.expire.Goals as goal

pub tally-bytes-requires : goal.tally-bytes-requires
tally-bytes-requires g c =
    let s = c.requires.sound in
    rw (c.as_slice.ensures.value, c.drop_removed.ensures) (omega (arith, s.all, fewer_bytes c.args.moment c.args.self.now.earlier.items, c.requires.room))

pub overflow_add-self : goal.overflow_add-self
overflow_add-self g c =
    let s = c.requires.sound in
    let sum : c.tally-bytes.result.0 ≡ all_bytes (filter (is_buffered c.args.moment) c.args.self.now.earlier.items) =
    rw (c.tally-bytes.ensures.bytes, c.as_slice.ensures.value, c.drop_removed.ensures) refl in
    omega (arith, s.all, fewer_bytes c.args.moment c.args.self.now.earlier.items, sum, c.requires.room)

pub returns-then-moment-self-clause-there : goal.returns-then-moment-self-clause-there
returns-then-moment-self-clause-there g c = λ x le.
    rw c.drop_removed.ensures (omega (arith, there_filtered c.args.moment x c.args.self.now.earlier.items le))

pub returns-then-moment-self-clause-now : goal.returns-then-moment-self-clause-now
returns-then-moment-self-clause-now g c =
    let sum : c.tally-bytes.result.0 ≡ all_bytes (filter (is_buffered c.args.moment) c.args.self.now.earlier.items) =
    rw (c.tally-bytes.ensures.bytes, c.as_slice.ensures.value, c.drop_removed.ensures) refl in
    rw c.drop_removed.ensures (omega (arith, sum, filtered_there c.args.moment c.args.self.now.earlier.items))

pub returns-then-moment-self-clause-fullness : goal.returns-then-moment-self-clause-fullness
returns-then-moment-self-clause-fullness g c =
    let s = c.requires.sound in
    let sum : c.tally-bytes.result.0 ≡ all_bytes (filter (is_buffered c.args.moment) c.args.self.now.earlier.items) =
    rw (c.tally-bytes.ensures.bytes, c.as_slice.ensures.value, c.drop_removed.ensures) refl in
    omega (arith, s.all, fewer_bytes c.args.moment c.args.self.now.earlier.items, sum)

pub returns-else-moment-self-clause-now : goal.returns-else-moment-self-clause-now
returns-else-moment-self-clause-now g c =
    let s = c.requires.sound in
    let before : c.args.moment < c.args.self.now.next = c.if-moment-self.false in
    omega (arith, s.all, early_there c.args.moment c.args.self.now.next c.args.self.now.earlier.items before s.early)
