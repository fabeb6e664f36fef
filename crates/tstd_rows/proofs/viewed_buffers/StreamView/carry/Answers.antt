use Rattle.std.proofs.Common.{◌≡◌, ◌∙◌, sym, ℕ, max, length, ap, arith}
use Rattle.arrival.specs.declared.row.Row.{Row}
use Rattle.arrival.specs.Rows.{times_of}
use Rattle.clock27.specs.Departure.{departures}
use Rattle.tstd_rows.proofs.Pieces.{length-row}
use Rattle.tstd_rows.specs.History.{with_bytes}
use Rattle.tstd_rows.specs.declared.transport_buffer.TransportBuffer.{TransportBuffer}
use Rattle.tstd_rows.proofs.Together.{left_by}
use Rattle.tstd_rows.proofs.Views.{carried, left_bytes, bytes_more, climbing, held_left, least_left, most_left, counted_more}
use Rattle.tstd_rows.proofs.viewed_buffers.StreamView.carry.Goals as goal

pub enter_leaving-found-requires-clause-climbing : goal.enter_leaving-found-requires-clause-climbing
enter_leaving-found-requires-clause-climbing g c =
    let old = c.args.self.now in
    climbing old.transport.step old.transport.last c.arrive-arrived.result.leaving (times_of c.args.row.now) old.paced.some c.arrive-arrived.ensures.left

pub enter_leaving-found-requires-clause-room : goal.enter_leaving-found-requires-clause-room
enter_leaving-found-requires-clause-room g c =
    let old = c.args.self.now in
    let all = left_bytes old.transport.step old.transport.last c.arrive-arrived.result.leaving c.args.row.now c.arrive-arrived.ensures.left in
    omega (arith, all, old.fewer, c.requires.count)

pub enter_leaving-found-requires-clause-some : goal.enter_leaving-found-requires-clause-some
enter_leaving-found-requires-clause-some g c =
    let old = c.args.self.now in
    let all = left_bytes old.transport.step old.transport.last c.arrive-arrived.result.leaving c.args.row.now c.arrive-arrived.ensures.left in
    omega (arith, all, c.requires.some)

pub enter_leaving-found-requires-clause-last : goal.enter_leaving-found-requires-clause-last
enter_leaving-found-requires-clause-last g c =
    let old = c.args.self.now in
    left_by old.transport.step old.transport.last c.arrive-arrived.result.leaving (times_of c.args.row.now) c.arrive-arrived.ensures.left
    (c.arrive-arrived.ensures.last ∙ ap (λ (t : TransportBuffer). t.last) c.arrive-arrived.ensures.buffer)

pub invariant_of-self-clause-fewer : goal.invariant_of-self-clause-fewer
invariant_of-self-clause-fewer g c =
    let old = c.args.self.now in
    let all = left_bytes old.transport.step old.transport.last c.arrive-arrived.result.leaving c.args.row.now c.arrive-arrived.ensures.left in
    let more = bytes_more old.transport c.arrive-arrived.new.transport c.args.row.now c.arrive-arrived.ensures.buffer in
    omega (arith, all, more, old.fewer, c.enter_leaving-found.ensures.fullness)

pub invariant_of-self-clause-counted : goal.invariant_of-self-clause-counted
invariant_of-self-clause-counted g c =
    let old = c.args.self.now in
    let more = bytes_more old.transport c.arrive-arrived.new.transport c.args.row.now c.arrive-arrived.ensures.buffer in
    rw c.add_bytes.ensures
    (counted_more old.unit c.args.row.now.bytes c.arrive-arrived.new.transport.last old.transport.bytes c.arrive-arrived.new.transport.bytes old.counted
    (omega (arith, more)))

pub returns-clause-view : goal.returns-clause-view
returns-clause-view g c = λ parts v.
    let old = c.args.self.now in
    let row : Row = c.args.row.now in
    let leaving = c.arrive-arrived.result.leaving in
    let ds = departures old.transport.step old.transport.last (times_of row) in
    let e = c.enter_leaving-found.ensures in
    let many : row.bytes ≡ length (times_of row) = sym (length-row row.from row.pace row.parts row.bytes) in
    carried old _ parts (times_of row) v old.paced.some c.arrive-arrived.ensures.buffer c.arrive-arrived.ensures.arrived.under_way
    c.arrive-arrived.ensures.arrived.size
    (held_left old.main c.enter_leaving-found.new.buffer leaving ds c.arrive-arrived.ensures.left e.there) e.until
    (e.peak ∙ ap (λ (n : ℕ). max old.main.peak n) (e.most ∙ most_left old.main leaving ds c.arrive-arrived.ensures.left))
    (c.add_bytes.ensures ∙ ap (λ (n : ℕ). with_bytes old.unit n c.arrive-arrived.new.transport.last) many)

pub returns-clause-main : goal.returns-clause-main
returns-clause-main g c =
    let old = c.args.self.now in
    c.enter_leaving-found.ensures.most
    ∙ most_left old.main c.arrive-arrived.result.leaving (departures old.transport.step old.transport.last (times_of c.args.row.now))
    c.arrive-arrived.ensures.left

pub returns-clause-least : goal.returns-clause-least
returns-clause-least g c =
    let old = c.args.self.now in
    c.enter_leaving-found.ensures.least
    ∙ least_left old.main c.arrive-arrived.result.leaving (departures old.transport.step old.transport.last (times_of c.args.row.now))
    c.arrive-arrived.ensures.left

pub returns-clause-many : goal.returns-clause-many
returns-clause-many g c =
    let old = c.args.self.now in
    left_bytes old.transport.step old.transport.last c.arrive-arrived.result.leaving c.args.row.now c.arrive-arrived.ensures.left
