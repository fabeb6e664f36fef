use Rattle.std.proofs.Common.{◌≡◌, ◌∙◌, ℕ, ◌^◌, ◌≤◌, refl, ap, arith}
use Rattle.arrival.specs.Arrivals.{times_at}
use Rattle.arrival.specs.Rows.{times_of}
use Rattle.tstd_rows.proofs.Views.{bytes_more}
use Rattle.tstd_rows.proofs.Rows.{carried_ended, carried_held, main_lowest_found, main_most_found, transport_most_found}
use Rattle.tstd_rows.specs.Buffers.{times_left}
use Rattle.tstd_rows.specs.declared.transport_buffer.TransportBuffer.{TransportBuffer}
use Rattle.tstd_rows.proofs.VideoRows.{left_held, soon_row}
use Rattle.tstd_rows.proofs.stream_buffers.StreamBuffers.carry.Goals as goal

pub returns-clause-held : goal.returns-clause-held
returns-clause-held c = λ h k.
    let old = c.args.self.now in
    let seen = c.carry-carried.ensures in
    let times : times_of c.row-row.result ≡ times_at c.args.arrival.now h.rx c.args.byte c.args.count =
    c.row-row.ensures.times ∙ ap (λ (r : ℕ). times_at c.args.arrival.now r c.args.byte c.args.count) (c.from.ensures ∙ k.rx) in
    carried_held old _ h (times_of c.row-row.result) (times_at c.args.arrival.now h.rx c.args.byte c.args.count)
    c.carry-carried.result.found.main c.carry-carried.new.self.transport.last k times refl seen.view seen.buffer seen.size old.view.paced.some seen.main refl
    c.see.ensures.size c.see.ensures.under_way refl

pub returns-clause-main : goal.returns-clause-main
returns-clause-main c = λ h k.
    let old = c.args.self.now in
    let seen = c.carry-carried.ensures in
    let times : times_of c.row-row.result ≡ times_at c.args.arrival.now h.rx c.args.byte c.args.count =
    c.row-row.ensures.times ∙ ap (λ (r : ℕ). times_at c.args.arrival.now r c.args.byte c.args.count) (c.from.ensures ∙ k.rx) in
    carried_ended old c.carry-carried.new.self.transport h (times_of c.row-row.result) (times_at c.args.arrival.now h.rx c.args.byte c.args.count)
    c.carry-carried.result.found.main c.carry-carried.new.self.transport.last c.see.new.ended k times
    seen.buffer old.view.paced.some seen.main refl c.see.ensures.ended

pub returns-clause-most : goal.returns-clause-most
returns-clause-most c = λ h k.
    let times : times_of c.row-row.result ≡ times_at c.args.arrival.now h.rx c.args.byte c.args.count =
    c.row-row.ensures.times ∙ ap (λ (r : ℕ). times_at c.args.arrival.now r c.args.byte c.args.count) (c.from.ensures ∙ k.rx) in
    transport_most_found c.args.self.now h (times_of c.row-row.result) (times_at c.args.arrival.now h.rx c.args.byte c.args.count)
    c.carry-carried.result.found.transport k times
    c.carry-carried.ensures.transport

pub returns-clause-main_most : goal.returns-clause-main_most
returns-clause-main_most c = λ h k.
    let old = c.args.self.now in
    let times : times_of c.row-row.result ≡ times_at c.args.arrival.now h.rx c.args.byte c.args.count =
    c.row-row.ensures.times ∙ ap (λ (r : ℕ). times_at c.args.arrival.now r c.args.byte c.args.count) (c.from.ensures ∙ k.rx) in
    main_most_found old h (times_of c.row-row.result) (times_at c.args.arrival.now h.rx c.args.byte c.args.count) c.carry-carried.result.found.main k times
    old.view.paced.some
    c.carry-carried.ensures.main

pub returns-clause-main_least : goal.returns-clause-main_least
returns-clause-main_least c = λ h k.
    let old = c.args.self.now in
    let times : times_of c.row-row.result ≡ times_at c.args.arrival.now h.rx c.args.byte c.args.count =
    c.row-row.ensures.times ∙ ap (λ (r : ℕ). times_at c.args.arrival.now r c.args.byte c.args.count) (c.from.ensures ∙ k.rx) in
    main_lowest_found old h (times_of c.row-row.result) (times_at c.args.arrival.now h.rx c.args.byte c.args.count) c.carry-carried.result.found.least k times
    old.view.paced.some
    c.carry-carried.ensures.least

pub returns-clause-bytes : goal.returns-clause-bytes
returns-clause-bytes c = omega (
  arith,
  bytes_more c.args.self.now.view.transport c.carry-carried.new.self.transport c.row-row.result c.carry-carried.ensures.buffer,
  c.row-row.ensures.bytes,
)

-- The buffers of video

pub take_video-requires-clause-soon : goal.take_video-requires-clause-soon
take_video-requires-clause-soon c =
    let old = c.args.self.now in
    let after = c.carry-carried.new.self.transport in
    let rows = (c.carry-carried.ensures.last (2 ^ 86) old.soon c.row-row.ensures.early).rows in
    let slow : after.step ≤ 2 ^ 28 = omega (arith, ap (λ (b : TransportBuffer). b.step) c.carry-carried.ensures.buffer, old.paced) in (
      soon_row c.carry-carried.result.leaving.waiting after.bytes after.step c.carry-carried.new.self.paced.few slow rows.waiting,
      soon_row c.carry-carried.result.leaving.free after.bytes after.step c.carry-carried.new.self.paced.few slow rows.free,
    )

pub take_video-requires-clause-some : goal.take_video-requires-clause-some
take_video-requires-clause-some c = omega (arith, c.carry-carried.ensures.many, c.row-row.ensures.bytes, c.requires.some)

pub take_video-requires-clause-count : goal.take_video-requires-clause-count
take_video-requires-clause-count c = omega (arith, c.args.self.now.fewer, c.carry-carried.ensures.many, c.row-row.ensures.bytes, c.requires.room)

pub returns-clause-video : goal.returns-clause-video
returns-clause-video c = λ h sizes k v.
    let times : times_of c.row-row.result ≡ times_at c.args.arrival.now h.rx c.args.byte c.args.count =
    c.row-row.ensures.times ∙ ap (λ (r : ℕ). times_at c.args.arrival.now r c.args.byte c.args.count) (c.from.ensures ∙ k.rx) in
    c.take_video.ensures.held sizes h.rate h.parts (times_at c.args.arrival.now h.rx c.args.byte c.args.count) v
    (left_held c.args.self.now h (times_left c.carry-carried.result.leaving) (times_of c.row-row.result)
    (times_at c.args.arrival.now h.rx c.args.byte c.args.count) k times c.carry-carried.ensures.left)

pub returns-clause-entered_video : goal.returns-clause-entered_video
returns-clause-entered_video c = λ h sizes k v.
    let times : times_of c.row-row.result ≡ times_at c.args.arrival.now h.rx c.args.byte c.args.count =
    c.row-row.ensures.times ∙ ap (λ (r : ℕ). times_at c.args.arrival.now r c.args.byte c.args.count) (c.from.ensures ∙ k.rx) in
    c.take_video.ensures.entered sizes h.rate h.parts (times_at c.args.arrival.now h.rx c.args.byte c.args.count) v
    (left_held c.args.self.now h (times_left c.carry-carried.result.leaving) (times_of c.row-row.result)
    (times_at c.args.arrival.now h.rx c.args.byte c.args.count) k times c.carry-carried.ensures.left)

pub invariant_of-self-clause-paced : goal.invariant_of-self-clause-paced
invariant_of-self-clause-paced c = omega (arith, ap (λ (b : TransportBuffer). b.step) c.carry-carried.ensures.buffer, c.args.self.now.paced)

pub invariant_of-self-clause-soon : goal.invariant_of-self-clause-soon
invariant_of-self-clause-soon c = (c.carry-carried.ensures.last (2 ^ 86) c.args.self.now.soon c.row-row.ensures.early).soon

pub invariant_of-self-clause-fewer : goal.invariant_of-self-clause-fewer
invariant_of-self-clause-fewer c = omega (
  arith,
  c.take_video.ensures.bytes,
  c.args.self.now.fewer,
  c.carry-carried.ensures.many,
  bytes_more c.args.self.now.view.transport c.carry-carried.new.self.transport c.row-row.result c.carry-carried.ensures.buffer,
)
