use Rattle.std.proofs.Common.{◌≡◌, ◌∙◌, ℕ, ◌^◌, refl, ap, arith}
use Rattle.arrival.specs.Arrivals.{times_at}
use Rattle.arrival.specs.Rows.{times_of}
use Rattle.tstd_rows.proofs.Views.{bytes_more}
use Rattle.tstd_rows.proofs.Rows.{passed_held, transport_most_found}
use Rattle.tstd_rows.specs.declared.transport_buffer.TransportBuffer.{TransportBuffer}
use Rattle.tstd_rows.proofs.VideoRows.{video_passed}
use Rattle.tstd_rows.proofs.stream_buffers.StreamBuffers.pass.Goals as goal

pub returns-clause-held : goal.returns-clause-held
returns-clause-held c = λ h k.
    let times : times_of c.row-row.result ≡ times_at c.args.arrival.now h.rx c.args.byte c.args.count =
    c.row-row.ensures.times ∙ ap (λ (r : ℕ). times_at c.args.arrival.now r c.args.byte c.args.count) (c.from.ensures ∙ k.rx) in
    passed_held c.args.self.now _ h (times_of c.row-row.result) (times_at c.args.arrival.now h.rx c.args.byte c.args.count) k times refl
    c.pass.ensures.view c.pass.ensures.buffer c.pass.ensures.size refl c.see.ensures

pub returns-clause-bytes : goal.returns-clause-bytes
returns-clause-bytes c = omega (
  arith,
  bytes_more c.args.self.now.view.transport c.pass.new.self.transport c.row-row.result c.pass.ensures.buffer,
  c.row-row.ensures.bytes,
)

pub returns-clause-most : goal.returns-clause-most
returns-clause-most c = λ h k.
    let times : times_of c.row-row.result ≡ times_at c.args.arrival.now h.rx c.args.byte c.args.count =
    c.row-row.ensures.times ∙ ap (λ (r : ℕ). times_at c.args.arrival.now r c.args.byte c.args.count) (c.from.ensures ∙ k.rx) in
    transport_most_found c.args.self.now h (times_of c.row-row.result) (times_at c.args.arrival.now h.rx c.args.byte c.args.count) c.pass.result k times
    c.pass.ensures.transport

pub returns-clause-video : goal.returns-clause-video
returns-clause-video c = λ h sizes k v. video_passed c.args.self.now.video sizes h.rate h.parts (times_at c.args.arrival.now h.rx c.args.byte c.args.count) v

pub invariant_of-self-clause-paced : goal.invariant_of-self-clause-paced
invariant_of-self-clause-paced c = omega (arith, ap (λ (b : TransportBuffer). b.step) c.pass.ensures.buffer, c.args.self.now.paced)

pub invariant_of-self-clause-soon : goal.invariant_of-self-clause-soon
invariant_of-self-clause-soon c = c.pass.ensures.last (2 ^ 86) c.args.self.now.soon c.row-row.ensures.early

pub invariant_of-self-clause-fewer : goal.invariant_of-self-clause-fewer
invariant_of-self-clause-fewer c = omega (
  arith,
  c.args.self.now.fewer,
  bytes_more c.args.self.now.view.transport c.pass.new.self.transport c.row-row.result c.pass.ensures.buffer,
)
